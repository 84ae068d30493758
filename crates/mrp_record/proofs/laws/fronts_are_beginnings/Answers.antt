use Rattle.mrp_record.proofs.Beginnings as proved
use Rattle.mrp_record.proofs.laws.fronts_are_beginnings.Goals as goal

pub returns-clause-empty : goal.returns-clause-empty
returns-clause-empty c = proved.empty_is_a_beginning

pub returns-clause-fronts : goal.returns-clause-fronts
returns-clause-fronts c = proved.fronts_are_beginnings

pub returns-clause-nested : goal.returns-clause-nested
returns-clause-nested c = proved.fronts_are_nested
