use Rattle.mrp_record.proofs.Beginnings as proved
use Rattle.mrp_record.proofs.laws.texts_have_one_length.Goals as goal

pub returns-clause-texts : goal.returns-clause-texts
returns-clause-texts c = proved.texts_have_one_length

pub returns-clause-beginnings : goal.returns-clause-beginnings
returns-clause-beginnings c = proved.beginnings_are_no_longer
