use Rattle.mrp_record.proofs.Beginnings as proved
use Rattle.mrp_record.proofs.laws.closing_is_last.Goals as goal

pub returns-clause-nothing : goal.returns-clause-nothing
returns-clause-nothing c = proved.nothing_follows_closing

pub returns-clause-whole : goal.returns-clause-whole
returns-clause-whole c = proved.closed_is_whole
