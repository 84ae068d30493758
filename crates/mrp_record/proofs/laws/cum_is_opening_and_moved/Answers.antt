use Rattle.mrp_record.proofs.Figures as proved
use Rattle.mrp_record.proofs.laws.cum_is_opening_and_moved.Goals as goal

pub returns : goal.returns
returns c = proved.cum_is_opening_and_moved
