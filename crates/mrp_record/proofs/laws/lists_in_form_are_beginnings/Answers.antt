use Rattle.mrp_record.proofs.Begun as proved
use Rattle.mrp_record.proofs.laws.lists_in_form_are_beginnings.Goals as goal

pub returns : goal.returns
returns c = proved.lists_in_form_are_beginnings
