use Rattle.mrp_book.proofs.Deciding as proved
use Rattle.mrp_book.proofs.laws.no_fault_is_in_form.Goals as goal

pub returns : goal.returns
returns c = proved.no_fault_is_in_form
