use Rattle.mrp_book.proofs.Meaning as proved
use Rattle.mrp_book.proofs.laws.faults_are_first.Goals as goal

pub returns : goal.returns
returns c = proved.faults_are_first
