use Rattle.mrp_record.proofs.Texts as proved
use Rattle.mrp_record.proofs.cursor_laws.shown_are_short.Goals as goal

pub returns-clause-short : goal.returns-clause-short
returns-clause-short c = proved.shown_are_short

pub returns-clause-bounded : goal.returns-clause-bounded
returns-clause-bounded c = proved.small_are_bounded
