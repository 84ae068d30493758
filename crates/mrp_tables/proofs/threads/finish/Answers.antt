use Rattle.std.proofs.Common.{Ok, Err, refl}
use Rattle.mrp_tables.specs.Pieces.{rows_of_bytes}
use Rattle.mrp_tables.specs.Sources.{left_of}
use Rattle.mrp_tables.proofs.Asked.{whole_ends}
use Rattle.mrp_tables.proofs.ThreadFacts.{finished_all}
use Rattle.std.proofs.Common.{◌≡◌, IfOk, subst}
use Rattle.mrp_qty.specs.declared.limits.LimitSet.{LimitSet}
use Rattle.mrp_tables.proofs.threads.finish.Goals as goal

pub returns-in-Ok-clause-exact : goal.returns-in-Ok-clause-exact
returns-in-Ok-clause-exact g c = λ rows begun.
    finished_all c.args.reading rows (rows_of_bytes (left_of g.R.Read.remaining c.args.source.now)) c.args.draft c.read_by_pieces.new.draft (Ok (tt {0}))
    c.accept.result begun c.in-Ok.ensures.exact c.accept.ensures.exact

pub returns-in-Ok-clause-whole : goal.returns-in-Ok-clause-whole
returns-in-Ok-clause-whole g c = whole_ends c.args.reading c.read_by_pieces.new.draft.lists c.accept.result c.accept.ensures.exact

pub returns-in-Err-clause-exact : goal.returns-in-Err-clause-exact
returns-in-Err-clause-exact g c = λ rows begun.
    finished_all c.args.reading rows (rows_of_bytes (left_of g.R.Read.remaining c.args.source.now)) c.args.draft c.read_by_pieces.new.draft
    (Err c.in-Err.fault) (Err c.in-Err.fault) begun c.in-Err.ensures.exact refl

pub returns-in-Ok-clause-limits : goal.returns-in-Ok-clause-limits
returns-in-Ok-clause-limits g c =
    subst (λ (s : LimitSet). IfOk c.accept.result (λ tables. tables.limits ≡ s)) c.in-Ok.ensures.limits c.accept.ensures.limits
