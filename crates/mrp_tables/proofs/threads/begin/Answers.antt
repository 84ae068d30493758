use Rattle.std.proofs.Common.{subst, sym}
use Rattle.std.specs.Io.KnownBytes.{Consumes}
use Rattle.mrp_tables.specs.Sources.{left_of}
use Rattle.mrp_tables.proofs.ThreadFacts.{beginning_none, begun_front}
use Rattle.mrp_tables.proofs.threads.begin.Goals as goal

pub returns-in-Ok-true-clause-exact : goal.returns-in-Ok-true-clause-exact
returns-in-Ok-true-clause-exact g c =
    begun_front c.args.limits (left_of g.R.Read.remaining c.args.source.now) (left_of g.R.Read.remaining c.fill_first.new.source)
    (left_of g.R.Read.remaining c.begin_with.new.source) c.text.result.now c.begin_with.result
    (subst (Consumes (left_of g.R.Read.remaining c.args.source.now) (left_of g.R.Read.remaining c.fill_first.new.source)) (sym c.text.ensures)
    c.in-Ok-true.ensures.taken)
    c.begin_with.ensures.exact

pub returns-in-Ok-false-clause-exact : goal.returns-in-Ok-false-clause-exact
returns-in-Ok-false-clause-exact g c =
    beginning_none c.args.limits _ _ _ c.text-in-Ok-false.result.now c.leave.result
    (subst (Consumes (left_of g.R.Read.remaining c.args.source.now) (left_of g.R.Read.remaining c.fill_first.new.source)) (sym c.text-in-Ok-false.ensures)
    c.in-Ok-false.ensures.taken)
    c.leave.ensures.given c.leave.ensures.none c.leave.ensures.fault
