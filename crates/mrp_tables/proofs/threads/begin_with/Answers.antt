use Rattle.mrp_tables.specs.Sources.{left_of}
use Rattle.mrp_tables.proofs.SourceFacts.{consumes_front}
use Rattle.mrp_tables.proofs.ThreadFacts.{beginning, beginning_fault, beginning_none}
use Rattle.mrp_tables.proofs.threads.begin_with.Goals as goal

pub returns-then-not-is_plain-clause-exact : goal.returns-then-not-is_plain-clause-exact
returns-then-not-is_plain-clause-exact g c =
    beginning_none c.args.limits _ _ _ c.args.text.now c.leave.result (consumes_front c.args.text.now (left_of g.R.Read.remaining c.args.source.now))
    c.leave.ensures.given c.leave.ensures.none c.leave.ensures.fault

pub returns-in-Ok-None-clause-exact : goal.returns-in-Ok-None-clause-exact
returns-in-Ok-None-clause-exact g c =
    beginning_none c.args.limits _ _ _ c.args.text.now c.leave-in-Ok-None.result (consumes_front c.args.text.now (left_of g.R.Read.remaining c.args.source.now))
    c.leave-in-Ok-None.ensures.given c.leave-in-Ok-None.ensures.none c.leave-in-Ok-None.ensures.fault

pub returns-in-Ok-Some-clause-exact : goal.returns-in-Ok-Some-clause-exact
returns-in-Ok-Some-clause-exact g c =
    beginning c.args.limits _ _ c.args.text.now c.in-Ok-Some.draft (consumes_front c.args.text.now (left_of g.R.Read.remaining c.args.source.now))
    (c.is_plain.ensures c.if-not-is_plain.false) (rw c.in-Ok-Some.field-0-is at c.in-Ok-Some.ensures.exact)

pub returns-in-Err-clause-exact : goal.returns-in-Err-clause-exact
returns-in-Err-clause-exact g c =
    beginning_fault c.args.limits _ _ c.args.text.now _ (consumes_front c.args.text.now (left_of g.R.Read.remaining c.args.source.now))
    (c.is_plain.ensures c.if-not-is_plain.false) c.in-Err.ensures.exact
