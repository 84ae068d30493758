use Rattle.std.proofs.Common.{◌∙◌, ap, arith}
use Rattle.mrp_cal.proofs.Since.{since-before, since-end, since-init, since-next}
use Rattle.mrp_cal.proofs.calendar.Calendar.since.Goals as goal

pub loop-begun-init : goal.loop-begun-init
loop-begun-init c = record {
  up_to = omega arith;
  day = since-init c.args.self.now c.self.inside.first _ c.args.t (ap (λ x. x.first) c.self.view_is) c.begun-begun-items.ensures.value;
}

pub returns-then-t-begun-clause-up_to : goal.returns-then-t-begun-clause-up_to
returns-then-t-begun-clause-up_to c = c.loop-begun.invariant.up_to

pub returns-then-t-begun-clause-day : goal.returns-then-t-begun-clause-day
returns-then-t-begun-clause-day c =
    c.loop-begun.invariant.day ∙ since-before _ _ _ _ _ _ _ c.loop-begun-test.true c.if-t-begun.true

pub loop-begun-preserved : goal.loop-begun-preserved
loop-begun-preserved c = record {
  up_to = c.if-t-begun.false;
  day = c.loop-begun.invariant.day ∙ since-next _ _ _ _ _ _ _ c.loop-begun-test.true c.if-t-begun.false;
}

pub returns-clause-up_to : goal.returns-clause-up_to
returns-clause-up_to c = c.loop-begun.invariant.up_to

pub returns-clause-day : goal.returns-clause-day
returns-clause-day c = c.loop-begun.invariant.day ∙ since-end _ _ _ _ _ _ c.loop-begun-test.false
