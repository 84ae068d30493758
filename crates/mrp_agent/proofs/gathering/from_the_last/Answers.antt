use Rattle.std.proofs.Common.{◌++◌, ◌-◌, Vec, Global, List, length, take, reverse, ap, subst, ◌∙◌, arith}
use Rattle.mrp_netting.specs.PlanRows.{PlanRows}
use Rattle.mrp_net.specs.Plan.{plan_of}
use Rattle.mrp_netting.specs.declared.plan.PairPlan.{PairPlan}
use Rattle.mrp_agent.specs.Given.{HaveGiven}
use Rattle.mrp_agent.proofs.Gathers as gather
use Rattle.mrp_agent.proofs.gathering.from_the_last.Goals as goal
use Rattle.mrp_agent.proofs.gathering.from_the_last.Goals.{in-Some+in_ok-push, in_default}

pub loop-done-init : goal.loop-done-init
loop-done-init c =
    let N = c.args.network.now in record {
      given = subst (λ n. HaveGiven N c.args.given.now n) (omega arith) c.requires.given;
      plans = ap (λ (xs : List PlanRows). xs ++ reverse (take (length N.pairs - 0) (plan_of N))) c.in_ok-plans.ensures.items
          ∙ gather.last_first (plan_of N) (length N.pairs - 0) (omega (arith, gather.plan_size N c.requires.sized));
    }

pub loop-done-preserved : goal.loop-done-preserved
loop-done-preserved c =
    let N = c.args.network.now in record {
      given = gather.have_next N _ c.pairs-pairs.result c.loop-done.done c.pairs-pairs.ensures.value c.loop-done-test.true c.take_last.ensures.given;
      plans = elim c.match-take_last.branch [
        | in-Some+in_ok-push w ↦ gather.gathered_next N c.requires.sized c.pairs-pairs.result c.loop-done.done c.pairs-pairs.ensures.value c.loop-done-test.true
            _ _ _ c.take_last.result
            c.take_last.ensures.plan w.in-Some.is (ap (λ (v : Vec PairPlan Global). v.items) w.plans-is
            ∙ w.in_ok-push.ensures.items) c.loop-done.invariant.plans
        | in_default w ↦ absurd (gather.none_or_some c.take_last.result _ c.take_last.ensures.plan w.in_default.is)
      ];
    }
