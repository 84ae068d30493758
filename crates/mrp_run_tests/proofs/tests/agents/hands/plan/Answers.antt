use Rattle.std.proofs.Common.{ap, sym}
use Rattle.mrp_master_data.specs.declared.rows.PairRow.{PairRow}
use Rattle.mrp_world.proofs.Steps as step
use Rattle.mrp_agent.specs.InNetwork.{ShowsAgent}
use Rattle.mrp_run_tests.proofs.Handing as hand
use Rattle.mrp_run_tests.proofs.tests.agents.hands.plan.Goals as goal

pub plan-requires : goal.plan-requires
plan-requires c =
    let is = ap (λ (row : PairRow). row.plant.0) (sym c.pair.ensures) in
    let some = hand.somewhere c.requires.alone.run in
    record { pair = step.may_plan ShowsAgent _ _ _ _ _ _ some c.requires.pair (step.owner_known _ _ _ _ _ _ some c.requires.pair is) is }

pub returns : goal.returns
returns c =
    let is = ap (λ (row : PairRow). row.plant.0) (sym c.pair.ensures) in
    let some = hand.somewhere c.requires.alone.run in
    record {
      alone = hand.planned_or_not c.args.network.now _ _ _ _ _ _ c.requires.pair
          (step.owner_known _ _ _ _ _ _ some c.requires.pair is) is c.requires.alone c.plan.ensures.can
          c.plan.ensures.planned c.plan.ensures.unchanged;
    }
