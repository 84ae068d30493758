use Rattle.std.proofs.Common.{◌≡◌, List, map, refl, sym, subst, ◌∙◌}
use Rattle.std.proofs.lemmas.Result.{IfOk-from_err}
use Rattle.mrp_net.specs.Plan.{plan_of}
use Rattle.mrp_run.specs.declared.fault.RunFault.TheVariants.{Memory}
use Rattle.mrp_run.specs.declared.plant.Plant.{Plant}
use Rattle.mrp_run.specs.Ends.{AreOfEnds, HaveEnded, HavePlans}
use Rattle.mrp_run.specs.Outcome.{AreOfRun}
use Rattle.mrp_run.proofs.Dealt.{in_place}
use Rattle.mrp_run.proofs.JoinedNetwork.{have_ended}
use Rattle.mrp_run.proofs.Ran.{are_of_run}
use Rattle.mrp_run.proofs.StopRules.{handed_on}
use Rattle.mrp_run.proofs.network.outcome_of.Goals as goal

pub join_all-requires : goal.join_all-requires
join_all-requires g c =
    let N = c.args.network.now in
    let through = c.requires.through in record {
      ended = (
        through.names,
        through.all_lanes,
        subst (λ (plants : List Plant). HaveEnded N through.names through.names plants) (sym c.as_mut_slice.ensures.value)
            (have_ended N c.args.plants.items through),
      );
    }

pub returns-in_err-lanes-clause-outcome : goal.returns-in_err-lanes-clause-outcome
returns-in_err-lanes-clause-outcome g c = IfOk-from_err c.from_residual.result
    (λ o. (o.plans.items ≡ plan_of c.args.network.now) × AreOfRun c.args.network.now (map g.L.OfEnds.carried o.lanes.items)) c.from_residual.ensures.0

pub plans_of-requires-clause-sized : goal.plans_of-requires-clause-sized
plans_of-requires-clause-sized g c = c.requires.sized

pub plans_of-requires-clause-plans : goal.plans_of-requires-clause-plans
plans_of-requires-clause-plans g c =
    let plans = c.in_ok-lanes.ensures.plans in
    subst (HavePlans c.args.network.now)
    (sym (in_place c.args.plants.items c.join_all.new.plants c.args.plants.len c.args.plants.ok.0 (plans.all_plants ∙ sym c.requires.through.all_plants)))
    plans

pub returns-in_err-plans-clause-outcome : goal.returns-in_err-plans-clause-outcome
returns-in_err-plans-clause-outcome g c = IfOk-from_err c.from_residual-in_err-plans.result
    (λ o. (o.plans.items ≡ plan_of c.args.network.now) × AreOfRun c.args.network.now (map g.L.OfEnds.carried o.lanes.items))
    c.from_residual-in_err-plans.ensures.0

pub returns-in_err-lanes-clause-fault : goal.returns-in_err-lanes-clause-fault
returns-in_err-lanes-clause-fault g c = handed_on (λ fault. fault ≡ Memory) c.from_residual.result Memory c.from_residual.ensures.1 refl

pub returns-in_err-plans-clause-fault : goal.returns-in_err-plans-clause-fault
returns-in_err-plans-clause-fault g c = handed_on (λ fault. fault ≡ Memory) c.from_residual-in_err-plans.result _ c.from_residual-in_err-plans.ensures.1
    c.in_err-plans.ensures.fault

pub returns-clause-outcome : goal.returns-clause-outcome
returns-clause-outcome g c = (
  c.in_ok-plans.ensures.plans,
  are_of_run c.args.network.now c.requires.sized c.args.plants.items c.requires.through (map g.L.OfEnds.carried c.in_ok-lanes.lanes.items)
      (subst (λ (plants : List Plant). AreOfEnds c.args.network.now plants (map g.L.OfEnds.carried c.in_ok-lanes.lanes.items)) c.as_mut_slice.ensures.value
      c.in_ok-lanes.ensures.ends),
)
