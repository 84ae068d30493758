use Rattle.std.proofs.Common.{◌≡◌, ℕ, ◌<◌, ◌∙◌, false, true, None, Some, refl, Bor, get_or, length, sym, ap, subst, arith}
use Rattle.std.proofs.lemmas.List.{get_or_default}
use Rattle.mrp_net.specs.Plan.{no_rows}
use Rattle.mrp_netting.specs.declared.plan.PairPlan.{PairPlan}
use Rattle.mrp_readiness.specs.Progress.{is_planned}
use Rattle.mrp_agent.specs.Fields.{indexes_of}
use Rattle.mrp_agent.specs.State.{AgentState, pair_place, plans_of}
use Rattle.mrp_agent.specs.contracts.agent.Agent.{the_view}
use Rattle.mrp_agent.proofs.Reading.{other_unplanned, place_said, planned_said, none_there}
use Rattle.mrp_agent.proofs.agent.Agent.planned.Goals as goal

pub returns-in_err-place-clause-there : goal.returns-in_err-place-clause-there
returns-in_err-place-clause-there c =
    let A : AgentState = the_view c.self.inside in
    let flag : is_planned c.args.self.now.progress.planned (pair_place c.args.self.now.view c.args.x.0) ≡ false =
    subst (λ (a : AgentState). is_planned a.progress.planned (pair_place a.view c.args.x.0) ≡ false) c.self.view_is
    (other_unplanned A (indexes_of c.self.inside) c.self.invariant c.args.x (sym c.place.ensures ∙ c.in_err-place.was)) in
    rw c.from_residual.ensures (none_there _ flag)

pub returns-in_err-place-clause-exact : goal.returns-in_err-place-clause-exact
returns-in_err-place-clause-exact c =
    let A : AgentState = the_view c.self.inside in
    let flag : is_planned A.progress.planned (pair_place A.view c.args.x.0) ≡ false =
    other_unplanned A (indexes_of c.self.inside) c.self.invariant c.args.x (sym c.place.ensures ∙ c.in_err-place.was) in
    planned_said c.args.x c.from_residual.result c.self.view_is c.self.invariant (rw c.from_residual.ensures (none_there _ flag))

pub returns-then-planned-clause-exact : goal.returns-then-planned-clause-exact
returns-then-planned-clause-exact c =
    let A : AgentState = the_view c.self.inside in
    let at = place_said A c.args.x c.place.result c.in_ok-place.place c.place.ensures c.in_ok-place.was in
    let flag : is_planned A.progress.planned (pair_place A.view c.args.x.0) ≡ true =
    ap (is_planned A.progress.planned) at.0 ∙ sym c.planned.ensures ∙ c.if-planned.true in
    planned_said c.args.x (Some c.index.result) c.self.view_is c.self.invariant (λ _. flag, λ _. refl)

pub returns-else-planned-clause-exact : goal.returns-else-planned-clause-exact
returns-else-planned-clause-exact c =
    let A : AgentState = the_view c.self.inside in
    let at = place_said A c.args.x c.place.result c.in_ok-place.place c.place.ensures c.in_ok-place.was in
    let flag : is_planned A.progress.planned (pair_place A.view c.args.x.0) ≡ false =
    ap (is_planned A.progress.planned) at.0 ∙ sym c.planned.ensures ∙ c.if-planned.false in
    planned_said {X = Bor PairPlan} c.args.x None c.self.view_is c.self.invariant (none_there _ flag)

pub returns-then-planned-clause-plan : goal.returns-then-planned-clause-plan
returns-then-planned-clause-plan c =
    let A : AgentState = the_view c.self.inside in
    let at = place_said A c.args.x c.place.result c.in_ok-place.place c.place.ensures c.in_ok-place.was in
    let inside : c.in_ok-place.place < length A.plans = omega (arith, at.1, c.self.invariant.rooms.plans.count) in
    c.index.ensures ∙ get_or_default A.plans c.in_ok-place.place c.index.result.now no_rows inside ∙ ap (λ (n : ℕ). get_or A.plans n no_rows) (sym at.0)
    ∙ ap (λ (a : AgentState). plans_of a c.args.x.0) c.self.view_is

pub returns-else-planned-clause-there : goal.returns-else-planned-clause-there
returns-else-planned-clause-there c =
    let A : AgentState = the_view c.self.inside in
    let at = place_said A c.args.x c.place.result c.in_ok-place.place c.place.ensures c.in_ok-place.was in
    let flag : is_planned A.progress.planned (pair_place A.view c.args.x.0) ≡ false =
    ap (is_planned A.progress.planned) at.0 ∙ sym c.planned.ensures ∙ c.if-planned.false in
    none_there _ (subst (λ (a : AgentState). is_planned a.progress.planned (pair_place a.view c.args.x.0) ≡ false) c.self.view_is flag)
