use Rattle.std.proofs.Common.{◌≡◌, ◌∙◌, sym, subst}
use Rattle.mrp_loops.specs.Sized.{IsSized}
use Rattle.mrp_master_data.specs.Table.{Table}
use Rattle.mrp_plant_view.specs.Seen.{IsView}
use Rattle.mrp_plant_view.specs.View.{plant_rows}
use Rattle.mrp_agent.specs.Kept.{HasSmallOpenings}
use Rattle.mrp_agent.proofs.Viewing.{views_can_be_planned}
use Rattle.mrp_run_tests.proofs.Opening.{opening_is_plannable}
use Rattle.mrp_run_tests.proofs.tests.crews.new_agent.Goals as goal

pub new-requires-clause-seen : goal.new-requires-clause-seen
new-requires-clause-seen c =
    let N : Table = c.network-network.result.now in
    let sized : IsSized N = subst IsSized (sym c.network-network.ensures.value) c.network-network.ensures.sized in
    subst IsView (sym c.in_ok-view.ensures) (views_can_be_planned N sized c.args.plant).0

pub new-requires-clause-openings : goal.new-requires-clause-openings
new-requires-clause-openings c =
    let N : Table = c.network-network.result.now in
    let sized : IsSized N = subst IsSized (sym c.network-network.ensures.value) c.network-network.ensures.sized in
    subst HasSmallOpenings (sym c.in_ok-view.ensures) (views_can_be_planned N sized c.args.plant).1

pub returns : goal.returns
returns c =
    let N : Table = c.network-network.result.now in
    let sized : IsSized N = subst IsSized (sym c.network-network.ensures.value) c.network-network.ensures.sized in
    let view : c.in_ok-agent.agent.view ≡ plant_rows N c.args.plant = c.in_ok-agent.ensures.view ∙ c.in_ok-view.ensures in
    record { plannable = opening_is_plannable N sized c.args.plant c.in_ok-agent.agent view c.in_ok-agent.ensures.opens }
