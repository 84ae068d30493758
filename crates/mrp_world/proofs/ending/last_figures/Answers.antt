use Rattle.std.proofs.Common.{◌≡◌, ℕ, length, ap, subst, sym, ◌∙◌, arith}
use Rattle.std.specs.List.{flat_map, range_with_len}
use Rattle.std.specs.Prelude.{All}
use Rattle.mrp_master_data.specs.Table.{IsTable, Table}
use Rattle.mrp_net.specs.Lanes.{lanes}
use Rattle.mrp_net.specs.PlanLaws.{Fits}
use Rattle.mrp_loops.specs.Loop.{IsLoopFree}
use Rattle.mrp_loops.proofs.OnePlan.{one_plan}
use Rattle.mrp_world.specs.Figures.{last_figures, last_on}
use Rattle.mrp_book.specs.LaneFigures.{IsLaneFigure}
use Rattle.mrp_world.proofs.Pieces as piece
use Rattle.mrp_world.proofs.Carrying.{last_are_of_lanes}
use Rattle.mrp_world.proofs.ending.last_figures.Goals as goal
use Rattle.mrp_world.proofs.ending.last_figures.Goals.{After-loop-l}

pub add_lane-requires-clause-plan : goal.add_lane-requires-clause-plan
add_lane-requires-clause-plan c =
    let sized = c.network-network.ensures.sized in
    let N = c.network-network.result.now in
    (one_plan N (subst IsTable (sym c.network-network.ensures.value) sized.table) (subst IsLoopFree (sym c.network-network.ensures.value) sized.loop_free)).only
    c.args.plan.now (subst (λ (M : Table). Fits M c.args.plan.now) (sym c.network-network.ensures.value) c.requires)

pub loop-l-preserved : goal.loop-l-preserved
loop-l-preserved c = piece.lanes_next (last_on c.network-network.result.now) _ _ c.loop-l.l c.loop-l.invariant c.in_ok-add_lane.ensures

-- the figures of all lanes
are_last : (c : After-loop-l) → c.loop-l.figures.items ≡ last_figures c.args.net.now.network
unfolding last_figures
are_last c =
    let N = c.network-network.result.now in
    let all : c.loop-l.l ≡ length (lanes N) = omega (arith, c.loop-l-test.false, c.loop-l.auto.l-end, c.lanes-l-end.ensures) in
    c.loop-l.invariant ∙ ap (λ (n : ℕ). flat_map (last_on N) (range_with_len 0 n)) all ∙ ap last_figures c.network-network.ensures.value

pub returns-clause-figures : goal.returns-clause-figures
returns-clause-figures c = are_last (goal.at.returns-clause-figures c).After-loop-l

pub returns-clause-lanes : goal.returns-clause-lanes
returns-clause-lanes c =
    let N = c.args.net.now.network in
    subst (All (IsLaneFigure N)) (sym (are_last (goal.at.returns-clause-lanes c).After-loop-l))
    (last_are_of_lanes N c.network-network.ensures.sized.table)
