use Rattle.std.proofs.Common.{◌≡◌, length, ap, subst, sym, ◌∙◌, arith}
use Rattle.std.proofs.lemmas.List.{length-map}
use Rattle.mrp_master_data.specs.Table.{IsSourceRow, horizon}
use Rattle.mrp_master_data.specs.declared.rows.SourceRow.{SourceRow}
use Rattle.mrp_net.specs.Lanes.{lane_at, shipments}
use Rattle.mrp_net.specs.declared.lane.Lane.{Lane}
use Rattle.mrp_net.specs.declared.lane.LaneKind.{LaneKind}
use Rattle.mrp_net.specs.declared.lane.LaneKind.TheVariants.{Despatch, Schedule}
use Rattle.mrp_record.specs.Text.{total}
use Rattle.mrp_protocol.specs.Loads.{by_period, called_in, lines_by, load_of}
use Rattle.mrp_world.proofs.Counts as count
use Rattle.mrp_world.proofs.Carrying as carrying
use Rattle.mrp_world.proofs.carried.carried_on.Goals as goal
use Rattle.mrp_world.proofs.carried.carried_on.Goals.{After-lane_source, In-Despatch, In-Schedule}

row : (c : After-lane_source) → IsSourceRow c.args.network.now c.lane_source.result
row c =
    let N = c.args.network.now in
    subst (IsSourceRow N) (sym c.lane_source.ensures) (count.source_row N c.requires.sized.table (lane_at N c.args.lane.0) c.args.item c.requires.item)

is_despatch : (c : In-Despatch) → Despatch ≡ (lane_at c.args.network.now c.args.lane.0).kind
is_despatch c = sym c.in-Despatch.is ∙ ap (λ (lane : Lane). lane.kind) c.lane.ensures.value

is_schedule : (c : In-Schedule) → Schedule ≡ (lane_at c.args.network.now c.args.lane.0).kind
is_schedule c = sym c.in-Schedule.is ∙ ap (λ (lane : Lane). lane.kind) c.lane.ensures.value

pub called-requires-clause-pair : goal.called-requires-clause-pair
called-requires-clause-pair c = (row (goal.at.called-requires-clause-pair c).After-lane_source).pair

pub called-requires-clause-rises : goal.called-requires-clause-rises
called-requires-clause-rises c = omega (arith, (row (goal.at.called-requires-clause-rises c).After-lane_source).rises)

pub called-requires-clause-ends : goal.called-requires-clause-ends
called-requires-clause-ends c = (row (goal.at.called-requires-clause-ends c).After-lane_source).ends

-- what the source is called for is what the lane carries
called_are : (c : After-lane_source) → Schedule ≡ (lane_at c.args.network.now c.args.lane.0).kind
    → by_period (called_in c.args.network.now c.lane_source.result) (horizon c.args.network.now)
    ≡ (load_of c.args.network.now (lane_at c.args.network.now c.args.lane.0) c.args.item).lines
called_are c kind =
    let N = c.args.network.now in
    ap (λ (s : SourceRow). by_period (called_in N s) (horizon N)) c.lane_source.ensures
    ∙ ap (λ (k : LaneKind). lines_by N k (lane_at N c.args.lane.0) c.args.item) kind

pub called-requires-clause-within : goal.called-requires-clause-within
called-requires-clause-within c =
    let N = c.args.network.now in
    let at = goal.at.called-requires-clause-within c in
    omega (
      arith,
      ap total (called_are at.After-lane_source (is_schedule at.In-Schedule)),
      carrying.carried_is_small N c.requires.sized (lane_at N c.args.lane.0) c.args.item c.requires.item,
    )

pub returns-in-Despatch-clause-lines : goal.returns-in-Despatch-clause-lines
returns-in-Despatch-clause-lines c =
    let N = c.args.network.now in
    ap length c.shipments.ensures ∙ sym (length-map (shipments N (lane_at N c.args.lane.0) c.args.item) _)
    ∙ ap (λ (k : LaneKind). length (lines_by N k (lane_at N c.args.lane.0) c.args.item))
    (is_despatch (goal.at.returns-in-Despatch-clause-lines c).In-Despatch)

pub returns-in-Despatch-clause-pieces : goal.returns-in-Despatch-clause-pieces
returns-in-Despatch-clause-pieces c =
    let N = c.args.network.now in
    c.shipped.ensures ∙ carrying.shipped_is N (lane_at N c.args.lane.0) c.args.item
    (sym (is_despatch (goal.at.returns-in-Despatch-clause-pieces c).In-Despatch))

pub returns-in-Schedule-clause-lines : goal.returns-in-Schedule-clause-lines
returns-in-Schedule-clause-lines c =
    let at = goal.at.returns-in-Schedule-clause-lines c in
    c.called.ensures.lines ∙ ap length (called_are at.After-lane_source (is_schedule at.In-Schedule))

pub returns-in-Schedule-clause-pieces : goal.returns-in-Schedule-clause-pieces
returns-in-Schedule-clause-pieces c =
    let at = goal.at.returns-in-Schedule-clause-pieces c in
    c.called.ensures.pieces ∙ ap total (called_are at.After-lane_source (is_schedule at.In-Schedule))
