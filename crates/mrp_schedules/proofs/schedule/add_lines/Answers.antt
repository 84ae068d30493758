use Rattle.std.proofs.Common.{◌≡◌, ◌≤◌, ◌++◌, ◌∷◌, [], ℕ, length, length-append, ap, subst, sym, ◌∙◌, arith}
use Rattle.std.specs.Prelude.{IfSome, Option, filter_map}
use Rattle.mrp_netting.specs.PlanRows.{PlanRows}
use Rattle.mrp_master_data.specs.declared.rows.SourceRow.{SourceRow}
use Rattle.mrp_master_data.specs.Table.{IsSourceRow, horizon}
use Rattle.mrp_net.specs.Lanes.{lane_at}
use Rattle.mrp_net.specs.Plan.{rows_at}
use Rattle.mrp_net.specs.Sources.{source_on}
use Rattle.mrp_record.specs.Text.{body, total}
use Rattle.mrp_protocol.specs.Loads.{load_of}
use Rattle.mrp_schedules.specs.declared.line.ScheduleLine.{ScheduleLine}
use Rattle.mrp_schedules.specs.Calls.{calls_by}
use Rattle.mrp_schedules.specs.Schedule.{in_transit, line_of}
use Rattle.mrp_schedules.proofs.Planned as planned
use Rattle.mrp_schedules.proofs.schedule.add_lines.Goals as goal
use Rattle.mrp_schedules.proofs.schedule.add_lines.Goals.{After-lane_source-source, After-release-release}

row : (c : After-lane_source-source) → IsSourceRow c.args.network.now c.lane_source-source.result
row c =
    let N = c.args.network.now in
    subst (IsSourceRow N) (sym c.lane_source-source.ensures) (planned.source_row N c.requires.sized.table (lane_at N c.args.lane.0) c.args.item c.requires.item)

-- the row of releases is that of the source's pair
released : (c : After-release-release) → c.release-release.result.now
    ≡ (rows_at c.args.plan.now (source_on c.args.network.now (lane_at c.args.network.now c.args.lane.0) c.args.item).pair.0).release
released c =
    c.release-release.ensures
    ∙ ap (λ (r : PlanRows). r.release) (c.pair.ensures ∙ ap (λ (s : SourceRow). rows_at c.args.plan.now s.pair.0) c.lane_source-source.ensures)

sized : (c : After-release-release) → length c.release-release.result.now ≡ horizon c.args.network.now
sized c =
    let N = c.args.network.now in
    planned.release_length N c.requires.sized (lane_at N c.args.lane.0) c.args.item c.requires.item c.requires.schedule c.args.plan.now c.requires.fits
    c.release-release.result.now (released c)

pub pair-requires : goal.pair-requires
pair-requires c = omega (arith, c.requires.fits.size, (row (goal.at.pair-requires c).After-lane_source-source).pair)

pub add_calls-requires-clause-rises : goal.add_calls-requires-clause-rises
add_calls-requires-clause-rises c = omega (arith, (row (goal.at.add_calls-requires-clause-rises c).After-lane_source-source).rises)

pub add_calls-requires-clause-ends : goal.add_calls-requires-clause-ends
add_calls-requires-clause-ends c = (row (goal.at.add_calls-requires-clause-ends c).After-lane_source-source).ends

pub add_calls-requires-clause-reset : goal.add_calls-requires-clause-reset
add_calls-requires-clause-reset c =
    let N = c.args.network.now in
    let within = planned.reset_within N c.requires.sized.table (lane_at N c.args.lane.0) c.args.item in
    subst (λ (n : ℕ). IfSome c.reset-reset.result (λ from. from ≤ n)) (sym (sized (goal.at.add_calls-requires-clause-reset c).After-release-release))
    (subst (λ (r : Option ℕ). IfSome r (λ from. from ≤ horizon N)) (sym c.reset-reset.ensures) within)

pub add_calls-requires-clause-room : goal.add_calls-requires-clause-room
add_calls-requires-clause-room c =
    omega (
      arith,
      c.requires.room,
      sized (goal.at.add_calls-requires-clause-room c).After-release-release,
      c.push_reserved.ensures.capacity,
      ap length c.push_reserved.ensures.items,
      length-append c.args.lines.now.items (c.opening_line.result ∷ []),
    )

pub add_calls-requires-clause-small : goal.add_calls-requires-clause-small
add_calls-requires-clause-small c =
    let N = c.args.network.now in
    let lane = lane_at N c.args.lane.0 in
    let release = c.release-release.result.now in
    let is = released (goal.at.add_calls-requires-clause-small c).After-release-release in
    let small = planned.calls_within N c.requires.sized lane c.args.item c.requires.item c.requires.schedule c.args.plan.now c.requires.fits release is in
    omega (arith, c.opening-figure.ensures, small, ap (λ (s : SourceRow). total (calls_by s.low s.high release 0 (length release))) c.lane_source-source.ensures)

pub returns-clause-lines : goal.returns-clause-lines
returns-clause-lines c =
    let N = c.args.network.now in
    let lane = lane_at N c.args.lane.0 in
    let item = c.args.item in
    let release = c.release-release.result.now in
    let is = released (goal.at.returns-clause-lines c).After-release-release in
    let second = c.push_reserved.new.self.items in
    let s = source_on N lane item in
    let calls = calls_by s.low s.high release 0 (length release) in
    planned.load_scheduled (load_of N lane item) (in_transit N lane item) calls
    c.args.lines.now.items second c.add_calls.new.lines.items c.opening-figure.result c.reset-reset.result c.opening-figure.ensures c.reset-reset.ensures
    (planned.calls_are N c.requires.sized lane item c.requires.item c.requires.schedule c.args.plan.now c.requires.fits release is)
    (c.push_reserved.ensures.items ∙ ap (λ (line : ScheduleLine). c.args.lines.now.items ++ line ∷ []) c.opening_line.ensures)
    (c.add_calls.ensures.lines item.0
    ∙ ap (λ (s : SourceRow). second ++ filter_map (line_of c.reset-reset.result)
    (body item.0 c.opening-figure.result c.reset-reset.result (calls_by s.low s.high release 0 (length release)))) c.lane_source-source.ensures)
