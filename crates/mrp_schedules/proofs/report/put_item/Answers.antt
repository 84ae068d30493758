use Rattle.std.proofs.Common.{◌≡◌, ◌<◌, ◌++◌, ◌∙◌, ℕ, List, [], length, ap, subst, sym}
use Rattle.std.proofs.lemmas.Option.{get_or_from_slice_get}
use Rattle.std.proofs.lemmas.Result.{on_ok_weaker}
use Rattle.mrp_master_data.specs.Said.{plant_name}
use Rattle.mrp_master_data.specs.Table.{Table}
use Rattle.mrp_net.specs.declared.lane.Lane.{Lane}
use Rattle.mrp_net.specs.Lanes.{customer_of, lane_at, supplier_of}
use Rattle.mrp_csv_out.specs.Writing.{written}
use Rattle.mrp_schedules.specs.declared.line.ScheduleLine.{ScheduleLine}
use Rattle.mrp_schedules.specs.ItemRows.{AreRowsOf}
use Rattle.mrp_schedules.specs.ScheduleRows.{item_text, supplier_name}
use Rattle.mrp_schedules.specs.Schedule.{schedule_of}
use Rattle.mrp_schedules.proofs.RowFacts.{item_is_there, lines_dated, rows_are_of, schedule_within}
use Rattle.mrp_schedules.proofs.report.put_item.Goals as goal
use Rattle.mrp_schedules.proofs.report.put_item.Goals.{After-as_slice}

-- the lines are those of the item alone
lines : (c : After-as_slice) → c.as_slice.result.now
    ≡ schedule_of c.args.report.now.net.now.network (lane_at c.args.report.now.net.now.network c.args.lane.0) c.args.item
lines c =
    let N = c.args.report.now.net.now.network in
    c.as_slice.ensures.value ∙ c.in-Ok.ensures.lines
    ∙ ap (λ (z : List ScheduleLine). z ++ schedule_of N (lane_at N c.args.lane.0) c.args.item) c.clear.ensures.items

common : (c : After-as_slice)
    → AreRowsOf c.args.report.now.net.now.network (supplier_name c.args.report.now.net.now.network (lane_at c.args.report.now.net.now.network c.args.lane.0))
    (customer_of (lane_at c.args.report.now.net.now.network c.args.lane.0)) c.args.item.0 c.rows_of-common.result
common c =
    let N = c.args.report.now.net.now.network in
    let lane : Lane = lane_at N c.args.lane.0 in
    let route : c.lane-route.result ≡ lane =
    c.lane-route.ensures.value ∙ ap (λ (M : Table). lane_at M c.args.lane.0) c.network-network.ensures.value in
    let supplier : c.plant_name-supplier.result.now ≡ supplier_name N lane =
    sym (get_or_from_slice_get c.network-network.result.now.plants c.supplier.result.0 c.plant_name-supplier.result.now [] c.plant_name-supplier.ensures)
    ∙ ap (λ (M : Table). plant_name M c.supplier.result.0) c.network-network.ensures.value
    ∙ ap (plant_name N) (c.supplier.ensures ∙ ap supplier_of route) in
    subst (λ (M : Table). AreRowsOf M (supplier_name N lane) (customer_of lane) c.args.item.0 c.rows_of-common.result) c.network-network.ensures.value
    (subst (λ (p : ℕ). AreRowsOf c.network-network.result.now (supplier_name N lane) p c.args.item.0 c.rows_of-common.result)
    (c.customer.ensures ∙ ap customer_of route)
    (subst (λ (s : List ℕ). AreRowsOf c.network-network.result.now s c.customer.result.0 c.args.item.0 c.rows_of-common.result) supplier
    c.rows_of-common.ensures))

pub rows_of-common-requires-clause-item : goal.rows_of-common-requires-clause-item
rows_of-common-requires-clause-item c =
    let N = c.args.report.now.net.now.network in
    subst (λ (M : Table). c.args.item.0 < length M.items) (sym c.network-network.ensures.value)
    (item_is_there N c.network-network.ensures.sized.table (lane_at N c.args.lane.0) c.args.item c.requires.item)

pub put_lines-requires-clause-periods : goal.put_lines-requires-clause-periods
put_lines-requires-clause-periods c =
    let N = c.args.report.now.net.now.network in
    let lane = lane_at N c.args.lane.0 in
    lines_dated N (schedule_of N lane c.args.item) _ _
    (schedule_within N c.network-network.ensures.sized.table lane c.args.item c.requires.schedule) (lines c) (common c).dates

pub returns-clause-rows : goal.returns-clause-rows
unfolding item_text
returns-clause-rows c =
    let N = c.args.report.now.net.now.network in
    let lane = lane_at N c.args.lane.0 in
    let before = (goal.at.returns-clause-rows c).After-as_slice in
    on_ok_weaker c.put_lines.result
    (λ e. e
    ∙ ap (λ text. written c.args.rows.now ++ text)
    (rows_are_of N (supplier_name N lane) (customer_of lane) c.args.item.0 (schedule_of N lane c.args.item) c.as_slice.result.now
    c.rows_of-common.result (lines before) (common before)))
    c.put_lines.ensures.rows
