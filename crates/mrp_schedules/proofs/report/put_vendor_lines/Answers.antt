use Rattle.std.proofs.Common.{◌≡◌, ◌<◌, ◌++◌, ◌∙◌, ℕ, List, length, ap, subst, sym}
use Rattle.std.specs.Prelude.{Contains}
use Rattle.std.proofs.lemmas.Result.{on_ok_weaker}
use Rattle.mrp_master_data.specs.Rows.{vendor_of}
use Rattle.mrp_master_data.specs.declared.rows.PairRow.{PairRow}
use Rattle.mrp_master_data.specs.Table.{IsPair, Table}
use Rattle.mrp_net.specs.Sums.{pair_at}
use Rattle.mrp_csv_out.specs.Writing.{written}
use Rattle.mrp_schedules.specs.declared.line.ScheduleLine.{ScheduleLine}
use Rattle.mrp_schedules.specs.ItemRows.{AreRowsOf}
use Rattle.mrp_schedules.specs.ScheduleRows.{vendor_text}
use Rattle.mrp_schedules.specs.Vendors.{vendor_customer, vendor_item, vendor_schedule}
use Rattle.mrp_schedules.proofs.Delivering.{vendor_pair, vendor_row}
use Rattle.mrp_schedules.proofs.RowFacts.{lines_dated, rows_are_of, vendor_within}
use Rattle.mrp_schedules.proofs.report.put_vendor_lines.Goals as goal
use Rattle.mrp_schedules.proofs.report.put_vendor_lines.Goals.{After-as_slice, After-pair-pair}

-- the lines are those of the vendor alone
lines : (c : After-as_slice) → c.as_slice.result.now ≡ vendor_schedule c.args.report.now.net.now.network (vendor_of c.args.vendor.now)
lines c =
    let N = c.args.report.now.net.now.network in
    c.as_slice.ensures.value ∙ c.in-Ok.ensures.lines
    ∙ ap (λ (z : List ScheduleLine). z ++ vendor_schedule N (vendor_of c.args.vendor.now)) c.clear.ensures.items

-- the row of its pair
pair : (c : After-pair-pair) → c.pair-pair.result ≡ pair_at c.args.report.now.net.now.network c.args.vendor.now.pair.0
pair c = c.pair-pair.ensures ∙ ap (λ (M : Table). pair_at M c.args.vendor.now.pair.0) c.network-network.ensures.value

common : (c : After-as_slice)
    → AreRowsOf c.args.report.now.net.now.network (vendor_of c.args.vendor.now).name
    (vendor_customer c.args.report.now.net.now.network (vendor_of c.args.vendor.now))
    (vendor_item c.args.report.now.net.now.network (vendor_of c.args.vendor.now)) c.rows_of-common.result
common c =
    let M = c.network-network.result.now in
    let name = (vendor_of c.args.vendor.now).name in
    subst (λ (M : Table). AreRowsOf M name (vendor_customer M (vendor_of c.args.vendor.now)) (vendor_item M (vendor_of c.args.vendor.now)) c.rows_of-common.result)
    c.network-network.ensures.value
    (subst (λ (p : PairRow). AreRowsOf M name p.plant.0 p.item.0 c.rows_of-common.result) c.pair-pair.ensures
    (subst (λ (s : List ℕ). AreRowsOf M s c.pair-pair.result.plant.0 c.pair-pair.result.item.0 c.rows_of-common.result) c.as_str.ensures.value
    c.rows_of-common.ensures))

pub pair-pair-requires : goal.pair-pair-requires
pair-pair-requires c =
    let N = c.args.report.now.net.now.network in
    subst (λ (M : Table). IsPair M c.args.vendor.now.pair.0) (sym c.network-network.ensures.value)
    (vendor_row N c.network-network.ensures.sized.table (vendor_of c.args.vendor.now) c.requires.vendor).pair

pub rows_of-common-requires-clause-customer : goal.rows_of-common-requires-clause-customer
rows_of-common-requires-clause-customer c =
    let N = c.args.report.now.net.now.network in
    let is = pair (goal.at.rows_of-common-requires-clause-customer c).After-pair-pair in
    subst (λ (M : Table). c.pair-pair.result.plant.0 < length M.plants) (sym c.network-network.ensures.value)
    (subst (λ (p : PairRow). p.plant.0 < length N.plants) (sym is)
    (vendor_pair N c.network-network.ensures.sized.table (vendor_of c.args.vendor.now) c.requires.vendor).plant)

pub rows_of-common-requires-clause-item : goal.rows_of-common-requires-clause-item
rows_of-common-requires-clause-item c =
    let N = c.args.report.now.net.now.network in
    let is = pair (goal.at.rows_of-common-requires-clause-item c).After-pair-pair in
    subst (λ (M : Table). c.pair-pair.result.item.0 < length M.items) (sym c.network-network.ensures.value)
    (subst (λ (p : PairRow). p.item.0 < length N.items) (sym is)
    (vendor_pair N c.network-network.ensures.sized.table (vendor_of c.args.vendor.now) c.requires.vendor).item)

pub put_lines-requires-clause-periods : goal.put_lines-requires-clause-periods
put_lines-requires-clause-periods c =
    let N = c.args.report.now.net.now.network in
    let v = vendor_of c.args.vendor.now in
    lines_dated N (vendor_schedule N v) _ _ (vendor_within N c.network-network.ensures.sized.table v c.requires.vendor) (lines c) (common c).dates

pub returns-clause-rows : goal.returns-clause-rows
unfolding vendor_text
returns-clause-rows c =
    let N = c.args.report.now.net.now.network in
    let v = vendor_of c.args.vendor.now in
    let before = (goal.at.returns-clause-rows c).After-as_slice in
    on_ok_weaker c.put_lines.result
    (λ e. e
    ∙ ap (λ text. written c.args.rows.now ++ text)
    (rows_are_of N v.name (vendor_customer N v) (vendor_item N v) (vendor_schedule N v) c.as_slice.result.now
    c.rows_of-common.result (lines before) (common before)))
    c.put_lines.ensures.rows
