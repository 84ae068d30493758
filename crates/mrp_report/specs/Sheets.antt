-- Reports of plan, late orders, orders, pegs, codes and figures as sheets: what a reader of
-- comma-separated values has to find in them.
use Rattle.std.specs.Prelude.{ℕ, List, ◌++◌, length, map, slice_index, Option}
use Rattle.std.specs.List.{flat_map, range_with_len}
use Rattle.mrp_netting.specs.PlanRows.{PlanRows}
use Rattle.mrp_master_data.specs.Table.{Table, horizon}
use Rattle.mrp_commands.specs.declared.choice.Heading.{Heading}
use Rattle.mrp_net.specs.Lanes.{lane_at}
use Rattle.mrp_net.specs.Plan.{rows_at}
use Rattle.mrp_plan.specs.Orders.{listed_by}
use Rattle.mrp_plan.specs.Peg.{peg_terms}
use Rattle.mrp_plan.specs.declared.terms.PegTerm.{PegTerm}
use Rattle.mrp_book.specs.declared.figure.LaneFigure.{LaneFigure}
use Rattle.mrp_csv_out.specs.Dates.{dates_of}
use Rattle.mrp_report.specs.Headings.{order_names}
use Rattle.mrp_report.specs.Lanes.{figure_fields}
use Rattle.mrp_report.specs.Orders.{order_fields, spelled_supply}
use Rattle.mrp_report.specs.Pegs.{pegs_fields}
use Rattle.mrp_report.specs.Report.{late_fields, plan_fields}
use Rattle.mrp_report.specs.Codes.{code_fields}
use Rattle.mrp_report.specs.Terms.{peg_fields}
use Rattle.mrp_csv_out.specs.DateLists.{date_in}
use Rattle.mrp_csv_out.specs.Names.{item_of, pairs_of, plant_of}
use Rattle.mrp_csv_out.specs.Sheets.{Sheet, header_sheet}

-- the plan: a row for each pair in table order and each period in rising order
abbrev pub pair_sheet : List ℕ → List ℕ → List (List ℕ) → PlanRows → Sheet
pair_sheet plant item dates rows = map (λ t. plan_fields plant item (date_in dates t) rows t)
    (range_with_len 0 (length dates))

abbrev pub plan_sheet : Table → List PlanRows → Sheet
plan_sheet N table = flat_map (λ x. pair_sheet (plant_of N x) (item_of N x) (dates_of N.calendar) (rows_at table x))
    (pairs_of N)

-- the late orders of each pair, in table order and in rising period
abbrev pub late_sheet : Table → List PlanRows → Sheet
late_sheet N table = flat_map (λ x. map (late_fields (plant_of N x) (item_of N x)) (rows_at table x).late) (pairs_of N)

-- the terms of a gross requirement, in their order
abbrev pub peg_sheet : Table → List PegTerm → Sheet
peg_sheet N terms = map (peg_fields N) terms

-- the terms of each gross requirement, pairs in table order and periods in rising order
abbrev pub period_pegs_sheet : Table → List PlanRows → ℕ → ℕ → Sheet
period_pegs_sheet N table x t = map (pegs_fields N x t) (peg_terms N table x t)

abbrev pub pair_pegs_sheet : Table → List PlanRows → ℕ → Sheet
pair_pegs_sheet N table x = flat_map (period_pegs_sheet N table x) (range_with_len 0 (horizon N))

abbrev pub pegs_sheet : Table → List PlanRows → Sheet
pegs_sheet N table = flat_map (pair_pegs_sheet N table) (pairs_of N)

-- the low-level codes of all pairs, in table order
abbrev pub code_sheet : Table → List ℕ → Sheet
code_sheet N codes = map (λ x. code_fields (plant_of N x) (item_of N x) (slice_index codes x)) (pairs_of N)

-- the figures of lanes, in their order
abbrev pub lane_sheet : Table → List LaneFigure → Sheet
lane_sheet N figures = map (λ figure. figure_fields N (lane_at N figure.lane.0) figure) figures

-- the orders of each pair, firm and planned, that are released by then, in table order and in rising due period
abbrev pub pair_orders_sheet : Option ℕ → Table → List PlanRows → ℕ → Sheet
pair_orders_sheet until N table x =
    map (order_fields (plant_of N x) (item_of N x) (spelled_supply N x) (dates_of N.calendar))
    (listed_by until N table x)

abbrev pub order_sheet : Heading → Option ℕ → Table → List PlanRows → Sheet
order_sheet heading until N table = header_sheet heading order_names
    ++ flat_map (pair_orders_sheet until N table) (pairs_of N)
