-- Reports of plan, late orders, orders, pegs, codes and figures: each is the rows of its sheet.
use Rattle.std.proofs.Common.{◌≡◌, ◌-◌, ◌∷◌, ◌++◌, ◌∙◌, ℕ, List, [], Option, decimal, length, map, All, refl, sym, ap, arith}
use Rattle.std.specs.Prelude.{◌==◌, Bool, true, false, if◌then◌else◌, slice_index}
use Rattle.std.specs.List.{flat_map, range_with_len}
use Rattle.std.proofs.lemmas.List.Elements.{All-append}
use Rattle.std.proofs.lemmas.Grind.{flat_map-append}
use Rattle.csv.specs.Reading.{strip_bom}
use Rattle.mrp_netting.specs.PlanRows.{PlanRows}
use Rattle.mrp_netting.specs.declared.params.Late.{Late}
use Rattle.mrp_master_data.specs.Table.{IsTable, Table, horizon}
use Rattle.mrp_net.specs.Lanes.{lane_at}
use Rattle.mrp_net.specs.Plan.{rows_at}
use Rattle.mrp_net.specs.Sums.{pair_at}
use Rattle.mrp_net.specs.declared.lane.Lane.{Lane}
use Rattle.mrp_net.specs.declared.lane.LaneKind.{LaneKind}
use Rattle.mrp_net.specs.declared.lane.LaneKind.TheVariants.{Despatch, Schedule}
use Rattle.mrp_plan.specs.Orders.{listed_by}
use Rattle.mrp_plan.specs.Peg.{peg_terms}
use Rattle.mrp_plan.specs.declared.orders.ListedOrder.{ListedOrder}
use Rattle.mrp_plan.specs.declared.orders.OrderSort.{OrderSort}
use Rattle.mrp_plan.specs.declared.orders.OrderSort.TheVariants.{Firm, Planned}
use Rattle.mrp_plan.specs.declared.terms.PegTerm.{PegTerm}
use Rattle.mrp_plan.specs.declared.terms.PegSource.{PegSource}
use Rattle.mrp_plan.specs.declared.terms.PegSource.TheVariants.{Demand, Bill, Plant}
use Rattle.mrp_book.specs.declared.figure.LaneFigure.{LaneFigure}
use Rattle.mrp_csv_out.specs.Dates.{dates_of}
use Rattle.mrp_report.specs.Headings.{code_names, lane_names, order_names, peg_names, pegs_names}
use Rattle.mrp_report.specs.Lanes.{figure_fields, figure_row, lane_kind_word, lane_text}
use Rattle.mrp_report.specs.Laws.{CodesAreReadBack, FiguresAreReadBack, LateOrdersAreReadBack, OrdersAreReadBack, PegsAreReadBack, PlanIsReadBack}
use Rattle.mrp_report.specs.Laws.{PlanWithLateOrdersIsReadBack, TermsAreReadBack}
use Rattle.mrp_report.specs.Orders.{order_fields, order_word, listed_order_row, order_text, orders_text, pair_orders_text, spelled_supply}
use Rattle.mrp_report.specs.Pegs.{pair_pegs_text, pegs_fields, pegs_row, pegs_text, period_pegs_text}
use Rattle.mrp_report.specs.Report.{late_fields, late_text, pair_text, plan_fields, plan_text}
use Rattle.mrp_report.specs.Codes.{code_fields, code_row, code_text}
use Rattle.mrp_report.specs.Terms.{peg_fields, peg_row, peg_text, per_text, source_word}
use Rattle.mrp_csv_out.specs.DateLists.{date_in}
use Rattle.mrp_csv_out.specs.Names.{item_of, pairs_of, plant_of}
use Rattle.mrp_csv_out.specs.Rows.{row}
use Rattle.mrp_csv_out.specs.Sheets.{IsPlain}
use Rattle.mrp_report.specs.Sheets.{code_sheet, lane_sheet, late_sheet, pair_orders_sheet, pair_pegs_sheet, pair_sheet, peg_sheet, pegs_sheet}
use Rattle.mrp_report.specs.Sheets.{period_pegs_sheet, plan_sheet}
use Rattle.mrp_csv_out.proofs.FieldFacts.{ArePlain, headed_read, more, none, number}
use Rattle.mrp_csv_out.proofs.PlainFacts.{dates_plain, item_plain, number_plain, plant_plain}
use Rattle.mrp_report.proofs.SupplyTexts.{both_plain, supply_plain}
use Rattle.mrp_csv_out.proofs.ReadBack.{IsRow, all_each, all_map, row_each, rows_each, sheet_read}

-- ---- the plan

plan_is_row : (plant item date : List ℕ) (rows : PlanRows) (t : ℕ) → IsPlain plant → IsPlain item → IsPlain date → IsRow (plan_fields plant item date rows t)
unfolding row strip_bom
plan_is_row plant item date rows t p i d = record {
  plain =
      let are : ArePlain (plan_fields plant item date rows t) =
      more refl (more p (more i (number t (more d (number (slice_index rows.gross t) (number (slice_index rows.incoming t)
      (number (slice_index rows.order t) (number (slice_index rows.release t) (number (slice_index rows.available t) none))))))))) in
      are.all;
  many = omega arith;
  front = λ rest. refl;
}

pair_is_sheet : (plant item : List ℕ) (dates : List (List ℕ)) (rows : PlanRows)
    → pair_text plant item dates rows ≡ flat_map row (pair_sheet plant item dates rows)
unfolding pair_text
pair_is_sheet plant item dates rows = row_each (λ t. plan_fields plant item (date_in dates t) rows t) (range_with_len 0 (length dates))

plan_is_sheet : (N : Table) (table : List PlanRows) → plan_text N table ≡ flat_map row (plan_sheet N table)
unfolding plan_text
plan_is_sheet N table =
    rows_each (λ x. pair_text (plant_of N x) (item_of N x) (dates_of N.calendar) (rows_at table x))
    (λ x. pair_sheet (plant_of N x) (item_of N x) (dates_of N.calendar) (rows_at table x))
    (λ x. pair_is_sheet (plant_of N x) (item_of N x) (dates_of N.calendar) (rows_at table x)) (pairs_of N)

plan_rows_are : (N : Table) → IsTable N → (table : List PlanRows) → All IsRow (plan_sheet N table)
plan_rows_are N is table =
    all_each (λ x. pair_sheet (plant_of N x) (item_of N x) (dates_of N.calendar) (rows_at table x))
    (λ x. all_map (λ t. plan_fields (plant_of N x) (item_of N x) (date_in (dates_of N.calendar) t) (rows_at table x) t)
    (λ t. plan_is_row (plant_of N x) (item_of N x) (date_in (dates_of N.calendar) t) (rows_at table x) t
    (plant_plain N is (pair_at N x).plant.0) (item_plain N is (pair_at N x).item.0) (dates_plain N.calendar t))
    (range_with_len 0 (length (dates_of N.calendar))))
    (pairs_of N)

pub plan_is_read : PlanIsReadBack
plan_is_read N is table = sheet_read (plan_text N table) (plan_sheet N table) (plan_is_sheet N table) (plan_rows_are N is table)

-- ---- late orders

late_is_row : (plant item : List ℕ) (late : Late) → IsPlain plant → IsPlain item → IsRow (late_fields plant item late)
unfolding row strip_bom
late_is_row plant item late p i = record {
  plain = let are : ArePlain (late_fields plant item late) = more refl (more p (more i (number late.period (number late.quantity (number late.by none)))))
      in are.all;
  many = omega arith;
  front = λ rest. refl;
}

orders_are_sheet : (plant item : List ℕ) (late : List Late) → flat_map (λ l. row (late_fields plant item l)) late
    ≡ flat_map row (map (late_fields plant item) late)
orders_are_sheet plant item late = row_each (late_fields plant item) late

late_is_sheet : (N : Table) (table : List PlanRows) → late_text N table ≡ flat_map row (late_sheet N table)
unfolding late_text
late_is_sheet N table =
    rows_each (λ x. flat_map (λ late. row (late_fields (plant_of N x) (item_of N x) late)) (rows_at table x).late)
    (λ x. map (late_fields (plant_of N x) (item_of N x)) (rows_at table x).late)
    (λ x. orders_are_sheet (plant_of N x) (item_of N x) (rows_at table x).late) (pairs_of N)

late_rows_are : (N : Table) → IsTable N → (table : List PlanRows) → All IsRow (late_sheet N table)
late_rows_are N is table =
    all_each (λ x. map (late_fields (plant_of N x) (item_of N x)) (rows_at table x).late)
    (λ x. all_map (late_fields (plant_of N x) (item_of N x))
    (λ late. late_is_row (plant_of N x) (item_of N x) late (plant_plain N is (pair_at N x).plant.0) (item_plain N is (pair_at N x).item.0))
    (rows_at table x).late)
    (pairs_of N)

pub late_is_read : LateOrdersAreReadBack
late_is_read N is table = sheet_read (late_text N table) (late_sheet N table) (late_is_sheet N table) (late_rows_are N is table)

-- the plan and then its late orders
pub together_is_read : PlanWithLateOrdersIsReadBack
together_is_read N is table =
    let plan = plan_sheet N table in
    let late = late_sheet N table in
    sheet_read (plan_text N table ++ late_text N table) (plan ++ late)
    (ap (λ t. t ++ late_text N table) (plan_is_sheet N table) ∙ ap (λ t. flat_map row plan ++ t) (late_is_sheet N table) ∙ sym (flat_map-append row plan late))
    (All-append IsRow plan late (plan_rows_are N is table) (late_rows_are N is table))

-- ---- terms of a gross requirement

source_plain : (source : PegSource) → IsPlain (source_word source)
source_plain Demand = refl
source_plain Bill = refl
source_plain Plant = refl

per_plain_if : (one : Bool) (per base : List ℕ) → IsPlain per → IsPlain base → IsPlain (if one then per else per ++ (47 ∷ base))
per_plain_if true per base p b = p
per_plain_if false per base p b = both_plain per (47 ∷ base) p b

per_plain : (per base : ℕ) → IsPlain (per_text per base)
per_plain per base = per_plain_if (base == 1) (decimal per) (decimal base) (number_plain per) (number_plain base)

peg_is_row : (N : Table) → IsTable N → (term : PegTerm) → IsRow (peg_fields N term)
unfolding row strip_bom
peg_is_row N is term = record {
  plain =
      let are : ArePlain (peg_fields N term) =
      more refl (more (source_plain term.source) (more (plant_plain N is (pair_at N term.pair.0).plant.0) (more (item_plain N is (pair_at N term.pair.0).item.0)
      (number term.release (more (per_plain term.per term.base) (number term.quantity none)))))) in
      are.all;
  many = omega arith;
  front = λ rest. refl;
}

peg_is_sheet : (N : Table) (terms : List PegTerm) → peg_text N terms ≡ flat_map row (peg_sheet N terms)
unfolding peg_text peg_row
peg_is_sheet N terms = row_each (peg_fields N) terms

peg_names_are_row : IsRow peg_names
unfolding row strip_bom
peg_names_are_row = record {
  plain = let are : ArePlain peg_names = more refl (more refl (more refl (more refl (more refl (more refl (more refl none)))))) in are.all;
  many = omega arith;
  front = λ rest. refl;
}

pub peg_is_read : TermsAreReadBack
peg_is_read N is heading terms =
    headed_read heading peg_names peg_names_are_row (peg_text N terms) (peg_sheet N terms) (peg_is_sheet N terms)
    (all_map (peg_fields N) (peg_is_row N is) terms)

-- ---- the pegging of a whole plan

pegs_is_row : (N : Table) → IsTable N → (x t : ℕ) (term : PegTerm) → IsRow (pegs_fields N x t term)
unfolding row strip_bom
pegs_is_row N is x t term = record {
  plain =
      let are : ArePlain (pegs_fields N x t term) =
      more refl (more (plant_plain N is (pair_at N x).plant.0) (more (item_plain N is (pair_at N x).item.0) (number t
      (more (source_plain term.source) (more (plant_plain N is (pair_at N term.pair.0).plant.0) (more (item_plain N is (pair_at N term.pair.0).item.0)
      (number term.release (more (per_plain term.per term.base) (number term.quantity none))))))))) in
      are.all;
  many = omega arith;
  front = λ rest. refl;
}

period_pegs_are_sheet : (N : Table) (table : List PlanRows) (x t : ℕ) → period_pegs_text N table x t ≡ flat_map row (period_pegs_sheet N table x t)
unfolding period_pegs_text pegs_row
period_pegs_are_sheet N table x t = row_each (pegs_fields N x t) (peg_terms N table x t)

pair_pegs_are_sheet : (N : Table) (table : List PlanRows) (x : ℕ) → pair_pegs_text N table x ≡ flat_map row (pair_pegs_sheet N table x)
unfolding pair_pegs_text
pair_pegs_are_sheet N table x = rows_each (period_pegs_text N table x) (period_pegs_sheet N table x) (period_pegs_are_sheet N table x)
    (range_with_len 0 (horizon N))

pegs_are_sheet : (N : Table) (table : List PlanRows) → pegs_text N table ≡ flat_map row (pegs_sheet N table)
unfolding pegs_text
pegs_are_sheet N table = rows_each (pair_pegs_text N table) (pair_pegs_sheet N table) (pair_pegs_are_sheet N table) (pairs_of N)

pegs_names_are_row : IsRow pegs_names
unfolding row strip_bom
pegs_names_are_row = record {
  plain =
      let are : ArePlain pegs_names =
      more refl (more refl (more refl (more refl (more refl (more refl (more refl (more refl (more refl (more refl none))))))))) in
      are.all;
  many = omega arith;
  front = λ rest. refl;
}

pegs_rows_are : (N : Table) → IsTable N → (table : List PlanRows) → All IsRow (pegs_sheet N table)
pegs_rows_are N is table =
    all_each (pair_pegs_sheet N table)
    (λ x. all_each (period_pegs_sheet N table x) (λ t. all_map (pegs_fields N x t) (pegs_is_row N is x t) (peg_terms N table x t))
    (range_with_len 0 (horizon N)))
    (pairs_of N)

pub pegs_is_read : PegsAreReadBack
pegs_is_read N is heading table =
    headed_read heading pegs_names pegs_names_are_row (pegs_text N table) (pegs_sheet N table) (pegs_are_sheet N table) (pegs_rows_are N is table)

-- ---- low-level codes

code_is_row : (plant item : List ℕ) (code : ℕ) → IsPlain plant → IsPlain item → IsRow (code_fields plant item code)
unfolding row strip_bom
code_is_row plant item code p i = record {
  plain = let are : ArePlain (code_fields plant item code) = more refl (more p (more i (number code none))) in are.all;
  many = omega arith;
  front = λ rest. refl;
}

code_is_sheet : (N : Table) (levels : List ℕ) → code_text N levels ≡ flat_map row (code_sheet N levels)
unfolding code_text code_row
code_is_sheet N levels = row_each (λ x. code_fields (plant_of N x) (item_of N x) (slice_index levels x)) (pairs_of N)

code_names_are_row : IsRow code_names
unfolding row strip_bom
code_names_are_row = record {
  plain = let are : ArePlain code_names = more refl (more refl (more refl (more refl none))) in are.all;
  many = omega arith;
  front = λ rest. refl;
}

pub code_is_read : CodesAreReadBack
code_is_read N is heading levels =
    headed_read heading code_names code_names_are_row (code_text N levels) (code_sheet N levels) (code_is_sheet N levels)
    (all_map (λ x. code_fields (plant_of N x) (item_of N x) (slice_index levels x))
    (λ x. code_is_row (plant_of N x) (item_of N x) (slice_index levels x) (plant_plain N is (pair_at N x).plant.0) (item_plain N is (pair_at N x).item.0))
    (pairs_of N))

-- ---- figures of lanes

kind_plain : (kind : LaneKind) → IsPlain (lane_kind_word kind)
kind_plain Despatch = refl
kind_plain Schedule = refl

figure_is_row : (N : Table) → IsTable N → (lane : Lane) (figure : LaneFigure) → IsRow (figure_fields N lane figure)
unfolding row strip_bom
figure_is_row N is lane figure = record {
  plain =
      let are : ArePlain (figure_fields N lane figure) =
      more refl (more (kind_plain lane.kind) (more (plant_plain N is lane.sender.0)
      (more (plant_plain N is lane.receiver.0) (more (item_plain N is figure.item.0)
      (number figure.opening (number figure.shipped (number figure.received (number (figure.shipped - figure.received) none)))))))) in
      are.all;
  many = omega arith;
  front = λ rest. refl;
}

lane_is_sheet : (N : Table) (figures : List LaneFigure) → lane_text N figures ≡ flat_map row (lane_sheet N figures)
unfolding lane_text figure_row
lane_is_sheet N figures = row_each (λ figure. figure_fields N (lane_at N figure.lane.0) figure) figures

lane_names_are_row : IsRow lane_names
unfolding row strip_bom
lane_names_are_row = record {
  plain =
      let are : ArePlain lane_names =
      more refl (more refl (more refl (more refl (more refl (more refl (more refl (more refl (more refl none)))))))) in
      are.all;
  many = omega arith;
  front = λ rest. refl;
}

pub lane_is_read : FiguresAreReadBack
lane_is_read N is heading figures =
    headed_read heading lane_names lane_names_are_row (lane_text N figures) (lane_sheet N figures) (lane_is_sheet N figures)
    (all_map (λ figure. figure_fields N (lane_at N figure.lane.0) figure) (λ figure. figure_is_row N is (lane_at N figure.lane.0) figure) figures)

-- ---- orders, firm and planned

word_plain : (sort : OrderSort) → IsPlain (order_word sort)
word_plain Firm = refl
word_plain Planned = refl

-- neither begins as a byte order mark does
word_front : (sort : OrderSort) (field : List ℕ) (fields : List (List ℕ)) (rest : List ℕ)
    → strip_bom (row (order_word sort ∷ field ∷ fields) ++ rest) ≡ row (order_word sort ∷ field ∷ fields) ++ rest
unfolding row strip_bom
word_front Firm field fields rest = refl
word_front Planned field fields rest = refl

order_is_row : (plant item supply : List ℕ) (dates : List (List ℕ)) (listed : ListedOrder) → IsPlain plant → IsPlain item → IsPlain supply
    → ((t : ℕ) → IsPlain (date_in dates t)) → IsRow (order_fields plant item supply dates listed)
unfolding row strip_bom
order_is_row plant item supply dates listed p i s d = record {
  plain =
      let are : ArePlain (order_fields plant item supply dates listed) =
      more (word_plain listed.sort) (more p (more i (more s (number listed.order.quantity (number listed.order.release (more (d listed.order.release)
      (number listed.order.due (more (d listed.order.due) (number listed.order.late none))))))))) in
      are.all;
  many = omega arith;
  front = λ rest. word_front listed.sort plant (item ∷ supply ∷ decimal listed.order.quantity ∷ decimal listed.order.release ∷ date_in dates listed.order.release
      ∷ decimal listed.order.due ∷ date_in dates listed.order.due ∷ decimal listed.order.late ∷ []) rest;
}

order_names_are_row : IsRow order_names
unfolding row strip_bom
order_names_are_row = record {
  plain =
      let are : ArePlain order_names =
      more refl (more refl (more refl (more refl (more refl (more refl (more refl (more refl (more refl (more refl none))))))))) in
      are.all;
  many = omega arith;
  front = λ rest. refl;
}

planned_are_sheet : (until : Option ℕ) (N : Table) (table : List PlanRows)
    → orders_text until N table ≡ flat_map row (flat_map (pair_orders_sheet until N table) (pairs_of N))
unfolding orders_text pair_orders_text listed_order_row
planned_are_sheet until N table =
    rows_each (pair_orders_text until N table) (pair_orders_sheet until N table)
    (λ x. row_each (order_fields (plant_of N x) (item_of N x) (spelled_supply N x) (dates_of N.calendar)) (listed_by until N table x)) (pairs_of N)

planned_rows_are : (until : Option ℕ) (N : Table) → IsTable N → (table : List PlanRows) → All IsRow (flat_map (pair_orders_sheet until N table) (pairs_of N))
planned_rows_are until N is table =
    all_each (pair_orders_sheet until N table)
    (λ x. all_map (order_fields (plant_of N x) (item_of N x) (spelled_supply N x) (dates_of N.calendar))
    (λ listed. order_is_row (plant_of N x) (item_of N x) (spelled_supply N x) (dates_of N.calendar) listed (plant_plain N is (pair_at N x).plant.0)
    (item_plain N is (pair_at N x).item.0) (supply_plain N is x) (dates_plain N.calendar))
    (listed_by until N table x))
    (pairs_of N)

pub order_is_read : OrdersAreReadBack
unfolding order_text
order_is_read N is heading until table =
    headed_read heading order_names order_names_are_row (orders_text until N table) (flat_map (pair_orders_sheet until N table) (pairs_of N))
    (planned_are_sheet until N table) (planned_rows_are until N is table)
