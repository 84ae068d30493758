-- Delivery schedules: what a plan that fits and the table say of one.
use Rattle.std.proofs.Common.{◌≡◌, ℕ, ◌+◌, ◌-◌, ◌<◌, ◌≤◌, true, false, cond, List, [], ◌∷◌, ◌++◌, length, refl, sym, ap, ◌∙◌, append_assoc, arith}
use Rattle.std.specs.Prelude.{Option, Some, None, All, Contains, IfSome, filter_map, option_map}
use Rattle.std.specs.List.{find}
use Rattle.std.proofs.lemmas.List.Elements.{All-head, All-tail}
use Rattle.mrp_qty.specs.declared.quantity.TheConstants.{MOST}
use Rattle.mrp_netting.specs.PlanRows.{PlanRows}
use Rattle.mrp_master_data.specs.declared.numbers.ItemNo.{ItemNo}
use Rattle.mrp_master_data.specs.declared.rows.ResetRow.{ResetRow}
use Rattle.mrp_master_data.specs.declared.rows.SourceRow.{SourceRow}
use Rattle.mrp_master_data.specs.Table.{Table, IsTable, IsSourceRow, horizon}
use Rattle.mrp_net.specs.declared.lane.Lane.{Lane}
use Rattle.mrp_net.specs.declared.lane.LaneKind.{LaneKind}
use Rattle.mrp_net.specs.declared.lane.LaneKind.TheVariants.{Despatch, Schedule}
use Rattle.mrp_net.specs.Lanes.{figure, is_reset_of, lane_items, opening, pair_on, reset, shipments, shipped_from, supplier_of}
use Rattle.mrp_net.specs.Plan.{plan_of, rows_at}
use Rattle.mrp_net.specs.PlanLaws.{Fits}
use Rattle.mrp_net.specs.Sources.{source_on}
use Rattle.mrp_net.proofs.Behind.{items_have_sources}
use Rattle.mrp_net.proofs.Members.{In-from_contains, All-in}
use Rattle.mrp_net.proofs.Sharing.{sum_map}
use Rattle.mrp_loops.specs.Sized.{IsSized}
use Rattle.mrp_loops.proofs.OnePlan.{one_plan}
use Rattle.mrp_plan.proofs.Pegs.{fitting_release}
use Rattle.mrp_record.specs.Entries.{Delivery}
use Rattle.mrp_record.specs.Text.{Load, body, total}
use Rattle.mrp_protocol.specs.Loads.{called, delivery_of, lines_by, load_of}
use Rattle.mrp_protocol.proofs.Small.{load_is_small, shipped_total}
use Rattle.mrp_schedules.specs.declared.line.ScheduleLine.{ScheduleLine}
use Rattle.mrp_schedules.specs.declared.line.ScheduleLine.TheVariants.{Opening}
use Rattle.mrp_schedules.specs.Calls.{calls_by, amounts}
use Rattle.mrp_schedules.specs.Schedule.{in_transit, line_of, load_schedule}
use Rattle.mrp_schedules.proofs.Amounts.{block_lines}
use Rattle.mrp_schedules.proofs.Periods.{share_in}

-- ---- the source of an item

pub source_row : (N : Table) → IsTable N → (lane : Lane) (item : ItemNo) → Contains (lane_items N lane) item → IsSourceRow N (source_on N lane item)
source_row N table lane item there =
    All-in (IsSourceRow N) N.sources (source_on N lane item) table.read.sources
    (In-from_contains N.sources (source_on N lane item) (items_have_sources N table lane item there).source)

-- ---- resets are in the horizon

found_before : (n x supplier : ℕ) (rows : List ResetRow) → All (λ r. r.period < n) rows
    → IfSome (option_map (λ (r : ResetRow). r.period) (find (is_reset_of x supplier) rows)) (λ from. from < n)
found_before n x supplier [] inside = tt
found_before n x supplier (r ∷ rows) inside =
    elim (is_reset_of x supplier r) as (λ b. IfSome (option_map (λ (r : ResetRow). r.period) (cond b (Some r) (find (is_reset_of x supplier) rows)))
    (λ from. from < n)) [
      | true ↦ All-head (λ (r : ResetRow). r.period < n) r rows inside
      | false ↦ found_before n x supplier rows (All-tail (λ (r : ResetRow). r.period < n) r rows inside)
    ]

pub reset_before : (N : Table) → IsTable N → (lane : Lane) (item : ItemNo) → IfSome (reset N lane item) (λ from. from < horizon N)
reset_before N table lane item = found_before (horizon N) (pair_on N lane item) (supplier_of lane) N.resets (λ k d h. (table.read.resets k d h).period)

pub within : (n : ℕ) (reset : Option ℕ) → IfSome reset (λ from. from < n) → IfSome reset (λ from. from ≤ n)
within n None before = tt
within n (Some from) before = omega arith

pub reset_within : (N : Table) → IsTable N → (lane : Lane) (item : ItemNo) → IfSome (reset N lane item) (λ from. from ≤ horizon N)
reset_within N table lane item = within (horizon N) (reset N lane item) (reset_before N table lane item)

-- ---- where it begins

opened_by : (N : Table) (lane : Lane) (item : ItemNo) (kind : LaneKind) → lane.kind ≡ kind → kind ≡ Schedule
    → opening N lane item ≡ figure N (pair_on N lane item) (supplier_of lane) + shipped_from N (pair_on N lane item) (supplier_of lane)
opened_by N lane item kind e schedule =
    ap (λ (k : LaneKind). elim k as (λ _. ℕ) [
      | Despatch ↦ figure N (pair_on N lane item) (supplier_of lane)
      | Schedule ↦ figure N (pair_on N lane item)
          (supplier_of lane) + shipped_from N (pair_on N lane item) (supplier_of lane)
    ]) (e ∙ schedule)

-- what is in transit is what the opening counts beyond the figure before the shipments
pub transit_is : (N : Table) (lane : Lane) (item : ItemNo) → lane.kind ≡ Schedule
    → opening N lane item - figure N (pair_on N lane item) (supplier_of lane) ≡ in_transit N lane item
transit_is N lane item schedule =
    omega (
      arith,
      opened_by N lane item lane.kind refl schedule,
      shipped_total N lane item,
      sum_map (λ (d : Delivery). d.quantity) delivery_of
          (shipments N lane item),
    )

pub opening_within : (N : Table) → IsSized N → (lane : Lane) (item : ItemNo) → Contains (lane_items N lane) item → opening N lane item ≤ MOST
opening_within N sized lane item there = omega (arith, (load_is_small N sized lane item there).figures)

-- ---- its calls

-- the opening and then the calls make the schedule of a load
pub load_scheduled : (load : Load) (transit : ℕ) (calls : List Delivery) (first second last : List ScheduleLine) (figure : ℕ) (from : Option ℕ)
    → figure ≡ load.opening → from ≡ load.reset → calls ≡ load.lines → second ≡ first ++ Opening transit load.opening ∷ []
    → last ≡ second ++ filter_map (line_of from) (body load.item figure from calls) → last ≡ first ++ load_schedule transit load
load_scheduled load transit calls first second last figure from opened at are begun after =
    let line = Opening transit load.opening in
    after
    ∙ ap (λ (z : List ScheduleLine). z ++ filter_map (line_of from) (body load.item figure from calls)) begun
    ∙ append_assoc first (line ∷ []) (filter_map (line_of from) (body load.item figure from calls))
    ∙ ap (λ (z : Option ℕ). first ++ line ∷ filter_map (line_of z) (body load.item figure z calls)) at
    ∙ ap (λ (z : ℕ). first ++ line ∷ filter_map (line_of load.reset) (body load.item z load.reset calls)) opened
    ∙ ap (λ (z : List Delivery). first ++ line ∷ filter_map (line_of load.reset) (body load.item load.opening load.reset z)) are
    ∙ ap (λ (z : List ScheduleLine). first ++ line ∷ z) (sym (block_lines load.reset load))

module _ (N : Table) (sized : IsSized N) (lane : Lane) (item : ItemNo) (there : Contains (lane_items N lane) item) (schedule : lane.kind ≡ Schedule)
    (table : List PlanRows) (fits : Fits N table) where
  abbrev s : SourceRow
  s = source_on N lane item

  called_is : called N lane item ≡ (load_of N lane item).lines
  called_is = ap (λ (k : LaneKind). lines_by N k lane item) (sym schedule)

  pub release_length : (row : List ℕ) → row ≡ (rows_at table s.pair.0).release → length row ≡ horizon N
  release_length row is = ap length is ∙ fitting_release N table s.pair.0 fits (source_row N sized.table lane item there).pair

  pub calls_are : (row : List ℕ) → row ≡ (rows_at table s.pair.0).release → calls_by s.low s.high row 0 (length row) ≡ (load_of N lane item).lines
  calls_are row is =
      let whole : length row - 0 ≡ horizon N = omega (arith, release_length row is) in
      let planned : table ≡ plan_of N = (one_plan N sized.table sized.loop_free).only table fits in
      ap (amounts (share_in s.low s.high row) 0) whole
      ∙ ap (λ (r : List ℕ). amounts (share_in s.low s.high r) 0 (horizon N)) (is ∙ ap (λ (t : List PlanRows). (rows_at t s.pair.0).release) planned)
      ∙ called_is

  pub calls_within : (row : List ℕ) → row ≡ (rows_at table s.pair.0).release → opening N lane item + total (calls_by s.low s.high row 0 (length row)) ≤ MOST
  calls_within row is = omega (arith, (load_is_small N sized lane item there).figures, ap total (calls_are row is))
