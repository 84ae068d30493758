-- Delivery schedules: what those of all sources of a pair call for is what the plan releases.
use Rattle.std.proofs.Common.{◌≡◌, ℕ, suc, ◌-◌, ◌≤◌, ◌==◌, true, false, cond, List, [], ◌∷◌, inl, inr, length, sum_by, refl, sym, ap, ◌∙◌, arith}
use Rattle.std.specs.Prelude.{Option, Some, None, filter_map}
use Rattle.std.specs.List.{AllByRecursion, IsDistinct}
use Rattle.std.proofs.lemmas.Bool.{cases_lt, eqb-true, eq-eqb, and_from, false≢true}
use Rattle.std.proofs.lemmas.List.{get_or_past}
use Rattle.std.proofs.lemmas.List.FromFn.{get_or-map-range_with_len}
use Rattle.std.proofs.lemmas.List.Sums.{sum_by-cons}
use Rattle.mrp_netting.specs.PlanRows.{PlanRows}
use Rattle.mrp_master_data.specs.declared.rows.SourceRow.{SourceRow}
use Rattle.mrp_master_data.specs.Table.{Table, IsTable, IsPair, IsSourceRow, horizon, sources_of_pair, is_same_source}
use Rattle.mrp_net.specs.declared.edge.Edge.{Edge}
use Rattle.mrp_net.specs.Edges.{part, source_edge}
use Rattle.mrp_net.specs.LaneLaws.{HasBothLanes, schedule_lane}
use Rattle.mrp_net.specs.Lanes.{item_of_source}
use Rattle.mrp_net.specs.Plan.{no_rows, pair_plan, plan_of, rounds, rows_at}
use Rattle.mrp_net.specs.Plan.{release_at}
use Rattle.mrp_net.specs.Sources.{source_on}
use Rattle.mrp_record.specs.Entries.{Entry, LineOf, EndOf, ResetOf, Closing, Delivery}
use Rattle.mrp_record.specs.Blocks.{entry_delivery}
use Rattle.mrp_record.specs.Laws.{quantity_in}
use Rattle.mrp_record.specs.Text.{Load, block}
use Rattle.mrp_record.proofs.Running.{block_delivers}
use Rattle.mrp_protocol.specs.Loads.{by_period, called_in, load_of}
use Rattle.mrp_net.proofs.Behind.{items_have_sources}
use Rattle.mrp_net.proofs.Members.{In, In-from_contains, All-in, filter_only}
use Rattle.mrp_net.proofs.Sharing.{pairs_are_found, parts_are_whole}
use Rattle.mrp_net.proofs.Twos.{sources_have_lanes}
use Rattle.mrp_plan.proofs.Planning.{pair_plan-release}
use Rattle.mrp_schedules.specs.declared.line.ScheduleLine.TheVariants.{Opening, Call, Reset}
use Rattle.mrp_schedules.specs.Laws.{CallsAreReleased, VendorCallsAreReleased, called_for_in, line_pieces_in, schedule_by}
use Rattle.mrp_schedules.specs.Schedule.{in_transit, line_of, load_schedule}
use Rattle.mrp_schedules.specs.Vendors.{vendor_load}
use Rattle.mrp_schedules.proofs.Amounts.{earlier_has_none, has_amount}
use Rattle.mrp_schedules.proofs.Delivering.{vendor_row}

-- ---- the source of a pair and a plant

apart_in : (s : SourceRow) (rows : List SourceRow) (r : SourceRow) → AllByRecursion (λ q. is_same_source s q ≡ false) rows → In rows r
    → is_same_source s r ≡ true → ⊥
apart_in s [] r apart h same = h
apart_in s (q ∷ rows) r apart h same = elim h [
  | inl e ↦ false≢true (sym apart.0 ∙ ap (is_same_source s) e ∙ same)
  | inr g ↦ apart_in s rows r apart.1 g same
]

same_source : (rows : List SourceRow) → IsDistinct is_same_source rows → (r s : SourceRow) → In rows r → In rows s → r.plant.0 ≡ s.plant.0 → r.pair.0 ≡ s.pair.0
    → r ≡ s
unfolding IsDistinct
same_source [] once r s h g plant pair = absurd h
same_source (q ∷ rows) once r s h g plant pair =
    let same : is_same_source r s ≡ true = and_from (r.plant.0 == s.plant.0) (r.pair.0 == s.pair.0) (eq-eqb r.plant.0 s.plant.0 plant)
    (eq-eqb r.pair.0 s.pair.0 pair) in
    let turned : is_same_source s r ≡ true = and_from (s.plant.0 == r.plant.0) (s.pair.0 == r.pair.0) (eq-eqb s.plant.0 r.plant.0 (sym plant))
    (eq-eqb s.pair.0 r.pair.0 (sym pair)) in
    elim h [
      | inl first ↦ elim g [
        | inl second ↦ sym first ∙ second
        | inr later ↦ absurd (apart_in q rows s once.0 later (ap (λ (z : SourceRow). is_same_source z s) first ∙ same))
      ]
      | inr there ↦ elim g [
        | inl second ↦ absurd (apart_in q rows r once.0 there (ap (λ (z : SourceRow). is_same_source z r) second ∙ turned))
        | inr later ↦ same_source rows once.1 r s there later plant pair
      ]
    ]

-- the schedule lane of a source calls by that source
source_of_schedule : (N : Table) → IsTable N → (s : SourceRow) → In N.sources s → source_on N (schedule_lane N s) (item_of_source N s) ≡ s
source_of_schedule N table s there =
    let lane = schedule_lane N s in
    let both = All-in (HasBothLanes N) N.sources s (sources_have_lanes N table) there in
    let has = items_have_sources N table lane (item_of_source N s) both.scheduled in
    let row : IsSourceRow N s = All-in (IsSourceRow N) N.sources s table.read.sources there in
    same_source N.sources table.once.sources (source_on N lane (item_of_source N s)) s
    (In-from_contains N.sources (source_on N lane (item_of_source N s)) has.source) there has.plant
    (has.taker ∙ pairs_are_found N table s.pair.0 row.pair)

-- ---- what a schedule calls for in a period

pieces_called : (from : Option ℕ) (t : ℕ) (es : List Entry) → called_for_in t (filter_map (line_of from) es) ≡ quantity_in t (filter_map entry_delivery es)
pieces_called from t [] = refl
pieces_called from t (LineOf i p q c ∷ es) =
    let line : Delivery = record { period = p; quantity = q } in
    omega (
      arith,
      sum_by-cons (line_pieces_in t) (Call p q c) (filter_map (line_of from) es),
      sum_by-cons (λ (d : Delivery). cond (d.period == t) d.quantity 0) line (filter_map entry_delivery es),
      pieces_called from t es,
    )
pieces_called from t (EndOf i n c ∷ es) = pieces_called from t es
pieces_called None t (ResetOf i c ∷ es) = pieces_called None t es
pieces_called (Some from) t (ResetOf i c ∷ es) =
    omega (arith, sum_by-cons (line_pieces_in t) (Reset from c) (filter_map (line_of (Some from)) es), pieces_called (Some from) t es)
pieces_called from t (Closing ∷ es) = pieces_called from t es

-- a schedule calls for the deliveries of its load
load_calls : (transit t : ℕ) (load : Load) → called_for_in t (load_schedule transit load) ≡ quantity_in t load.lines
load_calls transit t load =
    let entries = filter_map (line_of load.reset) (block load) in
    let first : called_for_in t (load_schedule transit load) ≡ called_for_in t entries =
    omega (arith, sum_by-cons (line_pieces_in t) (Opening transit load.opening) entries) in
    first ∙ pieces_called load.reset t (block load) ∙ ap (quantity_in t) (block_delivers load)

schedule_calls : (N : Table) → IsTable N → (s : SourceRow) → In N.sources s → (t : ℕ)
    → called_for_in t (schedule_by N s) ≡ quantity_in t (by_period (called_in N s) (horizon N))
schedule_calls N table s there t =
    let lane = schedule_lane N s in
    let item = item_of_source N s in
    load_calls (in_transit N lane item) t (load_of N lane item)
    ∙ ap (λ (r : SourceRow). quantity_in t (by_period (called_in N r) (horizon N))) (source_of_schedule N table s there)

-- ---- past the last period nothing is released

rounds_length : (N : Table) (k x : ℕ) → IsPair N x → length (rows_at (rounds N (suc k)) x).release ≡ horizon N
rounds_length N k x pair =
    ap (λ (r : PlanRows). length r.release) (get_or-map-range_with_len (pair_plan N (rounds N k)) 0 (length N.pairs) x x no_rows pair (omega arith))
    ∙ pair_plan-release N (rounds N k) x

planned_length : (N : Table) (x : ℕ) → IsPair N x → length (rows_at (plan_of N) x).release ≡ horizon N
planned_length N x pair =
    let some : length N.pairs ≡ suc (length N.pairs - 1) = omega (arith, pair) in
    ap (λ (k : ℕ). length (rows_at (rounds N k) x).release) some ∙ rounds_length N (length N.pairs - 1) x pair

nothing_released : (N : Table) (x t : ℕ) → IsPair N x → horizon N ≤ t → release_at (plan_of N) x t ≡ 0
nothing_released N x t pair past = get_or_past (rows_at (plan_of N) x).release t 0 (omega (arith, planned_length N x pair))

no_part : (e : Edge) → part e 0 ≡ 0
no_part e = omega arith

schedule_in : (N : Table) → IsTable N → (s : SourceRow) → In N.sources s → (t : ℕ) → called_for_in t (schedule_by N s) ≡ called_in N s t
schedule_in N table s there t =
    let row : IsSourceRow N s = All-in (IsSourceRow N) N.sources s table.read.sources there in
    elim (cases_lt t (horizon N)) [
      | inl inside ↦ schedule_calls N table s there t ∙ has_amount (called_in N s) t 0 (horizon N) (omega arith) (omega arith)
      | inr past ↦
          schedule_calls N table s there t ∙ earlier_has_none (called_in N s) t 0 (horizon N) (omega arith)
          ∙ sym (ap (part (source_edge N s)) (nothing_released N s.pair.0 t row.pair (omega arith)) ∙ no_part (source_edge N s))
    ]

-- ---- all sources

sum_in : (f g : SourceRow → ℕ) (rows : List SourceRow) → ((s : SourceRow) → In rows s → f s ≡ g s) → sum_by f rows ≡ sum_by g rows
sum_in f g [] same = refl
sum_in f g (s ∷ rows) same =
    let here : f s ≡ g s = same s (inl refl) in
    omega (arith, here, sum_by-cons f s rows, sum_by-cons g s rows, sum_in f g rows (λ r h. same r (inr h)))

pub calls_are_released : CallsAreReleased
calls_are_released N table x pair from t =
    sum_in (λ s. called_for_in t (schedule_by N s)) (λ s. part (source_edge N s) (release_at (plan_of N) x t)) (sources_of_pair N x)
    (λ s h.
    let own = filter_only (λ (r : SourceRow). r.pair.0 == x) N.sources s h in
    schedule_in N table s own.0 t ∙ ap (λ (y : ℕ). part (source_edge N s) (release_at (plan_of N) y t)) (eqb-true s.pair.0 x own.1))
    ∙ parts_are_whole N table x pair from (release_at (plan_of N) x t)

-- ---- vendors

pub vendor_calls_are_released : VendorCallsAreReleased
vendor_calls_are_released N table v there t =
    let amount : ℕ → ℕ = λ u. release_at (plan_of N) v.pair.0 u in
    load_calls v.transit t (vendor_load N v)
    ∙ elim (cases_lt t (horizon N)) as (λ _. quantity_in t (by_period amount (horizon N)) ≡ amount t) [
      | inl inside ↦ has_amount amount t 0 (horizon N) (omega arith) (omega arith)
      | inr past ↦
          earlier_has_none amount t 0 (horizon N) (omega arith)
          ∙ sym (nothing_released N v.pair.0 t (vendor_row N table v there).pair (omega arith))
    ]
