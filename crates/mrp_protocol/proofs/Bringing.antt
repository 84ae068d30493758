-- The protocol: what lanes have brought to a ready pair, which is what its sources ship, and what
-- its customers' releases call for.
use Rattle.std.proofs.Common.{◌≡◌, ℕ, ◌+◌, ◌<◌, ◌==◌, ◌&&◌, not, Bool, true, false, cond, List, [], ◌∷◌, ◌++◌, inl, inr, length, map, filter, sum_by, refl, sym}
use Rattle.std.proofs.Common.{ap, subst, ◌∙◌, arith, Contains}
use Rattle.std.specs.List.{AllByRecursion, IsDistinct, filter_map, flat_map, list_any, range_with_len}
use Rattle.std.proofs.lemmas.Bool.{cases_Bool, cases_eq, cond-true, cond-false, and_parts, eqb-true, eq-eqb, ne_eqb, both_ways, false≢true}
use Rattle.std.proofs.lemmas.List.Elements.{filter-append}
use Rattle.std.proofs.lemmas.List.Sums.{sum_by-cons}
use Rattle.mrp_qty.proofs.RangeLaws.{placed_once, sum_by-ext}
use Rattle.mrp_master_data.specs.declared.numbers.ItemNo.{ItemNo}
use Rattle.mrp_master_data.specs.declared.rows.SourceRow.{SourceRow}
use Rattle.mrp_master_data.specs.Table.{Table, IsTable, IsPair, horizon, source_pair}
use Rattle.mrp_net.specs.declared.lane.Lane.{Lane}
use Rattle.mrp_net.specs.declared.lane.LaneKind.{LaneKind}
use Rattle.mrp_net.specs.declared.lane.LaneKind.TheVariants.{Despatch, Schedule}
use Rattle.mrp_net.specs.Lanes.{lanes, lane_at, lane_items, lanes_of, lanes_between, taken_over, item_of_source, shipments, customer_of, supplier_of}
use Rattle.mrp_net.specs.LaneLaws.{is_despatch, is_same_item, arriving, is_schedule}
use Rattle.mrp_net.specs.PlanLaws.{asked_by_source}
use Rattle.mrp_net.specs.RouteLaws.{over_route, over_plants}
use Rattle.mrp_net.specs.Plan.{plan_of}
use Rattle.mrp_net.specs.Sources.{source_on}
use Rattle.mrp_net.specs.Sums.{pair_at, no_pair}
use Rattle.mrp_net.proofs.Arriving.{incoming_comes_over_lanes, shipments_are_of_items}
use Rattle.mrp_net.proofs.Asking.{gross_is_local_and_called}
use Rattle.mrp_net.proofs.Behind.{items_have_sources}
use Rattle.mrp_net.proofs.Covering.{one_source_brings_an_item, sum-flat_map}
use Rattle.mrp_net.proofs.Members.{In, In-from_contains, Contains-from_in, filter_only, In-map, any_some}
use Rattle.mrp_net.proofs.Routing.{no_lanes, some_lanes}
use Rattle.mrp_net.proofs.Sharing.{sum_map}
use Rattle.mrp_grouping.proofs.Kept.{sum_filter}
use Rattle.mrp_record.specs.declared.record.Record.{Record}
use Rattle.mrp_record.specs.Entries.{Entry, Closing, Delivery, contents, entries_of, is_ended, is_of}
use Rattle.mrp_record.specs.Blocks.{entry_delivery as delivery_of_entry, deliveries}
use Rattle.mrp_record.specs.Laws.{quantity_in}
use Rattle.mrp_record.specs.Text.{Load, block, IsBeginning}
use Rattle.mrp_record.proofs.Beginnings.{ended_blocks_bring_periods}
use Rattle.mrp_record.proofs.Loads.{load_count, count_other, count_permuted, no_block}
use Rattle.mrp_protocol.specs.Loads.{delivery_of, delivery_in, by_period, called_in, has_pieces, lines_by, load_of, loads}
use Rattle.mrp_protocol.specs.Local.{AreLegal, brought_by, brought, DespatchesBringIncoming, SchedulesBringGross}
use Rattle.mrp_protocol.specs.State.{IsReady}
use Rattle.mrp_protocol.proofs.Calling.{called_pair, pair_behind, source_over}
use Rattle.mrp_protocol.proofs.Small.{loads_stand_once, load_is_there}
use Rattle.mrp_protocol.proofs.Summing.{sum_same, by_number}

-- ---- whether a lane has an item

abbrev pub has_item : Table → Lane → ItemNo → Bool
has_item N lane item = list_any (λ (i : ItemNo). i.0 == item.0) (lane_items N lane)

pub item_there : (N : Table) (lane : Lane) (item : ItemNo) → has_item N lane item ≡ true → Contains (lane_items N lane) item
item_there N lane item has =
    let found = any_some (λ (i : ItemNo). i.0 == item.0) (lane_items N lane) has in
    let same : found.0 ≡ item = ap (λ (z : ℕ). let i : ItemNo = record { 0 = z } in i) (eqb-true found.0.0 item.0 found.2) in
    Contains-from_in (lane_items N lane) item (subst (In (lane_items N lane)) same found.1)

there_is_item : (items : List ItemNo) (item : ItemNo) → In items item → list_any (λ (i : ItemNo). i.0 == item.0) items ≡ true
there_is_item [] item h = absurd h
there_is_item (i ∷ items) item h = elim (cases_Bool (i.0 == item.0)) [
  | inl here ↦ rw here refl
  | inr apart ↦ elim h [
    | inl e ↦ absurd (both_ways (i.0 == item.0) apart (eq-eqb i.0 item.0 (ap (λ (z : ItemNo). z.0) e)))
    | inr g ↦ rw apart (there_is_item items item g)
  ]
]

pub not_there : (N : Table) (lane : Lane) (item : ItemNo) → has_item N lane item ≡ false → ¬ Contains (lane_items N lane) item
not_there N lane item none there = both_ways (has_item N lane item) none
    (there_is_item (lane_items N lane) item (In-from_contains (lane_items N lane) item there))

no_load : (N : Table) (lane : Lane) (item : ItemNo) (items : List ItemNo) → list_any (λ (i : ItemNo). i.0 == item.0) items ≡ false
    → load_count item.0 (map (load_of N lane) items) ≡ 0
no_load N lane item [] none = refl
no_load N lane item (i ∷ items) none =
    elim (cases_Bool (i.0 == item.0)) [
      | inl here ↦ absurd (both_ways (has_first i items) none (rw here refl))
      | inr apart ↦
          count_other item.0 (load_of N lane i) (map (load_of N lane) items) apart
          ∙ no_load N lane item items (rw apart at none)
    ]
  where
    has_first : ItemNo → List ItemNo → Bool
    has_first i items = list_any (λ (z : ItemNo). z.0 == item.0) (i ∷ items)

-- ---- what a legal beginning has brought of an item

nothing_brought : (all : List Load) (records : List Record) (item period : ℕ) → IsBeginning all records → load_count item all ≡ 0
    → quantity_in period (deliveries item (contents records)) ≡ 0
nothing_brought all records item period h none =
    let order = h.text.order in
    let no_blocks : entries_of item (flat_map block order) ≡ [] = no_block item order (count_permuted item all order h.text.once ∙ none) in
    let whole : entries_of item (contents records) ++ entries_of item h.rest ≡ [] =
    sym (filter-append (is_of item) (contents records) h.rest) ∙ ap (entries_of item) h.text.is
    ∙ filter-append (is_of item) (flat_map block order) (Closing ∷ [])
    ∙ ap (λ (z : List Entry). z ++ []) no_blocks in
    ap (λ (z : List Entry). quantity_in period (filter_map delivery_of_entry z))
    (front_of_nothing (entries_of item (contents records)) (entries_of item h.rest) whole)
  where
    front_of_nothing : (xs ys : List Entry) → xs ++ ys ≡ [] → xs ≡ []
    front_of_nothing [] ys e = refl
    front_of_nothing (x ∷ xs) ys e = absurd (cc)

block_brought : (N : Table) → IsTable N → (lane : Lane) (records : List Record) (item : ItemNo) (period : ℕ) → IsBeginning (loads N lane) records
    → Contains (lane_items N lane) item
    → is_ended item.0 (contents records) ≡ true → quantity_in period (deliveries item.0 (contents records))
    ≡ quantity_in period (lines_by N lane.kind lane item)
block_brought N table lane records item period h there ended =
    ended_blocks_bring_periods (loads N lane) (loads_stand_once N table lane) records h (load_of N lane item) (load_is_there N lane item there) ended period

-- ---- one source asks, or none

none_asks : (test : SourceRow → Bool) (amount : SourceRow → ℕ) (rows : List SourceRow) → ((r : SourceRow) → In rows r → test r ≡ true → ⊥)
    → sum_by (λ r. cond (test r) (amount r) 0) rows ≡ 0
none_asks test amount [] none = refl
none_asks test amount (r ∷ rows) none =
    let one : cond (test r) (amount r) 0 ≡ 0 = elim (cases_Bool (test r)) [
      | inl t ↦ absurd (none r (inl refl) t)
      | inr f ↦ cond-false (test r) (amount r) 0 f
    ] in
    omega (arith, one, sum_by-cons (λ r. cond (test r) (amount r) 0) r rows, none_asks test amount rows (λ s h. none s (inr h)))

-- rows after one of an item are of other items
apart_from : (key : SourceRow → ItemNo) (i : ItemNo) (rows : List SourceRow) (s : SourceRow) → AllByRecursion (λ j. is_same_item i j ≡ false) (map key rows)
    → In rows s → i.0 ≡ (key s).0 → ⊥
apart_from key i [] s apart h e = h
apart_from key i (r ∷ rows) s apart h e = elim h [
  | inl same ↦ both_ways (is_same_item i (key r)) apart.0 (eq-eqb i.0 (key r).0 (e ∙ ap (λ (z : SourceRow). (key z).0) (sym same)))
  | inr g ↦ apart_from key i rows s apart.1 g e
]

one_asks : (key : SourceRow → ItemNo) (test : SourceRow → Bool) (amount : SourceRow → ℕ) (k : ℕ) (rows : List SourceRow)
    → IsDistinct is_same_item (map key rows)
    → ((r : SourceRow) → In rows r → test r ≡ true → (key r).0 ≡ k) → (s : SourceRow) → In rows s → test s ≡ true
    → sum_by (λ r. cond (test r) (amount r) 0) rows ≡ amount s
unfolding IsDistinct
one_asks key test amount k [] once own s h t = absurd h
one_asks key test amount k (r ∷ rows) once own s h t =
    let sums = sum_by-cons (λ r. cond (test r) (amount r) 0) r rows in
    elim h [
      | inl e ↦
          let here : test r ≡ true = ap test e ∙ t in
          let first : cond (test r) (amount r) 0 ≡ amount s = cond-true (test r) (amount r) 0 here ∙ ap amount e in
          let rest = none_asks test amount rows (λ q g passes. apart_from key (key r) rows q once.0 g (own r (inl refl) here ∙ sym (own q (inr g) passes))) in
          omega (arith, sums, first, rest)
      | inr g ↦
          let first : cond (test r) (amount r) 0 ≡ 0 = elim (cases_Bool (test r)) [
            | inl here ↦ absurd (apart_from key (key r) rows s once.0 g (own r (inl refl) here ∙ sym (own s (inr g) t)))
            | inr f ↦ cond-false (test r) (amount r) 0 f
          ] in
          omega (arith, sums, first, one_asks key test amount k rows once.1 (λ q f passes. own q (inr f) passes) s g t)
    ]

-- ---- the amount of a period

of_period : (amount : ℕ → ℕ) (period : ℕ) (ks : List ℕ) → quantity_in period (filter has_pieces (map (delivery_in amount) ks))
    ≡ sum_by (λ k. cond (k == period) (amount k) 0) ks
of_period amount period [] = refl
of_period amount period (k ∷ ks) =
    let lines = filter has_pieces (map (delivery_in amount) ks) in
    let in_it = λ (line : Delivery). cond (line.period == period) line.quantity 0 in
    let first : quantity_in period (cond (has_pieces (delivery_in amount k)) (delivery_in amount k ∷ lines) lines)
    ≡ cond (k == period) (amount k) 0 + quantity_in period lines = elim (cases_Bool (amount k == 0)) [
      | inl none ↦
          let zero_is : amount k ≡ 0 = eqb-true (amount k) 0 none in
          let nothing : cond (k == period) (amount k) 0 ≡ 0 = ap (λ (v : ℕ). cond (k == period) v 0) zero_is ∙ nothing_either_way (k == period) in
          ap (λ (b : Bool). quantity_in period (cond (not b) (delivery_in amount k ∷ lines) lines)) none ∙ omega (arith, nothing)
      | inr some ↦
          ap (λ (b : Bool). quantity_in period (cond (not b) (delivery_in amount k ∷ lines) lines)) some ∙ sum_by-cons in_it (delivery_in amount k) lines
    ] in
    omega (arith, first, of_period amount period ks, sum_by-cons (λ k. cond (k == period) (amount k) 0) k ks)
  where
    nothing_either_way : (b : Bool) → cond {A = ℕ} b 0 0 ≡ 0
    nothing_either_way true = refl
    nothing_either_way false = refl

turned : (amount : ℕ → ℕ) (period k : ℕ) → cond (k == period) (amount k) 0 ≡ cond (period == k) (amount period) 0
turned amount period k = elim (cases_eq k period) [
  | inl same ↦
      cond-true (k == period) (amount k) 0 (eq-eqb k period same) ∙ ap amount same
      ∙ sym (cond-true (period == k) (amount period) 0 (eq-eqb period k (sym same)))
  | inr other ↦
      cond-false (k == period) (amount k) 0 (ne_eqb k period other)
      ∙ sym (cond-false (period == k) (amount period) 0 (ne_eqb period k (λ e. other (sym e))))
]

in_period : (amount : ℕ → ℕ) (periods period : ℕ) → period < periods → quantity_in period (by_period amount periods) ≡ amount period
in_period amount periods period inside =
    of_period amount period (range_with_len 0 periods)
    ∙ sum_by-ext (λ k. cond (k == period) (amount k) 0) (λ k. cond (period == k) (amount period) 0) (range_with_len 0 periods) (turned amount period)
    ∙ placed_once (amount period) period periods inside

nothing_in : (rows : List SourceRow) → length rows ≡ 0 → rows ≡ []
nothing_in [] e = refl
nothing_in (r ∷ rows) e = absurd (omega arith)

-- ---- despatch lanes

only_despatch : (kind : LaneKind) → is_despatch kind ≡ true → kind ≡ Despatch
only_despatch Despatch h = refl
only_despatch Schedule h = absurd (false≢true h)

only_schedule : (kind : LaneKind) → is_schedule kind ≡ true → kind ≡ Schedule
only_schedule Despatch h = absurd (false≢true h)
only_schedule Schedule h = refl

-- two sums with one test, alike where it passes
pub same_where : (b : Bool) (m n : ℕ) → (b ≡ true → m ≡ n) → cond b m 0 ≡ cond b n 0
same_where true m n h = h refl
same_where false m n h = refl

module _ (N : Table) (table : IsTable N) (planned : ℕ → Bool) (taken : ℕ
    → List Record) (x : ℕ) (pair : IsPair N x) (legal : AreLegal N (pair_at N x).plant.0 taken) (ready : IsReady N planned taken x) (period : ℕ) where
  abbrev plant : ℕ
  plant = (pair_at N x).plant.0

  abbrev item : ItemNo
  item = (pair_at N x).item

  -- a lane that arrives at the plant has brought the item's lines, or hasn't got the item
  lane_brought : (l : ℕ) → l < length (lanes N) → (lane_at N l).receiver.0 ≡ plant → (there : Contains (lane_items N (lane_at N l)) item)
      → brought_by N taken x period l ≡ quantity_in period (lines_by N (lane_at N l).kind (lane_at N l) item)
  lane_brought l within here there =
      block_brought N table (lane_at N l) (taken l) item period (legal l within here) there (ready.brought l within here there)

  lane_without : (l : ℕ) → l < length (lanes N) → (lane_at N l).receiver.0 ≡ plant → has_item N (lane_at N l) item ≡ false → brought_by N taken x period l ≡ 0
  lane_without l within here none =
      nothing_brought (loads N (lane_at N l)) (taken l) item.0 period (legal l within here) (no_load N (lane_at N l) item (lane_items N (lane_at N l)) none)

  despatch_brought : (l : ℕ) → l < length (lanes N) → (lane_at N l).kind ≡ Despatch → (lane_at N l).receiver.0 ≡ plant
      → brought_by N taken x period l ≡ arriving period (shipments N (lane_at N l) item)
  despatch_brought l within kind here =
      let lane : Lane = lane_at N l in
      elim (cases_Bool (has_item N lane item)) [
        | inl has ↦
            lane_brought l within here (item_there N lane item has)
            ∙ ap (λ (k : LaneKind). quantity_in period (lines_by N k lane item)) kind
            ∙ sum_map (λ (line : Delivery). cond (line.period == period) line.quantity 0) delivery_of (shipments N lane item)
        | inr none ↦
            lane_without l within here none
            ∙ sym (ap (arriving period) (shipments_are_of_items N table lane item (not_there N lane item none)))
      ]

  abbrev to_plant : (LaneKind → Bool) → Lane → Bool
  to_plant is_kind lane = is_kind lane.kind && (lane.receiver.0 == plant)

  despatches_brought : brought N taken is_despatch x period ≡ sum_by (λ lane. arriving period (shipments N lane item)) (filter (to_plant is_despatch) (lanes N))
  despatches_brought =
      let ships : Lane → ℕ = λ lane. arriving period (shipments N lane item) in
      let counted : Lane → ℕ = λ lane. cond (to_plant is_despatch lane) (ships lane) 0 in
      sum_same (λ l. cond (to_plant is_despatch (lane_at N l)) (brought_by N taken x period l) 0) (λ l. counted (lane_at N l)) 0 (length (lanes N))
      (λ l low high. same_where (to_plant is_despatch (lane_at N l)) (brought_by N taken x period l) (ships (lane_at N l)) (λ t.
      let parts = and_parts (is_despatch (lane_at N l).kind) ((lane_at N l).receiver.0 == plant) t in
      despatch_brought l (omega arith) (only_despatch (lane_at N l).kind parts.0) (eqb-true (lane_at N l).receiver.0 plant parts.1)))
      ∙ by_number N counted
      ∙ sym (sum_filter ships (to_plant is_despatch) (lanes N))

  -- ---- schedule lanes

  abbrev asks : SourceRow → ℕ
  asks s = asked_by_source N (plan_of N) x period s

  abbrev asks_of : SourceRow → Bool
  asks_of s = source_pair N s == x

  -- a source that asks of the pair takes its item
  takes_item : (s : SourceRow) → In N.sources s → asks_of s ≡ true → item_of_source N s ≡ item
  takes_item s there t =
      let behind = pair_behind N table s there in
      sym behind.2 ∙ ap (λ (z : ℕ). (pair_at N z).item) (eqb-true (source_pair N s) x t)

  over_in_sources : (customer supplier : ℕ) (s : SourceRow) → In (taken_over N customer supplier) s → In N.sources s
  over_in_sources customer supplier s h =
      (filter_only (λ (r : SourceRow). ((pair_at N r.pair.0).plant.0 == customer) && (r.plant.0 == supplier)) N.sources s h).0

  schedule_brought : (l : ℕ) → l < length (lanes N) → period < horizon N → (lane_at N l).kind ≡ Schedule → (lane_at N l).receiver.0 ≡ plant
      → brought_by N taken x period l ≡ over_route N asks (customer_of (lane_at N l)) (supplier_of (lane_at N l))
  schedule_brought l within inside kind here =
      let lane : Lane = lane_at N l in
      let over : List SourceRow = taken_over N (customer_of lane) (supplier_of lane) in
      elim (cases_Bool (has_item N lane item)) [
        | inl has ↦
            let there = item_there N lane item has in
            let s : SourceRow = source_on N lane item in
            let among = In-from_contains over s (source_over N lane item (items_have_sources N table lane item there)) in
            let asked : asks_of s ≡ true = eq-eqb (source_pair N s) x (called_pair N table lane x pair kind here there) in
            let own : ((r : SourceRow) → In over r → asks_of r ≡ true → (item_of_source N r).0 ≡ item.0) =
            λ r h t. ap (λ (i : ItemNo). i.0) (takes_item r (over_in_sources (customer_of lane) (supplier_of lane) r h) t) in
            lane_brought l within here there
            ∙ ap (λ (k : LaneKind). quantity_in period (lines_by N k lane item)) kind
            ∙ in_period (called_in N s) (horizon N) period inside
            ∙ sym (one_asks (item_of_source N) asks_of (λ r. called_in N r period) item.0 over
            (one_source_brings_an_item N table (customer_of lane) (supplier_of lane)) own s among asked)
        | inr none ↦
            lane_without l within here none
            ∙ sym (none_asks asks_of (λ r. called_in N r period) over (λ r h t.
            let is = takes_item r (over_in_sources (customer_of lane) (supplier_of lane) r h) t in
            not_there N lane item none (Contains-from_in (lane_items N lane) item (subst (In (lane_items N lane)) is (In-map (item_of_source N) over r h)))))
      ]

  abbrev called_over : Lane → ℕ
  called_over lane = cond (to_plant is_schedule lane) (over_route N asks (customer_of lane) (supplier_of lane)) 0

  abbrev despatch : ℕ → ℕ → Lane
  despatch customer supplier = record { kind = Despatch; sender = record { 0 = supplier }; receiver = record { 0 = customer } }

  abbrev schedule : ℕ → ℕ → Lane
  schedule customer supplier = record { kind = Schedule; sender = record { 0 = customer }; receiver = record { 0 = supplier } }

  between_calls : (customer supplier : ℕ) → sum_by called_over (lanes_between N customer supplier)
      ≡ cond (plant == supplier) (over_route N asks customer plant) 0
  between_calls customer supplier =
      elim (cases_eq plant supplier) [
        | inl same ↦
            let at : cond (plant == supplier) (over_route N asks customer plant) 0 ≡ over_route N asks customer plant =
            cond-true (plant == supplier) (over_route N asks customer plant) 0 (eq-eqb plant supplier same) in
            here_calls customer supplier same ∙ sym at
        | inr other ↦
            let none : cond (plant == supplier) (over_route N asks customer plant) 0 ≡ 0 =
            cond-false (plant == supplier) (over_route N asks customer plant) 0 (ne_eqb plant supplier other) in
            elsewhere customer supplier other ∙ sym none
      ]
    where
      both : (customer supplier : ℕ) → sum_by called_over (despatch customer supplier ∷ schedule customer supplier ∷ [])
          ≡ cond (supplier == plant) (over_route N asks customer supplier) 0
      both customer supplier =
          omega (
            arith,
            sum_by-cons called_over (despatch customer supplier) (schedule customer supplier ∷ []),
            sum_by-cons called_over
                (schedule customer supplier) [],
          )

      here_calls : (customer supplier : ℕ) → plant ≡ supplier → sum_by called_over (lanes_between N customer supplier) ≡ over_route N asks customer plant
      here_calls customer supplier same =
          elim (cases_eq (length (taken_over N customer supplier)) 0) [
            | inl empty ↦
                ap (sum_by called_over) (no_lanes N customer supplier empty)
                ∙ sym (ap (λ (z : ℕ). over_route N asks customer z) same ∙ ap (sum_by asks) (nothing_in (taken_over N customer supplier) empty))
            | inr some ↦
                ap (sum_by called_over) (some_lanes N customer supplier (omega arith)) ∙ both customer supplier
                ∙ cond-true (supplier == plant) (over_route N asks customer supplier) 0 (eq-eqb supplier plant (sym same))
                ∙ ap (λ (z : ℕ). over_route N asks customer z) (sym same)
          ]

      elsewhere : (customer supplier : ℕ) → (plant ≡ supplier → ⊥) → sum_by called_over (lanes_between N customer supplier) ≡ 0
      elsewhere customer supplier other =
          elim (cases_eq (length (taken_over N customer supplier)) 0) [
            | inl empty ↦ ap (sum_by called_over) (no_lanes N customer supplier empty)
            | inr some ↦
                ap (sum_by called_over) (some_lanes N customer supplier (omega arith)) ∙ both customer supplier
                ∙ cond-false (supplier == plant) (over_route N asks customer supplier) 0 (ne_eqb supplier plant (λ e. other (sym e)))
          ]

  of_customer : (customer : ℕ) → sum_by called_over (lanes_of N customer) ≡ over_route N asks customer plant
  of_customer customer =
      let n = length N.plants in
      sum-flat_map called_over (lanes_between N customer) (range_with_len 0 n)
      ∙ sum_by-ext (λ supplier. sum_by called_over (lanes_between N customer supplier))
      (λ supplier. cond (plant == supplier) (over_route N asks customer plant) 0) (range_with_len 0 n) (between_calls customer)
      ∙ placed_once (over_route N asks customer plant) plant n (table.read.pairs x no_pair pair).plant

  schedules_brought : period < horizon N → brought N taken is_schedule x period ≡ over_plants N (λ customer. over_route N asks customer plant)
  schedules_brought inside =
      let n = length N.plants in
      sum_same (λ l. cond (to_plant is_schedule (lane_at N l)) (brought_by N taken x period l) 0) (λ l. called_over (lane_at N l)) 0 (length (lanes N))
      (λ l low high. same_where (to_plant is_schedule (lane_at N l)) (brought_by N taken x period l)
      (over_route N asks (customer_of (lane_at N l)) (supplier_of (lane_at N l))) (λ t.
      let parts = and_parts (is_schedule (lane_at N l).kind) ((lane_at N l).receiver.0 == plant) t in
      schedule_brought l (omega arith) inside (only_schedule (lane_at N l).kind parts.0) (eqb-true (lane_at N l).receiver.0 plant parts.1)))
      ∙ by_number N called_over
      ∙ sum-flat_map called_over (lanes_of N) (range_with_len 0 n)
      ∙ sum_by-ext (λ customer. sum_by called_over (lanes_of N customer)) (λ customer. over_route N asks customer plant) (range_with_len 0 n) of_customer

pub despatches_bring_incoming : DespatchesBringIncoming
despatches_bring_incoming N table planned taken x pair legal ready period =
    omega (arith, despatches_brought N table planned taken x pair legal ready period, incoming_comes_over_lanes N table x period pair)

pub schedules_bring_gross : SchedulesBringGross
schedules_bring_gross N table planned taken x pair legal ready period inside =
    omega (arith, schedules_brought N table planned taken x pair legal ready period inside, gross_is_local_and_called N table (plan_of N) x period pair)
