-- The network: the sources of a pair stand together, and each is found by its pair and plant.
use Rattle.std.proofs.Common.{◌≡◌, ◌≢◌, ℕ, suc, zero, ◌+◌, ◌*◌, ◌<◌, ◌≤◌, ◌&&◌, Bool, true, cond, eqb, ltb, List, [], ◌∷◌, inl, inr, length, get_or, slice_index}
use Rattle.std.proofs.Common.{slice_range, map, refl, sym, ap, ◌∙◌, arith, ◌^◌, subst}
use Rattle.std.specs.List.{All, Contains, filter, sum_by}
use Rattle.mrp_qty.specs.declared.limits.TheConstants.{MOST_IN_ROW, MOST_OF_A_KIND}
use Rattle.std.specs.List.Sorted.{IsNonDecreasingBy}
use Rattle.std.proofs.lemmas.Bool.{cases_lt, cases_eq, eq-eqb, eqb-true, ne_eqb, and_from, and_parts, true≢false, false_from_ne_true}
use Rattle.std.proofs.lemmas.Bool.Decides.{nat_tests}
use Rattle.std.proofs.lemmas.List.{get_or_read, get_or-map, length-map}
use Rattle.std.proofs.lemmas.List.Elements.{All-head, All-tail, All-map, All-filter, filter_passes}
use Rattle.std.proofs.lemmas.List.Folds.{list_any_at, list_any_none}
use Rattle.std.proofs.lemmas.List.Sums.{sum_by-cons, fails_before_first, passes_at_first}
use Rattle.mrp_master_data.specs.declared.numbers.ItemNo.{ItemNo}
use Rattle.mrp_master_data.specs.declared.rows.CumRow.{CumRow}
use Rattle.mrp_master_data.specs.declared.rows.SourceRow.{SourceRow}
use Rattle.mrp_master_data.specs.Table.{Table, IsTable, IsPair, IsSourceRow, is_taken_from, pair_no}
use Rattle.mrp_net.specs.declared.lane.Lane.{Lane}
use Rattle.mrp_net.specs.declared.lane.Shipment.{Shipment}
use Rattle.mrp_net.specs.declared.lanes.Sent.{Sent}
use Rattle.mrp_grouping.specs.Starts.{before_key}
use Rattle.mrp_net.specs.Lanes.{figure, shipped_from, ships_from, shipment_of, lane_items, pair_on, taken_over, item_of_source, customer_of, supplier_of}
use Rattle.mrp_net.specs.Sources.{source_no}
use Rattle.mrp_net.specs.SourceRows.{AreSourceStarts, sent, AreShipments, AreSent}
use Rattle.mrp_net.specs.Sums.{pair_at}
use Rattle.mrp_net.proofs.Covering.{sum_by-same}
use Rattle.mrp_net.proofs.Routing.{filter-map, filter_same, map-map, ShowsGroups-slice, ShowsGroups-within}
use Rattle.mrp_net.proofs.Sharing.{sum_map, pairs_are_found}
use Rattle.mrp_net.proofs.Summing.{AreTotalsOf, figure_within, shipped_from_within}

-- in rows that stand in the order of their keys, those of smaller keys stand first
none_before : {X : Type 0} (key : X → ℕ) (k : ℕ) (rows : List X) → All (λ r. k ≤ key r) rows → before_key key k rows ≡ 0
none_before key k [] all = refl
none_before key k (r ∷ rows) all =
    let here : k ≤ key r = All-head (λ r. k ≤ key r) r rows all in
    let none : ◌≡◌ {A = ℕ} (cond (ltb (key r) k) 1 0) 0 = grind (arith, nat_tests) in
    omega (arith, sum_by-cons (λ r. cond (ltb (key r) k) 1 0) r rows, none, none_before key k rows (All-tail (λ r. k ≤ key r) r rows all))

one_if_below : (a k : ℕ) → a < k → ◌≡◌ {A = ℕ} (cond (ltb a k) 1 0) 1
one_if_below a k h = grind (arith, nat_tests)

in_order_after : {X : Type 0} (key : X → ℕ) (r : X) (rows : List X) → IsNonDecreasingBy key (r ∷ rows) → IsNonDecreasingBy key rows
in_order_after key r rows order = λ i j d le lt. order (suc i) (suc j) d (omega arith) (omega arith)

none_below_first : {X : Type 0} (key : X → ℕ) (k : ℕ) (r : X) (rows : List X) → IsNonDecreasingBy key (r ∷ rows) → k ≤ key r → before_key key k (r ∷ rows) ≡ 0
none_below_first key k r rows order h = none_before key k (r ∷ rows) (λ i d lt. let le : key r ≤ key (get_or (r ∷ rows) i d) =
    order 0 i d (omega arith) lt in omega arith)

pub earlier_keys : {X : Type 0} (key : X → ℕ) (k : ℕ) (rows : List X) (i : ℕ) (d : X) → IsNonDecreasingBy key rows → i < before_key key k rows
    → key (get_or rows i d) < k
earlier_keys key k [] i d order h = absurd (omega arith)
earlier_keys key k (r ∷ rows) zero d order h =
    elim (cases_lt (key r) k) as (λ _. key r < k) [
      | inl below ↦ below
      | inr above ↦ absurd (omega (arith, none_below_first key k r rows order above))
    ]
earlier_keys key k (r ∷ rows) (suc i) d order h =
    elim (cases_lt (key r) k) as (λ _. key (get_or rows i d) < k) [
      | inl below ↦ earlier_keys key k rows i d (in_order_after key r rows order)
          (omega (arith, sum_by-cons (λ r. cond (ltb (key r) k) 1 0) r rows, one_if_below (key r) k below))
      | inr above ↦ absurd (omega (arith, none_below_first key k r rows order above))
    ]

pub later_keys : {X : Type 0} (key : X → ℕ) (k : ℕ) (rows : List X) (i : ℕ) (d : X) → IsNonDecreasingBy key rows → before_key key k rows ≤ i → i < length rows
    → k ≤ key (get_or rows i d)
later_keys key k [] i d order h lt = absurd (omega arith)
later_keys key k (r ∷ rows) zero d order h lt =
    elim (cases_lt (key r) k) as (λ _. k ≤ key r) [
      | inl below ↦ absurd (omega (arith, sum_by-cons (λ r. cond (ltb (key r) k) 1 0) r rows, one_if_below (key r) k below))
      | inr above ↦ above
    ]
later_keys key k (r ∷ rows) (suc i) d order h lt =
    elim (cases_lt (key r) k) as (λ _. k ≤ key (get_or rows i d)) [
      | inl below ↦ later_keys key k rows i d (in_order_after key r rows order)
          (omega (arith, sum_by-cons (λ r. cond (ltb (key r) k) 1 0) r rows, one_if_below (key r) k below)) (omega arith)
      | inr above ↦ let le : key r ≤ key (get_or rows i d) = order 0 (suc i) d (omega arith) (omega arith) in omega arith
    ]

-- the source by which a pair takes from a plant has a number, and is of that pair and plant
abbrev pub no_source : SourceRow
no_source = record { pair = record { 0 = 0 }; plant = record { 0 = 0 }; low = 0; high = 0 }

abbrev source : Table → ℕ → SourceRow
source N i = get_or N.sources i no_source

abbrev is_by : ℕ → ℕ → SourceRow → Bool
is_by x p s = eqb s.plant.0 p && eqb s.pair.0 x

pub source_within : (N : Table) (x p : ℕ) → is_taken_from N x p ≡ true → source_no N x p < length N.sources
source_within N x p taken =
    elim (cases_lt (source_no N x p) (length N.sources)) as (λ _. source_no N x p < length N.sources) [
      | inl within ↦ within
      | inr past ↦ absurd (true≢false (sym taken ∙ list_any_none (is_by x p) N.sources (λ i d h. fails_before_first (is_by x p) N.sources i d (omega arith))))
    ]

pub source_is : (N : Table) (x p : ℕ) → source_no N x p < length N.sources
    → ((source N (source_no N x p)).pair.0 ≡ x) × ((source N (source_no N x p)).plant.0 ≡ p)
source_is N x p within =
    let s : SourceRow = source N (source_no N x p) in
    let parts = and_parts (eqb s.plant.0 p) (eqb s.pair.0 x) (passes_at_first (is_by x p) N.sources no_source within) in
    (eqb-true s.pair.0 x parts.1, eqb-true s.plant.0 p parts.0)

pub taker_within : (N : Table) (x p : ℕ) → IsTable N → is_taken_from N x p ≡ true → IsPair N x
taker_within N x p is taken =
    let within = source_within N x p taken in
    let pair : (source N (source_no N x p)).pair.0 < length N.pairs = (is.read.sources (source_no N x p) no_source within).pair in
    omega (arith, pair, (source_is N x p within).0)

-- it stands among those of the pair: looking from where they begin finds it
pub source_from_start : (N : Table) (starts : List ℕ) (x p : ℕ) → IsTable N → AreSourceStarts N starts → is_taken_from N x p ≡ true
    → get_or starts x 0 ≤ source_no N x p
source_from_start N starts x p is are taken =
    let within = source_within N x p taken in
    let here : IsPair N x = taker_within N x p is taken in
    let begins : get_or starts x 0 ≡ before_key (λ (s : SourceRow). s.pair.0) x N.sources = are.begins x (omega arith) in
    elim (cases_lt (source_no N x p) (get_or starts x 0)) as (λ _. get_or starts x 0 ≤ source_no N x p) [
      | inl early ↦ absurd (omega (
        arith,
        earlier_keys (λ (s : SourceRow). s.pair.0) x N.sources (source_no N x p) no_source is.sourced.order (omega arith),
        (source_is N x p within).0,
      ))
      | inr late ↦ late
    ]

pub source_after : (N : Table) (x p i : ℕ) → is_taken_from N x p ≡ true → i ≤ source_no N x p → (source N i).plant.0 ≢ p → i + 1 ≤ source_no N x p
source_after N x p i taken le other =
    elim (cases_eq i (source_no N x p)) as (λ _. i + 1 ≤ source_no N x p) [
      | inl e ↦ absurd (other (ap (λ (z : ℕ). (source N z).plant.0) e ∙ (source_is N x p (source_within N x p taken)).1))
      | inr ne ↦ omega arith
    ]

pub source_found : (N : Table) (starts : List ℕ) (x p i : ℕ) → IsTable N → AreSourceStarts N starts → is_taken_from N x p ≡ true → get_or starts x 0 ≤ i
    → i ≤ source_no N x p → (source N i).plant.0 ≡ p → i ≡ source_no N x p
source_found N starts x p i is are taken from le plant =
    let within = source_within N x p taken in
    let here : IsPair N x = taker_within N x p is taken in
    let begins : get_or starts x 0 ≡ before_key (λ (s : SourceRow). s.pair.0) x N.sources = are.begins x (omega arith) in
    let no_earlier : x ≤ (source N i).pair.0 = later_keys (λ (s : SourceRow). s.pair.0) x N.sources i no_source is.sourced.order (omega arith) (omega arith) in
    let no_later : (source N i).pair.0 ≤ (source N (source_no N x p)).pair.0 = is.sourced.order i (source_no N x p) no_source le within in
    let pair : (source N i).pair.0 ≡ x = omega (arith, (source_is N x p within).0) in
    elim (cases_lt i (source_no N x p)) as (λ _. i ≡ source_no N x p) [
      | inl early ↦
          absurd (true≢false (sym (and_from (eqb (source N i).plant.0 p) (eqb (source N i).pair.0 x) (eq-eqb (source N i).plant.0 p plant)
          (eq-eqb (source N i).pair.0 x pair))
          ∙ fails_before_first (is_by x p) N.sources i no_source early))
      | inr late ↦ omega arith
    ]

-- a row is of that source where it is of that pair and plant
pub source_test : (N : Table) (a b x p : ℕ) → is_taken_from N x p ≡ true → eqb (source_no N a b) (source_no N x p) ≡ (eqb a x && eqb b p)
source_test N a b x p taken =
    let within = source_within N x p taken in
    elim (cases_eq (source_no N a b) (source_no N x p)) as (λ _. eqb (source_no N a b) (source_no N x p) ≡ (eqb a x && eqb b p)) [
      | inl e ↦
          let short : source_no N a b < length N.sources = omega arith in
          let pair : a ≡ x = sym (source_is N a b short).0 ∙ ap (λ (z : ℕ). (source N z).pair.0) e ∙ (source_is N x p within).0 in
          let plant : b ≡ p = sym (source_is N a b short).1 ∙ ap (λ (z : ℕ). (source N z).plant.0) e ∙ (source_is N x p within).1 in
          eq-eqb (source_no N a b) (source_no N x p) e ∙ sym (and_from (eqb a x) (eqb b p) (eq-eqb a x pair) (eq-eqb b p plant))
      | inr ne ↦
          ne_eqb (source_no N a b) (source_no N x p) ne
          ∙ sym (false_from_ne_true (eqb a x && eqb b p) (λ t. let parts = and_parts (eqb a x) (eqb b p) t in
          ne (ap (λ (z : ℕ). source_no N z b) (eqb-true a x parts.0) ∙ ap (λ (z : ℕ). source_no N x z) (eqb-true b p parts.1))))
    ]

-- shipments are of sources of the table
pub sent_within : (N : Table) → IsTable N → All (λ t. t.source < length N.sources) (map (sent N) N.ships)
sent_within N is = All-map (λ (t : Sent). t.source < length N.sources) (sent N) N.ships
    (λ i d h. source_within N (get_or N.ships i d).pair.0 (get_or N.ships i d).from.0 (is.sourced.ships i d h))

-- what a lane brings comes by a source
takes : (N : Table) → All (λ s. is_taken_from N s.pair.0 s.plant.0 ≡ true) N.sources
takes N = λ i d h.
    let s : SourceRow = get_or N.sources i d in
    list_any_at (is_by s.pair.0 s.plant.0) N.sources i d h (and_from (eqb s.plant.0 s.plant.0) (eqb s.pair.0 s.pair.0) (eq-eqb s.plant.0 s.plant.0 refl)
    (eq-eqb s.pair.0 s.pair.0 refl))

pub item_is_taken : (N : Table) (lane : Lane) (item : ItemNo) → IsTable N → Contains (lane_items N lane) item
    → is_taken_from N (pair_on N lane item) (supplier_of lane) ≡ true
item_is_taken N lane item is contains =
    let k : ℕ = contains.0 in
    let test = λ (s : SourceRow). eqb (pair_at N s.pair.0).plant.0 (customer_of lane) && eqb s.plant.0 (supplier_of lane) in
    let over : List SourceRow = taken_over N (customer_of lane) (supplier_of lane) in
    let short : k < length over = omega (arith, contains.1, length-map over (item_of_source N)) in
    let s : SourceRow = get_or over k no_source in
    let row = All-filter test (IsSourceRow N) N.sources is.read.sources k no_source short in
    let parts = and_parts (eqb (pair_at N s.pair.0).plant.0 (customer_of lane)) (eqb s.plant.0 (supplier_of lane))
    (filter_passes test N.sources k no_source short) in
    let same : item_of_source N s ≡ item = sym (get_or-map (item_of_source N) over k no_source item short) ∙ contains.2 in
    let taker : s.pair.0 ≡ pair_on N lane item =
    sym (pairs_are_found N is s.pair.0 row.pair)
    ∙ ap (λ (z : ℕ). pair_no N z (pair_at N s.pair.0).item.0) (eqb-true (pair_at N s.pair.0).plant.0 (customer_of lane) parts.0)
    ∙ ap (λ (z : ItemNo). pair_no N (customer_of lane) z.0) same in
    sym (ap (λ (z : ℕ). is_taken_from N z s.plant.0) taker ∙ ap (λ (z : ℕ). is_taken_from N (pair_on N lane item) z)
    (eqb-true s.plant.0 (supplier_of lane) parts.1))
    ∙ All-filter test (λ s. is_taken_from N s.pair.0 s.plant.0 ≡ true) N.sources (takes N) k no_source short

-- the sums by source
sums_by_source : {R : Type 0} (source amount : R → ℕ) (sums : ℕ → ℕ → ℕ) (N : Table) (rows : List R) (totals : List ℕ)
    → AreTotalsOf source amount (length N.sources) rows totals
    → ((x p : ℕ) → is_taken_from N x p ≡ true → sum_by (λ r. cond (eqb (source r) (source_no N x p)) (amount r) 0) rows ≡ sums x p)
    → ((x p : ℕ) → sums x p ≤ MOST_OF_A_KIND * MOST_IN_ROW) → AreSent N sums totals
sums_by_source source amount sums N rows totals totals_are are few = record {
  size = totals_are.size;
  each = λ x p taken. omega (arith, totals_are.each (source_no N x p) (source_within N x p taken), are x p taken, few x p);
}

pub figures_built : (N : Table) (totals : List ℕ) → IsTable N → AreTotalsOf (λ (c : CumRow). source_no N c.pair.0 c.from.0) (λ c. c.figure)
    (length N.sources) N.cums totals → AreSent N (figure N) totals
figures_built N totals is totals_are =
    sums_by_source (λ c. source_no N c.pair.0 c.from.0) (λ c. c.figure) (figure N) N N.cums totals totals_are
    (λ x p taken. sum_by-same (λ c. cond (eqb (source_no N c.pair.0 c.from.0) (source_no N x p)) c.figure 0)
    (λ c. cond (eqb c.pair.0 x && eqb c.from.0 p) c.figure 0) N.cums
    (λ i d h. ap (λ (b : Bool). cond b (get_or N.cums i d).figure 0) (source_test N (get_or N.cums i d).pair.0 (get_or N.cums i d).from.0 x p taken)))
    (λ x p. let most = figure_within N is x p in omega arith)

pub shipped_built : (N : Table) (totals : List ℕ) → IsTable N → AreTotalsOf (λ (t : Sent). t.source) (λ t. t.shipment.quantity) (length N.sources)
    (map (sent N) N.ships) totals → AreSent N (shipped_from N) totals
shipped_built N totals is totals_are =
    sums_by_source (λ (t : Sent). t.source) (λ t. t.shipment.quantity) (shipped_from N) N (map (sent N) N.ships) totals totals_are
    (λ x p taken. let by_source : sum_by (λ (t : Sent). cond (eqb t.source (source_no N x p)) t.shipment.quantity 0) (map (sent N) N.ships)
    ≡ sum_by (λ s. cond (eqb (source_no N s.pair.0 s.from.0) (source_no N x p)) s.quantity 0) N.ships =
    sum_map (λ (t : Sent). cond (eqb t.source (source_no N x p)) t.shipment.quantity 0) (sent N) N.ships in
    by_source
    ∙ sum_by-same (λ s. cond (eqb (source_no N s.pair.0 s.from.0) (source_no N x p)) s.quantity 0)
    (λ s. cond (eqb s.pair.0 x && eqb s.from.0 p) s.quantity 0) N.ships
    (λ i d h. ap (λ (b : Bool). cond b (get_or N.ships i d).quantity 0) (source_test N (get_or N.ships i d).pair.0 (get_or N.ships i d).from.0 x p taken)))
    (shipped_from_within N is)

-- where the shipments of a source begin and end
pub shipments_ends : (N M : Table) (rows : List Shipment) (starts : List ℕ) (at : ℕ) → N ≡ M → AreShipments N rows starts → at < length M.sources
    → (slice_index starts at ≤ slice_index starts (at + 1)) × (slice_index starts (at + 1) ≤ length rows)
shipments_ends N M rows starts at same are within =
    let there : AreShipments M rows starts = subst (λ (z : Table). AreShipments z rows starts) same are in
    ShowsGroups-within (λ (t : Sent). t.shipment) (λ t. t.source) (length M.sources) (map (sent M) M.ships) rows starts at there within

-- the shipments of a source are a slice
pub shipments_slice : (N : Table) (rows : List Shipment) (starts : List ℕ) (x p : ℕ) → AreShipments N rows starts → is_taken_from N x p ≡ true
    → slice_range rows (slice_index starts (source_no N x p)) (slice_index starts (source_no N x p + 1)) ≡ map shipment_of (ships_from N x p)
shipments_slice N rows starts x p are taken =
    ShowsGroups-slice (λ (t : Sent). t.shipment) (λ t. t.source) (length N.sources) (map (sent N) N.ships) rows starts (source_no N x p) are
    (source_within N x p taken)
    ∙ ap (map (λ (t : Sent). t.shipment)) (filter-map (λ t. eqb t.source (source_no N x p)) (sent N) N.ships)
    ∙ map-map (λ (t : Sent). t.shipment) (sent N) (filter (λ s. eqb (source_no N s.pair.0 s.from.0) (source_no N x p)) N.ships)
    ∙ ap (map shipment_of) (filter_same (λ s. eqb (source_no N s.pair.0 s.from.0) (source_no N x p)) (λ s. eqb s.pair.0 x && eqb s.from.0 p) N.ships
    (λ i d h. source_test N (get_or N.ships i d).pair.0 (get_or N.ships i d).from.0 x p taken))

-- a read of an amount of a source
pub sent_at : (N M : Table) (sums : Table → ℕ → ℕ → ℕ) (amounts : List ℕ) (at x p v : ℕ) → N ≡ M → AreSent N (sums N) amounts → at ≡ source_no M x p
    → is_taken_from M x p ≡ true → v ≡ get_or amounts at v → v ≡ sums M x p
sent_at N M sums amounts at x p v same are is taken read =
    let there : AreSent M (sums M) amounts = subst (λ (z : Table). AreSent z (sums z) amounts) same are in
    get_or_read amounts at v (omega (arith, there.size, is, source_within M x p taken)) read 0 ∙ ap (λ (z : ℕ). get_or amounts z 0) is ∙ there.each x p taken
