-- The network: the sums that it makes of a table's rows are within 64 bits, so nothing is cut off them.
use Rattle.std.proofs.Common.{◌≡◌, ℕ, ◌+◌, ◌-◌, ◌*◌, ◌^◌, ◌<◌, ◌≤◌, ◌&&◌, Bool, true, false, cond, eqb, List, [], ◌∷◌, ◌++◌, length, get_or, map, take, drop}
use Rattle.std.proofs.Common.{min, replicate, refl, sym, subst, ap, ◌∙◌, inl, inr, arith}
use Rattle.std.specs.List.{All, AllByRecursion, IsDistinct, range_with_len, sum_by}
use Rattle.std.proofs.lemmas.Bool.{cond_both, cases_Bool, and_from, and_parts, eq-eqb, eqb-true, false_from_ne_true, true≢false}
use Rattle.std.proofs.lemmas.Grind.{same_number_lists}
use Rattle.std.proofs.lemmas.List.{take_at, get_or_read, get_or-replicate, get_or-map, get_or-take, get_or-drop, length-replicate, length-map, length-take-le}
use Rattle.std.proofs.lemmas.List.{length-drop}
use Rattle.std.proofs.lemmas.List.FromFn.{get_or-map-range_with_len, length-map-range_with_len}
use Rattle.std.proofs.lemmas.List.Elements.{All-head, All-tail}
use Rattle.std.proofs.lemmas.List.Sums.{sum_by-cons, sum_by-le}
use Rattle.std.proofs.lemmas.Map.Keys.{IsDistinct-head, IsDistinct-tail}
use Rattle.std.proofs.lemmas.Nat.{mul-add-lt}
use Rattle.std.proofs.Math.Nat.{mul_comm, mul-le-mul_left}
use Rattle.mrp_qty.specs.declared.quantity.TheConstants.{MOST}
use Rattle.mrp_qty.specs.declared.limits.TheConstants.{MOST_DEMANDS, MOST_IN_ROW, MOST_OF_A_KIND, MOST_PAIRS}
use Rattle.mrp_master_data.specs.declared.rows.DemandRow.{DemandRow}
use Rattle.mrp_master_data.specs.declared.rows.ReceiptRow.{ReceiptRow}
use Rattle.mrp_master_data.specs.declared.rows.ShipRow.{ShipRow}
use Rattle.mrp_master_data.specs.declared.rows.CumRow.{CumRow}
use Rattle.mrp_master_data.specs.declared.rows.FirmRow.{FirmRow}
use Rattle.mrp_master_data.specs.declared.rows.VendorRow.{VendorRow}
use Rattle.mrp_master_data.specs.Rows.{Vendor, vendor_of}
use Rattle.mrp_master_data.specs.Table.{Table, IsTable, IsPair, horizon, is_same_cum}
use Rattle.mrp_grouping.specs.Added.{AddsTotals, AddsAmounts, sum_in, sum_of}
use Rattle.mrp_grouping.proofs.Adding.{AddsAmounts-same, AddsTotals-same}
use Rattle.mrp_net.specs.FirmOrders.{firm_total}
use Rattle.mrp_net.specs.Sums.{pair_at, no_pair, row_of, demand, demand_total, received, shipped, vendor_total}
use Rattle.mrp_net.specs.Lanes.{figure, shipped_from}
use Rattle.mrp_net.specs.Built.{AreTotals, ArePeriods, capped_supply}
use Rattle.mrp_net.proofs.Sharing.{sum_map}
use Rattle.mrp_master_data.proofs.LimitFacts.{any_limited}

-- some of so many amounts at most, each within what a row may have
some_within : {R : Type 0} (most : ℕ) (test : R → Bool) (amount : R → ℕ) (rows : List R) → All (λ r. amount r ≤ MOST_IN_ROW) rows → length rows ≤ most
    → sum_by (λ r. cond (test r) (amount r) 0) rows ≤ most * MOST_IN_ROW
some_within most test amount rows small few =
    let each : All (λ r. cond (test r) (amount r) 0 ≤ MOST_IN_ROW) rows =
    λ k d h. cond_both (test (get_or rows k d)) (amount (get_or rows k d)) 0 (λ n. n ≤ MOST_IN_ROW) (λ _. small k d h) (λ _. omega arith) in
    omega (arith, sum_by-le (λ r. cond (test r) (amount r) 0) MOST_IN_ROW rows each, mul-le-mul_left MOST_IN_ROW few)

pub demand_within : (N : Table) → IsTable N → (x t : ℕ) → demand N x t ≤ MOST_DEMANDS * MOST_IN_ROW
demand_within N is x t = some_within MOST_DEMANDS (λ d. eqb d.pair.0 x && eqb d.period t) (λ d. d.quantity) N.demands
    (λ k d h. (is.read.demands k d h).quantity) (any_limited N is.read.limits).demands

pub demand_total_within : (N : Table) → IsTable N → (x : ℕ) → demand_total N x ≤ MOST_DEMANDS * MOST_IN_ROW
demand_total_within N is x = some_within MOST_DEMANDS (λ d. eqb d.pair.0 x) (λ d. d.quantity) N.demands (λ k d h. (is.read.demands k d h).quantity)
    (any_limited N is.read.limits).demands

pub firm_total_within : (N : Table) → IsTable N → (x : ℕ) → firm_total N x ≤ MOST_OF_A_KIND * MOST_IN_ROW
firm_total_within N is x = some_within MOST_OF_A_KIND (λ f. eqb f.pair.0 x) (λ f. f.quantity) N.firms (λ k d h. (is.read.firms k d h).quantity)
    (any_limited N is.read.limits).firms

pub received_within : (N : Table) → IsTable N → (x t : ℕ) → received N x t ≤ MOST_OF_A_KIND * MOST_IN_ROW
received_within N is x t = some_within MOST_OF_A_KIND (λ r. eqb r.pair.0 x && eqb r.period t) (λ r. r.quantity) N.receipts
    (λ k d h. (is.read.receipts k d h).quantity) (any_limited N is.read.limits).receipts

-- that is less than demand may be
pub received_small : (N : Table) → IsTable N → (x t : ℕ) → received N x t ≤ MOST_DEMANDS * MOST_IN_ROW
received_small N is x t = omega (arith, received_within N is x t)

pub shipped_within : (N : Table) → IsTable N → (x t : ℕ) → shipped N x t ≤ MOST_OF_A_KIND * MOST_IN_ROW
shipped_within N is x t = some_within MOST_OF_A_KIND (λ s. eqb s.pair.0 x && eqb s.period t) (λ s. s.quantity) N.ships
    (λ k d h. (is.read.ships k d h).quantity) (any_limited N is.read.limits).ships

-- a pair and a period have a place
place_within : (N : Table) (amounts : List ℕ) (x t : ℕ) → length amounts ≡ length N.pairs * horizon N → IsPair N x → t < horizon N
    → x * horizon N + t < length amounts
place_within N amounts x t size h g = omega (arith, size, mul-add-lt x (horizon N) t (length N.pairs) h g, mul_comm (horizon N) (length N.pairs))

-- and so has each row of a pair and a period
pub places_within : {R : Type 0} (pair period : R → ℕ) (N : Table) (periods : ℕ) (rows : List R) (amounts : List ℕ)
    → length amounts ≡ length N.pairs * horizon N → periods ≡ horizon N
    → All (λ r. IsPair N (pair r)) rows → All (λ r. period r < horizon N) rows → All (λ r. pair r * periods + period r < length amounts) rows
places_within pair period N periods rows amounts size width pairs small k d h =
    let x : ℕ = pair (get_or rows k d) in
    let t : ℕ = period (get_or rows k d) in
    subst (λ (z : ℕ). x * z + t < length amounts) (sym width) (place_within N amounts x t size (pairs k d h) (small k d h))

-- places are few
pub place_fits : (N : Table) (x n : ℕ) → IsTable N → IsPair N x → n ≡ horizon N → (x + 1) * n < 2 ^ 32
place_fits N x n is pair width =
    let few : x + 1 ≤ MOST_PAIRS = omega (arith, (any_limited N is.read.limits).pairs) in
    omega (arith, mul-le-mul_left n few, width, (any_limited N is.read.limits).periods)

-- amounts that stand together are a row
pub row_at : (amounts : List ℕ) (from n : ℕ) (amount : ℕ → ℕ) → from + n ≤ length amounts → ((t : ℕ) → t < n → get_or amounts (from + t) 0 ≡ amount t)
    → take n (drop from amounts) ≡ map amount (range_with_len 0 n)
row_at amounts from n amount end each =
    let size : length (take n (drop from amounts)) ≡ n = omega (arith, length-take-le n (drop from amounts), length-drop from amounts) in
    same_number_lists (take n (drop from amounts)) (map amount (range_with_len 0 n)) (size ∙ sym (length-map-range_with_len amount 0 n))
    (λ t lt. let g : t < n = omega (arith, size) in
    get_or-take n (drop from amounts) t 0 g
    ∙ get_or-drop from amounts t 0
    ∙ each t g
    ∙ sym (get_or-map-range_with_len amount 0 n t t 0 g (omega arith)))

-- the amounts of a pair are its row
row_in_periods : (N : Table) (amount : ℕ → ℕ → ℕ) (amounts : List ℕ) (x : ℕ) → ArePeriods N amount amounts → IsPair N x
    → take (horizon N) (drop (x * horizon N) amounts) ≡ row_of N (amount x)
row_in_periods N amount amounts x are h =
    row_at amounts (x * horizon N) (horizon N) (amount x) (omega (arith, are.size, mul-le-mul_left (horizon N) h)) (λ t g. are.each x t h g)

pub row_read : (N M : Table) (sums : Table → ℕ → ℕ → ℕ) (amounts read : List ℕ) (x from to : ℕ) → N ≡ M → ArePeriods N (sums N) amounts → from ≡ x * horizon M
    → to ≡ (x + 1) * horizon M → IsPair M x
    → read ≡ amounts → take (to - from) (drop from read) ≡ row_of M (sums M x)
row_read N M sums amounts read x from to is are begins ends pair same =
    let long : to - from ≡ horizon M = omega (arith, begins, ends) in
    let there : ArePeriods M (sums M) amounts = subst (λ (z : Table). ArePeriods z (sums z) amounts) is are in
    ap (λ (z : List ℕ). take (to - from) (drop from z)) same
    ∙ ap (λ (z : ℕ). take z (drop from amounts)) long
    ∙ ap (λ (z : ℕ). take (horizon M) (drop z amounts)) begins
    ∙ row_in_periods M (sums M) amounts x there pair

-- an amount of a pair that is read
pub total_read : (N M : Table) (amount : Table → ℕ → ℕ) (totals : List ℕ) (x v : ℕ) → N ≡ M → AreTotals N (amount N) totals → IsPair M x
    → v ≡ get_or totals x v → v ≡ amount M x
total_read N M amount totals x v is are pair read =
    let there : AreTotals M (amount M) totals = subst (λ (z : Table). AreTotals z (amount z) totals) is are in
    get_or_read totals x v (omega (arith, there.size, pair)) read 0 ∙ there.each x pair

-- what is added to zeros, in a slice of a list that is put back, are the sums
pub sums_built : {R : Type 0} (pair period amount : R → ℕ) (N : Table) (periods : ℕ) (rows : List R) (first slice after : List ℕ) (n : ℕ)
    → first ≡ replicate (length N.pairs * horizon N) 0 → periods ≡ horizon N → slice ≡ first → length after ≡ length slice → length after ≡ n
    → AddsAmounts pair period amount periods rows slice after → ((x t : ℕ) → sum_in pair period amount x t rows ≤ MOST_DEMANDS * MOST_IN_ROW)
    → ArePeriods N (λ x t. sum_in pair period amount x t rows) (take n (after ++ drop (length after) first))
sums_built pair period amount N periods rows first slice after n zeros width same long back adds few =
    let room : length first ≡ length N.pairs * horizon N = ap length zeros ∙ length-replicate (length N.pairs * horizon N) 0 in
    let added = AddsAmounts-same pair period amount periods (horizon N) rows rows slice first after width refl same adds in
    rw (take_at after (drop (length after) first) n back) (record {
      size = long ∙ ap length same ∙ room;
      each = λ x t h g.
          let within = place_within N first x t room h g in
          let was : get_or first (x * horizon N + t) 0 ≡ 0 = ap (λ (z : List ℕ). get_or z (x * horizon N + t) 0) zeros
          ∙ get_or-replicate (length N.pairs * horizon N) (x * horizon N + t) 0 0 (omega arith) in
          omega (arith, added x t g within, was, few x t);
    })

-- the totals of rows by a key below n; one past 2^64 - 1 stays there
pub record AreTotalsOf {R : Type 0} (key amount : R → ℕ) (n : ℕ) (rows : List R) (totals : List ℕ) : Type 0 where
  pub size : length totals ≡ n
  pub each : (k : ℕ) → k < n → get_or totals k 0 ≡ min (sum_of key amount k rows) (2 ^ 64 - 1)

-- totals that are added to zeros, one for each owner, in a slice of a list that is put back
pub totals_built : {R O : Type 0} (key amount : R → ℕ) (found owners : List O) (read rows : List R) (first slice after : List ℕ) (n : ℕ)
    → first ≡ replicate (length found) 0 → found ≡ owners → read ≡ rows → slice ≡ first → length after ≡ length slice → length after ≡ n
    → AddsTotals key amount read slice after → AreTotalsOf key amount (length owners) rows (take n (after ++ drop (length after) first))
totals_built {R} {O} key amount found owners read rows first slice after n zeros same_owners same_rows same long back adds =
    let none : first ≡ replicate (length owners) 0 = zeros ∙ ap (λ (z : List O). replicate (length z) 0) same_owners in
    let room : length first ≡ length owners = ap length none ∙ length-replicate (length owners) 0 in
    let added = AddsTotals-same key amount read rows slice first after same_rows same adds in
    rw (take_at after (drop (length after) first) n back) (record {
      size = long ∙ ap length same ∙ room;
      each = λ k h.
          let was : get_or first k 0 ≡ 0 = ap (λ (z : List ℕ). get_or z k 0) none ∙ get_or-replicate (length owners) k 0 0 h in
          omega (arith, added k (omega arith), was);
    })

pub demand_totals_built : (N : Table) (totals : List ℕ) → IsTable N
    → AreTotalsOf (λ (d : DemandRow). d.pair.0) (λ d. d.quantity) (length N.pairs) N.demands totals → AreTotals N (demand_total N) totals
demand_totals_built N totals is are = record { size = are.size; each = λ x h. omega (arith, are.each x h, demand_total_within N is x) }

-- the pair of a vendor's row has a place
pub vendor_within : (N : Table) (rows : List VendorRow) (n : ℕ) → IsTable N → map vendor_of rows ≡ N.vendors → n ≡ length N.pairs
    → All (λ v. v.pair.0 < n) rows
vendor_within N rows n is are room = λ k d h.
    let at : get_or N.vendors k (vendor_of d) ≡ vendor_of (get_or rows k d) =
    sym (ap (λ (z : List Vendor). get_or z k (vendor_of d)) are) ∙ get_or-map vendor_of rows k d (vendor_of d) h in
    let there : k < length N.vendors = omega (arith, ap length are, length-map rows vendor_of, h) in
    let row = is.read.vendors k (vendor_of d) there in
    omega (arith, row.pair, ap (λ (v : Vendor). v.pair.0) at, room)

-- what vendors' rows add up to is what the vendors do
vendors_added : (N : Table) (rows : List VendorRow) (x : ℕ) → map vendor_of rows ≡ N.vendors
    → sum_of (λ (v : VendorRow). v.pair.0) (λ v. v.figure + v.transit) x rows ≡ vendor_total N x
vendors_added N rows x are =
    let amount = λ (v : Vendor). cond (eqb v.pair.0 x) (v.figure + v.transit) 0 in
    sym (sum_map amount vendor_of rows) ∙ ap (sum_by amount) are

pub supplies_built : (N : Table) (before with_receipts with_ships with_cums with_firms after : List ℕ) (vendors : List VendorRow)
    → before ≡ map (λ p. p.on_hand) N.pairs → map vendor_of vendors ≡ N.vendors → length with_receipts ≡ length before
    → length with_ships ≡ length with_receipts → length with_cums ≡ length with_ships → length with_firms ≡ length with_cums → length after ≡ length with_firms
    → AddsTotals (λ (r : ReceiptRow). r.pair.0) (λ r. r.quantity) N.receipts before with_receipts
    → AddsTotals (λ (s : ShipRow). s.pair.0) (λ s. s.quantity) N.ships with_receipts with_ships
    → AddsTotals (λ (c : CumRow). c.pair.0) (λ c. c.figure) N.cums with_ships with_cums
    → AddsTotals (λ (f : FirmRow). f.pair.0) (λ f. f.quantity) N.firms with_cums with_firms
    → AddsTotals (λ (v : VendorRow). v.pair.0) (λ v. v.figure + v.transit) vendors with_firms after → AreTotals N (capped_supply N) after
supplies_built N before with_receipts with_ships with_cums with_firms after vendors is are same1 same2 same3 same4 same5 adds1 adds2 adds3 adds4 adds5 =
    let room : length before ≡ length N.pairs = ap length is ∙ length-map N.pairs (λ p. p.on_hand) in
    record {
      size = same5 ∙ same4 ∙ same3 ∙ same2 ∙ same1 ∙ room;
      each = λ x h.
          let was : get_or before x 0 ≡ (pair_at N x).on_hand = ap (λ (z : List ℕ). get_or z x 0) is ∙ get_or-map (λ p. p.on_hand) N.pairs x no_pair 0 h in
          omega (
            arith,
            adds1 x (omega arith),
            adds2 x (omega arith),
            adds3 x (omega arith),
            adds4 x (omega arith),
            adds5 x (omega arith),
            vendors_added N vendors x are,
            was,
          );
    }

pub shipped_from_within : (N : Table) → IsTable N → (x p : ℕ) → shipped_from N x p ≤ MOST_OF_A_KIND * MOST_IN_ROW
shipped_from_within N is x p = some_within MOST_OF_A_KIND (λ s. eqb s.pair.0 x && eqb s.from.0 p) (λ s. s.quantity) N.ships
    (λ k d h. (is.read.ships k d h).quantity) (any_limited N is.read.limits).ships

-- a plant's cumulative figure for a pair stands once, so it is that of one row at most
abbrev is_of : ℕ → ℕ → CumRow → Bool
is_of x p c = eqb c.pair.0 x && eqb c.from.0 p

no_more_figures : (x p : ℕ) (c : CumRow) (rows : List CumRow) → is_of x p c ≡ true → AllByRecursion (λ d. is_same_cum c d ≡ false) rows
    → sum_by (λ d. cond (is_of x p d) d.figure 0) rows ≡ 0
no_more_figures x p c [] here apart = refl
no_more_figures x p c (d ∷ rows) here apart =
    let first = apart.0 in
    let parts = and_parts (eqb c.pair.0 x) (eqb c.from.0 p) here in
    let other : is_of x p d ≡ false = false_from_ne_true (is_of x p d) (λ t. let both = and_parts (eqb d.pair.0 x) (eqb d.from.0 p) t in
    true≢false (sym (and_from (eqb c.from.0 d.from.0) (eqb c.pair.0 d.pair.0)
    (eq-eqb c.from.0 d.from.0 (eqb-true c.from.0 p parts.1 ∙ sym (eqb-true d.from.0 p both.1)))
    (eq-eqb c.pair.0 d.pair.0 (eqb-true c.pair.0 x parts.0 ∙ sym (eqb-true d.pair.0 x both.0)))) ∙ first)) in
    omega (arith, sum_by-cons (λ d. cond (is_of x p d) d.figure 0) d rows, ap (λ (b : Bool). cond b d.figure 0) other, no_more_figures x p c rows here apart.1)

one_figure : (x p : ℕ) (rows : List CumRow) → IsDistinct is_same_cum rows → All (λ c. c.figure ≤ MOST) rows
    → sum_by (λ d. cond (is_of x p d) d.figure 0) rows ≤ MOST
one_figure x p [] once small = omega arith
one_figure x p (c ∷ rows) once small =
    let sum = sum_by-cons (λ d. cond (is_of x p d) d.figure 0) c rows in
    elim (cases_Bool (is_of x p c)) as (λ _. sum_by (λ d. cond (is_of x p d) d.figure 0) (c ∷ rows) ≤ MOST) [
      | inl here ↦
          let apart = IsDistinct-head is_same_cum c rows once in
          omega (arith, sum, ap (λ (b : Bool). cond b c.figure 0) here, no_more_figures x p c rows here apart, All-head (λ c. c.figure ≤ MOST) c rows small)
      | inr other ↦
          omega (
            arith,
            sum,
            ap (λ (b : Bool). cond b c.figure 0) other,
            one_figure x p rows (IsDistinct-tail is_same_cum c rows once)
                (All-tail (λ c. c.figure ≤ MOST) c rows small),
          )
    ]

pub figure_within : (N : Table) → IsTable N → (x p : ℕ) → figure N x p ≤ MOST
figure_within N is x p = one_figure x p N.cums is.once.cums (λ k d h. (is.read.cums k d h).figure)
