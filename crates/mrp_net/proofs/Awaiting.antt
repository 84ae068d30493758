-- The network: what comes in for pairs to which something is on its way, and for those whose policies have SOONER:
-- their places, their receipts, and their shipments.
use Rattle.std.proofs.Common.{◌≡◌, ℕ, ◌+◌, ◌-◌, ◌*◌, ◌^◌, ◌<◌, ◌≤◌, ◌&&◌, Bool, cond, eqb, List, [], ◌∷◌, ◌++◌, inl, inr, length, get_or, map, set, take, drop, refl}
use Rattle.std.proofs.Common.{sym, ap, ◌∙◌, subst, arith, ⊎_elim}
use Rattle.std.specs.List.{All, range_with_len, sum_by}
use Rattle.std.proofs.lemmas.Bool.{cases_eq, cases_lt, eq-eqb, ne_eqb}
use Rattle.std.proofs.lemmas.List.{get_or_read, get_or_append_left, get_or-append_right, get_or-set_same, get_or-set_other, get_or-take}
use Rattle.std.proofs.lemmas.List.{length-take-le, length-append, length-set, take_more}
use Rattle.std.proofs.lemmas.List.Elements.{All-head, All-tail, All-append, All-cons, All-nil}
use Rattle.std.proofs.lemmas.List.FromFn.{get_or-map-range_with_len, length-map-range_with_len}
use Rattle.std.proofs.lemmas.List.Sums.{sum_by-cons}
use Rattle.std.proofs.lemmas.Nat.{mul-add-lt, mul-le}
use Rattle.std.proofs.Math.Nat.{add-mul, mul-le-mul_right}
use Rattle.mrp_qty.proofs.RangeLaws.{map-range-same}
use Rattle.mrp_qty.specs.declared.horizon.TheConstants.{LONGEST}
use Rattle.mrp_qty.specs.declared.limits.TheConstants.{MOST_OF_A_KIND, MOST_PAIRS}
use Rattle.mrp_master_data.specs.declared.rows.PolicyRow.{PolicyRow}
use Rattle.mrp_master_data.specs.declared.rows.ShipRow.{ShipRow}
use Rattle.mrp_master_data.specs.Table.{Table, IsTable, IsPair, horizon}
use Rattle.mrp_grouping.specs.Added.{AddsAmounts, sum_in}
use Rattle.mrp_net.specs.declared.incoming.Incoming.{Incoming}
use Rattle.mrp_net.specs.Incoming.{AreCounted, AreRows, IsIncoming}
use Rattle.mrp_net.specs.Sums.{row_of, incoming, received, received_when_due, shipped}
use Rattle.mrp_net.proofs.PolicyRows.{sooner_none}
use Rattle.mrp_net.proofs.Sooner.{when_due-all, when_due-le}
use Rattle.mrp_net.proofs.Summing.{received_within, row_at, shipped_within}
use Rattle.mrp_master_data.proofs.LimitFacts.{any_limited}

-- ---- rows

-- one row more
pub rows_more : (N : Table) (amount : ℕ → ℕ → ℕ) (pairs rows next row : List ℕ) (i x : ℕ) → i < length pairs → x ≡ get_or pairs i 0
    → row ≡ row_of N (amount x) → next ≡ rows ++ row → AreRows N amount (take i pairs) rows → AreRows N amount (take (i + 1) pairs) next
rows_more N amount pairs rows next row i x lt is row_is grown so_far =
    let taken : length (take i pairs) ≡ i = length-take-le i pairs (omega arith) in
    let more : length (take (i + 1) pairs) ≡ i + 1 = length-take-le (i + 1) pairs (omega arith) in
    let long : length row ≡ horizon N = ap length row_is ∙ length-map-range_with_len (amount x) 0 (horizon N) in
    let had : length rows ≡ i * horizon N = so_far.size ∙ ap (λ (z : ℕ). z * horizon N) taken in
    record {
      size = omega (arith, ap length grown, length-append rows row, had, long, ap (λ (z : ℕ). z * horizon N) more);
      each = λ k t h g. ap (λ (z : List ℕ). get_or z (k * horizon N + t) 0) grown ∙ ⊎_elim
          (λ (low : k < i).
          get_or_append_left rows row 0 (k * horizon N + t) (omega (arith, had, mul-add-lt k (horizon N) t i low g))
          ∙ so_far.each k t (omega (arith, taken, low)) g
          ∙ ap (λ (z : ℕ). amount z t) (get_or-take i pairs k 0 low ∙ sym (get_or-take (i + 1) pairs k 0 (omega arith))))
          (λ (high : i ≤ k).
          let last : k ≡ i = omega (arith, h, more, high) in
          get_or-append_right rows row (i * horizon N) (k * horizon N + t) 0 had (omega (arith, ap (λ (z : ℕ). z * horizon N) last))
          ∙ ap (λ (z : ℕ). get_or row z 0) (let e : k * horizon N + t - i * horizon N ≡ t = omega (arith, ap (λ (z : ℕ). z * horizon N) last) in e)
          ∙ ap (λ (z : List ℕ). get_or z t 0) row_is
          ∙ get_or-map-range_with_len (amount x) 0 (horizon N) t t 0 g (omega arith)
          ∙ ap (λ (z : ℕ). amount z t) (is ∙ sym (get_or-take (i + 1) pairs i 0 (omega arith)) ∙ ap (λ (z : ℕ). get_or (take (i + 1) pairs) z 0) (sym last)))
          (cases_lt k i);
    }

-- ---- shipments

-- two sums are one where each row counts the same in both
sums_same : {X : Type 0} (f g : X → ℕ) (rows : List X) → All (λ r. f r ≡ g r) rows → sum_by f rows ≡ sum_by g rows
sums_same f g [] same = refl
sums_same f g (r ∷ rows) same = omega (
  arith,
  sum_by-cons f r rows,
  sum_by-cons g r rows,
  All-head (λ r. f r ≡ g r) r rows same,
  sums_same f g rows
      (All-tail (λ r. f r ≡ g r) r rows same),
)

-- where two tests are the same
test_same : (a b c : Bool) (v : ℕ) → a ≡ b → cond (a && c) v 0 ≡ cond (b && c) v 0
test_same a b c v e = ap (λ (z : Bool). cond (z && c) v 0) e

-- two places are the same where their pairs are
places_apart : (ships : List ShipRow) (policies : List PolicyRow) (pairs places : List ℕ) (x y : ℕ) → AreCounted ships policies pairs places → 0 < get_or places x 0 → 0 < get_or places y 0
    → eqb (get_or places y 0 - 1) (get_or places x 0 - 1) ≡ eqb y x
places_apart ships policies pairs places x y are has_x has_y =
    elim (cases_eq y x) as (λ _. eqb (get_or places y 0 - 1) (get_or places x 0 - 1) ≡ eqb y x) [
      | inl e ↦ eq-eqb (get_or places y 0 - 1) (get_or places x 0 - 1) (ap (λ (z : ℕ). get_or places z 0 - 1) e) ∙ sym (eq-eqb y x e)
      | inr ne ↦
          ne_eqb (get_or places y 0 - 1) (get_or places x 0 - 1)
          (λ same. ne (sym (are.back y has_y).1 ∙ ap (λ (z : ℕ). get_or pairs z 0) same ∙ (are.back x has_x).1))
          ∙ sym (ne_eqb y x ne)
    ]

-- the shipments to the place of a pair are those to the pair
pub shipped_by_place : (N : Table) (pairs places : List ℕ) (x t : ℕ) → AreCounted N.ships N.policies pairs places → 0 < get_or places x 0
    → sum_in (λ (s : ShipRow). get_or places s.pair.0 0 - 1) (λ s. s.period) (λ s. s.quantity) (get_or places x 0 - 1) t N.ships ≡ shipped N x t
shipped_by_place N pairs places x t are has =
    sums_same (λ (s : ShipRow). cond (eqb (get_or places s.pair.0 0 - 1) (get_or places x 0 - 1) && eqb s.period t) s.quantity 0)
    (λ (s : ShipRow). cond (eqb s.pair.0 x && eqb s.period t) s.quantity 0) N.ships
    (λ k d h. let s : ShipRow = get_or N.ships k d in
    test_same (eqb (get_or places s.pair.0 0 - 1) (get_or places x 0 - 1)) (eqb s.pair.0 x) (eqb s.period t) s.quantity
    (places_apart N.ships N.policies pairs places x s.pair.0 are has (are.seen k d h)))

nothing : (rows : List ShipRow) → sum_by (λ (s : ShipRow). 0) rows ≡ 0
nothing [] = refl
nothing (s ∷ rows) = omega (arith, sum_by-cons (λ (s : ShipRow). 0) s rows, nothing rows)

-- no shipment is to a pair without a place
pub shipped_none : (N : Table) (pairs places : List ℕ) (x t : ℕ) → AreCounted N.ships N.policies pairs places → get_or places x 0 ≡ 0 → shipped N x t ≡ 0
shipped_none N pairs places x t are none =
    sums_same (λ (s : ShipRow). cond (eqb s.pair.0 x && eqb s.period t) s.quantity 0) (λ (s : ShipRow). 0) N.ships
    (λ k d h. let s : ShipRow = get_or N.ships k d in
    ap (λ (z : Bool). cond (z && eqb s.period t) s.quantity 0) (ne_eqb s.pair.0 x
    (λ e. absurd (omega (arith, are.seen k d h, none, ap (λ (z : ℕ). get_or places z 0) e)))))
    ∙ nothing N.ships

incoming_is : (N : Table) (pairs first rows : List ℕ) (i : Incoming) → IsTable N → length i.places.items ≡ length N.pairs
    → AreCounted N.ships N.policies pairs i.places.items
    → AreRows N (received_when_due N) pairs first → length rows ≡ length first → i.rows.items ≡ rows
    → AddsAmounts (λ (s : ShipRow). get_or i.places.items s.pair.0 0 - 1) (λ s. s.period) (λ s. s.quantity) (horizon N) N.ships first rows → IsIncoming N i
incoming_is N pairs first rows i is size are had long back adds =
    let places : List ℕ = i.places.items in
    record {
      size = size;
      few = omega (
        arith,
        ap length back,
        long,
        had.size,
        mul-le (length pairs) (horizon N) (MOST_OF_A_KIND + MOST_PAIRS) LONGEST
            (omega (arith, are.few, (any_limited N is.read.limits).ships, (any_limited N is.read.limits).policies)) (any_limited N is.read.limits).periods,
      );
      none = λ x t pair none. shipped_none N pairs places x t are none;
      when_due = λ x pair none. sooner_none places x N.policies are.sooner none;
      room = λ x pair has. omega (arith, ap length back, long, had.size, mul-le-mul_right (horizon N) (are.back x has).0);
      each = λ x t pair has g.
          let was = are.back x has in
          let at : ℕ = get_or places x 0 - 1 in
          let low : at < length pairs = omega (arith, was.0, has) in
          let within : at * horizon N + t < length first = omega (arith, had.size, mul-add-lt at (horizon N) t (length pairs) low g) in
          let from : get_or first (at * horizon N + t) 0 ≡ received_when_due N x t = had.each at t low g ∙ ap (λ (z : ℕ). received_when_due N z t) was.1 in
          ap (λ (z : List ℕ). get_or z (at * horizon N + t) 0) back
          ∙ omega (
            arith,
            adds at t g within,
            from,
            shipped_by_place N pairs places x t are has,
            when_due-le N x t,
            received_within N is x t,
            shipped_within N is x t,
          );
    }

-- what is added to the receipts of the pairs that have a place is what comes in for them
pub incoming_of : (N : Table) (pairs counted places read first slice rows : List ℕ) (i : Incoming) → IsTable N
    → length i.places.items ≡ length N.pairs
    → AreCounted N.ships N.policies counted places → pairs ≡ counted → i.places.items ≡ places → read ≡ i.places.items
    → AreRows N (received_when_due N) pairs first → slice ≡ first → length rows ≡ length slice → i.rows.items ≡ rows
    → AddsAmounts (λ (s : ShipRow). get_or read s.pair.0 0 - 1) (λ s. s.period) (λ s. s.quantity) (horizon N) N.ships slice rows → IsIncoming N i
incoming_of N pairs counted places read first slice rows i is size all same_pairs kept same_places had same_rows long back adds =
    let are : AreCounted N.ships N.policies counted i.places.items = subst (λ (z : List ℕ). AreCounted N.ships N.policies counted z) (sym kept) all in
    incoming_is N counted first rows i is size are (subst (λ (z : List ℕ). AreRows N (received_when_due N) z first) same_pairs had)
    (long ∙ ap length same_rows) back
    (subst (λ (z : List ℕ). AddsAmounts (λ (s : ShipRow). get_or z s.pair.0 0 - 1) (λ s. s.period) (λ s. s.quantity) (horizon N) N.ships first rows) same_places
    (subst (λ (z : List ℕ). AddsAmounts (λ (s : ShipRow). get_or read s.pair.0 0 - 1) (λ s. s.period) (λ s. s.quantity) (horizon N) N.ships z rows) same_rows
    adds))

-- ---- places

-- what holds of the first rows holds of one more
all_more : {X : Type 0} (P : X → Type 0) (xs : List X) (i : ℕ) (d : X) → i < length xs → P (get_or xs i d) → All P (take i xs)
    → All P (take (i + 1) xs)
all_more {X} P xs i d lt here before =
    subst (All P) (sym (take_more xs i d lt)) (All-append P (take i xs) (get_or xs i d ∷ []) before (All-cons P (get_or xs i d) [] here (All-nil P)))

-- one policy more, of a pair that has a place or without SOONER
pub counted_still : (ships : List ShipRow) (rows : List PolicyRow) (pairs places : List ℕ) (i : ℕ) (d : PolicyRow) → i < length rows
    → (0 < (get_or rows i d).policy.sooner → 0 < get_or places (get_or rows i d).pair.0 0)
    → AreCounted ships (take i rows) pairs places → AreCounted ships (take (i + 1) rows) pairs places
counted_still ships rows pairs places i d lt has are = record {
  back = are.back;
  seen = are.seen;
  sooner = all_more (λ (p : PolicyRow). 0 < p.policy.sooner → 0 < get_or places p.pair.0 0) rows i d lt has are.sooner;
  few = omega (arith, are.few, length-take-le i rows (omega arith), length-take-le (i + 1) rows (omega arith));
  within = are.within;
}

-- one policy more, of a pair that gets the next place
pub counted_next : (ships : List ShipRow) (rows : List PolicyRow) (pairs places next after : List ℕ) (i : ℕ) (d : PolicyRow) → i < length rows
    → (get_or rows i d).pair.0 < length places → get_or places (get_or rows i d).pair.0 0 ≡ 0
    → next ≡ pairs ++ (get_or rows i d).pair.0 ∷ [] → after ≡ set places (get_or rows i d).pair.0 (length next)
    → AreCounted ships (take i rows) pairs places → AreCounted ships (take (i + 1) rows) next after
counted_next ships rows pairs places next after i d lt room none grown written are =
    let x : ℕ = (get_or rows i d).pair.0 in
    let n : ℕ = length pairs in
    let long : length next ≡ n + 1 = ap length grown ∙ length-append pairs (x ∷ []) in
    let here : get_or after x 0 ≡ n + 1 = ap (λ (z : List ℕ). get_or z x 0) written ∙ get_or-set_same places x (length next) 0 room ∙ long in
    let other : (y : ℕ) → (y ≡ x → ⊥) → get_or after y 0 ≡ get_or places y 0 =
    λ y ne. ap (λ (z : List ℕ). get_or z y 0) written ∙ get_or-set_other places x y (length next) 0 ne in
    let more : (y : ℕ) → 0 < get_or places y 0 → 0 < get_or after y 0 =
    λ y has. elim (cases_eq y x) as (λ _. 0 < get_or after y 0) [
      | inl same ↦ omega (arith, here, ap (λ (z : ℕ). get_or after z 0) same)
      | inr ne ↦ omega (arith, other y ne, has)
    ] in
    record {
      back = λ y has. elim (cases_eq y x) as (λ _. (get_or after y 0 ≤ length next) × (get_or next (get_or after y 0 - 1) 0 ≡ y)) [
        | inl same ↦
            let at : get_or after y 0 ≡ n + 1 = ap (λ (z : ℕ). get_or after z 0) same ∙ here in (
              omega (arith, at, long),
              ap (λ (z : ℕ). get_or next (z - 1) 0) at
                  ∙ (let e : n + 1 - 1 ≡ n = omega arith in ap (λ (z : ℕ). get_or next z 0) e)
                  ∙ ap (λ (z : List ℕ). get_or z n 0) grown
                  ∙ get_or-append_right pairs (x ∷ []) n n 0 refl (omega arith)
                  ∙ (let e : n - n ≡ 0 = omega arith in ap (λ (z : ℕ). get_or (x ∷ []) z 0) e)
                  ∙ sym same,
            )
        | inr ne ↦
            let at = other y ne in
            let was = are.back y (omega (arith, at, has)) in (
              omega (arith, at, was.0, long),
              ap (λ (z : ℕ). get_or next (z - 1) 0) at
                  ∙ ap (λ (z : List ℕ). get_or z (get_or places y 0 - 1) 0) grown
                  ∙ get_or_append_left pairs (x ∷ []) 0 (get_or places y 0 - 1) (omega (arith, was.0, at, has))
                  ∙ was.1,
            )
      ];
      seen = λ k e h. more (get_or ships k e).pair.0 (are.seen k e h);
      sooner = all_more (λ (p : PolicyRow). 0 < p.policy.sooner → 0 < get_or after p.pair.0 0) rows i d lt (λ some. omega (arith, here))
          (λ k e h. λ some. more (get_or (take i rows) k e).pair.0 (are.sooner k e h some));
      few = omega (arith, long, are.few, length-take-le i rows (omega arith), length-take-le (i + 1) rows (omega arith));
      within = λ k h. elim (cases_lt k n) as (λ _. get_or next k 0 < length after) [
        | inl low ↦
            omega (
              arith,
              ap (λ (z : List ℕ). get_or z k 0) grown,
              get_or_append_left pairs (x ∷ []) 0 k low,
              are.within k low,
              ap length written,
              length-set places x (length next),
            )
        | inr high ↦
            let last : k ≡ n = omega (arith, h, long, high) in
            omega (
              arith,
              ap (λ (z : ℕ). get_or next z 0) last,
              ap (λ (z : List ℕ). get_or z n 0) grown,
              get_or-append_right pairs (x ∷ []) n n 0 refl (omega arith),
              (let e : n - n ≡ 0 = omega arith in ap (λ (z : ℕ). get_or (x ∷ []) z 0) e),
              room,
              ap length written,
              length-set places x (length next),
            )
      ];
    }

-- ---- readers

-- a place that was read
place_is : (N : Table) (i : Incoming) (x place : ℕ) → IsIncoming N i → IsPair N x → place ≡ get_or i.places.items x place → get_or i.places.items x 0 ≡ place
place_is N i x place is pair read = sym (get_or_read i.places.items x place (omega (arith, is.size, pair)) read 0)

-- what comes in where nothing is on its way is what is received
pub incoming_is_received : (N M : Table) (i : Incoming) (x place : ℕ) → N ≡ M → IsIncoming N i → IsPair M x → place ≡ get_or i.places.items x place → place ≡ 0
    → row_of M (received M x) ≡ row_of M (incoming M x)
incoming_is_received N M i x place same are pair read none =
    let is : IsIncoming M i = subst (λ (z : Table). IsIncoming z i) same are in
    let free : get_or i.places.items x 0 ≡ 0 = place_is M i x place is pair read ∙ none in
    map-range-same (received M x) (incoming M x) (horizon M)
    (λ t h. omega (arith, is.none x t pair free, when_due-all M x t (is.when_due x pair free)))

-- the row of a pair that has a place is within all rows
pub row_room : (N M : Table) (i : Incoming) (x place periods : ℕ) → N ≡ M → IsIncoming N i → IsPair M x → place ≡ get_or i.places.items x place → 0 < place
    → periods ≡ horizon M
    → (place * periods ≤ length i.rows.items) × (length i.rows.items < 2 ^ 40)
row_room N M i x place periods same are pair read some width =
    let is : IsIncoming M i = subst (λ (z : Table). IsIncoming z i) same are in
    let at = place_is M i x place is pair read in (
      subst (λ (z : ℕ). z * periods ≤ length i.rows.items) at (subst (λ (z : ℕ). get_or i.places.items x 0 * z ≤ length i.rows.items) (sym width)
          (is.room x pair (omega (arith, at, some)))),
      is.few,
    )

-- a place ends where the next begins
place_ends : (place periods : ℕ) → 0 < place → (place - 1) * periods + periods ≡ place * periods
place_ends place periods some = let at : place ≡ (place - 1) + 1 =
    omega (arith, some) in omega (arith, ap (λ (z : ℕ). z * periods) at, add-mul (place - 1) 1 periods)

pub place_starts : (place periods : ℕ) → 0 < place → (place - 1) * periods ≤ place * periods
place_starts place periods some = omega (arith, place_ends place periods some)

-- and is what comes in for the pair
pub row_comes : (N M : Table) (i : Incoming) (read : List ℕ) (x place periods : ℕ) → N ≡ M → IsIncoming N i → IsPair M x → place ≡ get_or i.places.items x place
    → 0 < place → periods ≡ horizon M
    → read ≡ i.rows.items → take (place * periods - (place - 1) * periods) (drop ((place - 1) * periods) read) ≡ row_of M (incoming M x)
row_comes N M i read x place periods same are pair seen some width rows =
    let is : IsIncoming M i = subst (λ (z : Table). IsIncoming z i) same are in
    let at = place_is M i x place is pair seen in
    let ends = place_ends place periods some in
    let room = (row_room N M i x place periods same are pair seen some width).0 in
    let from : ℕ = (place - 1) * periods in
    let long : place * periods - from ≡ periods = omega (arith, ends) in
    ap (λ (z : List ℕ). take (place * periods - from) (drop from z)) rows
    ∙ ap (λ (z : ℕ). take z (drop from i.rows.items)) long
    ∙ row_at i.rows.items from periods (incoming M x) (omega (arith, ends, room))
    (λ t g. ap (λ (z : ℕ). get_or i.rows.items ((place - 1) * z + t) 0) width
    ∙ ap (λ (z : ℕ). get_or i.rows.items ((z - 1) * horizon M + t) 0) (sym at)
    ∙ is.each x t pair (omega (arith, at, some)) (omega (arith, g, width)))
    ∙ ap (λ (z : ℕ). map (incoming M x) (range_with_len 0 z)) width
