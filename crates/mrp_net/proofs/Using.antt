-- The network: how many pieces go into parents over one of its edges, by the usage in force.
use Rattle.std.proofs.Common.{◌≡◌, ℕ, ◌+◌, ◌-◌, ◌*◌, ◌/◌, ◌≤◌, ◌<◌, zero, suc, max, Bool, true, false, nat_le, if◌then◌else◌, leb, ltb, eqb}
use Rattle.std.proofs.Common.{List, [], ◌∷◌, ◌++◌, length, get_or, set, take, drop, sum, sum_by, slice_index, filter, refl, sym, ap, ◌∙◌, arith, ⊎_elim}
use Rattle.std.specs.Int.{div_ceil}
use Rattle.std.specs.List.{All, AllWithin, range_with_len}
use Rattle.std.specs.List.Sorted.{IsPartitionPoint}
use Rattle.std.proofs.Math.Nat.{mul-le-mul_left, le-max_left, le-max_right, max-le, mul_assoc}
use Rattle.std.proofs.lemmas.Bool.{cond_both, cond-true, cond-false, cases_lt, ne_eqb, eq-eqb, le-leb, lt-leb, ltb-true, ltb-false, leb-true, leb-false}
use Rattle.std.proofs.lemmas.Grind.{div_ceil_times, common_steps}
use Rattle.std.proofs.lemmas.Nat.{mul-le}
use Rattle.std.proofs.lemmas.List.{append-nil, length-take, length-drop, take-append-drop, get_or-take, get_or-drop, drop-drop, at_drop_more}
use Rattle.std.proofs.lemmas.List.Elements.{All-cons, All-head, All-nil, All-tail, All-get_or, filter-append}
use Rattle.mrp_qty.proofs.RangeLaws.{sum_by-range-suc, sum_take-suc}
use Rattle.mrp_grouping.specs.Groups.{group}
use Rattle.mrp_grouping.proofs.Sorting.{filter_none, filter_whole}
use Rattle.mrp_master_data.specs.declared.rows.Usage.{Usage}
use Rattle.mrp_master_data.specs.declared.rows.UsageRow.{UsageRow}
use Rattle.mrp_net.specs.Usages.{whole, pieces_for, in_force, most_per}

-- where BASE times one number is less than BASE above what BASE times the other reaches, it is no greater
close : (base p q n : ℕ) → base * p < n + base → n ≤ base * q → p ≤ q
close base p q n below reach =
    ⊎_elim (λ (lt : q < p). let next : q + 1 ≤ p = omega arith in absurd (omega (arith, mul-le-mul_left base next))) (λ (le : p ≤ q). le) (cases_lt q p)

-- PER and BASE of a usage, and the pieces for R parents: PER * R ≤ BASE * pieces < PER * R + BASE, and no other number is so
pub pieces_reach : (u : Usage) (parents : ℕ) → 1 ≤ u.base → u.per * parents ≤ u.base * pieces_for u parents
pieces_reach u parents some = omega arith

pub pieces_below : (u : Usage) (parents : ℕ) → 1 ≤ u.base → u.base * pieces_for u parents < u.per * parents + u.base
pieces_below u parents some = omega arith

pub pieces_only : (u : Usage) (parents pieces : ℕ) → 1 ≤ u.base → u.per * parents ≤ u.base * pieces
    → u.base * pieces < u.per * parents + u.base → pieces_for u parents ≡ pieces
pieces_only u parents pieces some reach below =
    omega (
      arith,
      close u.base (pieces_for u parents) pieces (u.per * parents) (pieces_below u parents some) reach,
      close u.base pieces (pieces_for u parents) (u.per * parents) below (pieces_reach u parents some),
    )

-- where BASE is 1 nothing is rounded
pub pieces_for-whole : (per parents : ℕ) → pieces_for (whole per) parents ≡ per * parents
pieces_for-whole per parents = omega arith

pub pieces_for-one : (u : Usage) (parents : ℕ) → u.base ≡ 1 → pieces_for u parents ≡ u.per * parents
pieces_for-one u parents one = ap (λ (base : ℕ). (u.per * parents + (base - 1)) / base) one ∙ pieces_for-whole u.per parents

-- nothing goes in where PER is 0, and nothing into no parents
pub pieces_for-none : (u : Usage) (parents : ℕ) → 1 ≤ u.base → u.per ≡ 0 → pieces_for u parents ≡ 0
pieces_for-none u parents some none =
    let nothing : u.per * parents ≡ 0 = ap (λ (per : ℕ). per * parents) none ∙ (omega arith) in
    pieces_only u parents 0 some (omega arith) (omega arith)

pub pieces_for-zero : (u : Usage) → 1 ≤ u.base → pieces_for u 0 ≡ 0
pieces_for-zero u some = pieces_only u 0 0 some (omega arith) (omega arith)

-- rounding up once is no more than rounding up for each parent
pub pieces_for-le : (u : Usage) (parents : ℕ) → 1 ≤ u.base → pieces_for u parents ≤ pieces_for u 1 * parents
pieces_for-le u parents some =
    let each : u.per ≤ u.base * pieces_for u 1 = omega (arith, pieces_reach u 1 some) in
    let all : u.per * parents ≤ u.base * pieces_for u 1 * parents = mul-le u.per parents (u.base * pieces_for u 1) parents each (omega arith) in
    let reach : u.per * parents ≤ u.base * (pieces_for u 1 * parents) = omega (arith, all, mul_assoc u.base (pieces_for u 1) parents) in
    close u.base (pieces_for u parents) (pieces_for u 1 * parents) (u.per * parents) (pieces_below u parents some) reach

-- what the rows and the bill row have in common, what is in force has
pub in_force-all : (P : Usage → Type 0) (t : ℕ) (before : Usage) (us : List UsageRow) → P before → All (λ u. P u.usage) us → P (in_force t before us)
in_force-all P t before [] own all = own
in_force-all P t before (u ∷ us) own all =
    in_force-all P t (if nat_le u.period t then u.usage else before) us
    (cond_both (nat_le u.period t) u.usage before P (λ _. All-head (λ (v : UsageRow). P v.usage) u us all) (λ _. own))
    (All-tail (λ (v : UsageRow). P v.usage) u us all)

-- and its BASE is 1 or more
pub in_force-some : (t per : ℕ) (us : List UsageRow) → All (λ u. 1 ≤ u.usage.base) us → 1 ≤ (in_force t (whole per) us).base
in_force-some t per us some = in_force-all (λ (u : Usage). 1 ≤ u.base) t (whole per) us (omega arith) some

-- before the first row the bill row is in force
pub in_force-before : (t : ℕ) (before : Usage) (us : List UsageRow) → All (λ u. t < u.period) us → in_force t before us ≡ before
in_force-before t before [] later = refl
in_force-before t before (u ∷ us) later =
    let past = lt-leb u.period t (All-head (λ (v : UsageRow). t < v.period) u us later) in
    ap (λ (v : Usage). in_force t v us) (cond-false (nat_le u.period t) u.usage before past)
    ∙ in_force-before t before us (All-tail (λ (v : UsageRow). t < v.period) u us later)

-- and then the last row that begins by then
pub in_force-append : (t : ℕ) (before : Usage) (us vs : List UsageRow) → in_force t before (us ++ vs) ≡ in_force t (in_force t before us) vs
in_force-append t before [] vs = refl
in_force-append t before (u ∷ us) vs = in_force-append t (if nat_le u.period t then u.usage else before) us vs

-- the greatest number of pieces for one parent is no less than the bill row's and than what is in force
pub le-most_per : (per : ℕ) (us : List UsageRow) → per ≤ most_per per us
le-most_per per [] = omega arith
le-most_per per (u ∷ us) = omega (arith, le-most_per (max per (pieces_for u.usage 1)) us, le-max_left per (pieces_for u.usage 1))

-- it is enough for one parent by each row, and the least such number that is no less than the bill row's
pub most_per-covers : (per : ℕ) (us : List UsageRow) → All (λ u. 1 ≤ u.usage.base) us → All (λ u. u.usage.per ≤ u.usage.base * most_per per us) us
most_per-covers per [] some = All-nil (λ (v : UsageRow). v.usage.per ≤ v.usage.base * most_per per [])
most_per-covers per (u ∷ us) some =
    let one : ℕ = pieces_for u.usage 1 in
    let most : ℕ = most_per (max per one) us in
    let within : one ≤ most = omega (arith, le-most_per (max per one) us, le-max_right per one) in
    let reach : u.usage.per * 1 ≤ u.usage.base * one = pieces_reach u.usage 1 (All-head (λ (v : UsageRow). 1 ≤ v.usage.base) u us some) in
    let grows : u.usage.base * one ≤ u.usage.base * most = mul-le-mul_left u.usage.base within in
    All-cons (λ (v : UsageRow). v.usage.per ≤ v.usage.base * most) u us (omega (arith, reach, grows))
    (most_per-covers (max per one) us (All-tail (λ (v : UsageRow). 1 ≤ v.usage.base) u us some))

pub most_per-least : (per : ℕ) (us : List UsageRow) (n : ℕ) → All (λ u. 1 ≤ u.usage.base) us → per ≤ n
    → All (λ u. u.usage.per ≤ u.usage.base * n) us → most_per per us ≤ n
most_per-least per [] n some own all = own
most_per-least per (u ∷ us) n some own all =
    let below = pieces_below u.usage 1 (All-head (λ (v : UsageRow). 1 ≤ v.usage.base) u us some) in
    let enough : u.usage.per * 1 ≤ u.usage.base * n = omega (arith, All-head (λ (v : UsageRow). v.usage.per ≤ v.usage.base * n) u us all) in
    most_per-least (max per (pieces_for u.usage 1)) us n (All-tail (λ (v : UsageRow). 1 ≤ v.usage.base) u us some)
    (max-le own (close u.usage.base (pieces_for u.usage 1) n (u.usage.per * 1) below enough))
    (All-tail (λ (v : UsageRow). v.usage.per ≤ v.usage.base * n) u us all)

-- pieces for one parent, as a quotient rounded up
pub pieces_for_one_parent : (u : Usage) → 1 ≤ u.base → div_ceil u.per u.base ≡ pieces_for u 1
pieces_for_one_parent u some =
    sym (pieces_only u 1 (div_ceil u.per u.base) some (omega (arith, div_ceil_times u.per u.base some)) (omega (arith, div_ceil_times u.per u.base some)))

-- the greatest number by one more row
pub most_per-more : (most per : ℕ) (us : List UsageRow) (i : ℕ) (d : UsageRow) (one now : ℕ) → i < length us → All (λ u. 1 ≤ u.usage.base) us
    → one ≡ div_ceil (get_or us i d).usage.per (get_or us i d).usage.base → now ≡ max most one → most_per most (drop i us) ≡ most_per per us
    → most_per now (drop (i + 1) us) ≡ most_per per us
most_per-more most per us i d one now within bases one_is now_is so_far =
    let some : 1 ≤ (get_or us i d).usage.base = All-get_or (λ (u : UsageRow). 1 ≤ u.usage.base) us i d within bases in
    ap (λ (m : ℕ). most_per m (drop (i + 1) us)) (now_is ∙ ap (max most) (one_is ∙ pieces_for_one_parent (get_or us i d).usage some))
    ∙ sym (at_drop_more (most_per most) us i d within)
    ∙ so_far

one_in_force-le : (t most : ℕ) (before : Usage) (us : List UsageRow) → pieces_for before 1 ≤ most → pieces_for (in_force t before us) 1 ≤ most_per most us
one_in_force-le t most before [] own = own
one_in_force-le t most before (u ∷ us) own =
    one_in_force-le t (max most (pieces_for u.usage 1)) (if nat_le u.period t then u.usage else before) us
    (cond_both (nat_le u.period t) u.usage before (λ v. pieces_for v 1 ≤ max most (pieces_for u.usage 1)) (λ _. le-max_right most (pieces_for u.usage 1))
    (λ _. omega (arith, own, le-max_left most (pieces_for u.usage 1))))

pub in_force-le : (t per : ℕ) (us : List UsageRow) → pieces_for (in_force t (whole per) us) 1 ≤ most_per per us
in_force-le t per us = one_in_force-le t per (whole per) us (omega (arith, pieces_for-whole per 1))

-- what parents ask in a period is no more than so much for each of them
pub asked-le : (t per : ℕ) (us : List UsageRow) (parents : ℕ) → All (λ u. 1 ≤ u.usage.base) us
    → pieces_for (in_force t (whole per) us) parents ≤ most_per per us * parents
asked-le t per us parents some =
    let each : pieces_for (in_force t (whole per) us) 1 * parents ≤ most_per per us * parents =
    mul-le (pieces_for (in_force t (whole per) us) 1) parents (most_per per us) parents (in_force-le t per us) (omega arith) in
    omega (arith, each, pieces_for-le (in_force t (whole per) us) parents (in_force-some t per us some))

-- and so of a part of a release
pub part_asked-le : (t per : ℕ) (us : List UsageRow) (part release : ℕ) → All (λ u. 1 ≤ u.usage.base) us → part ≤ release
    → pieces_for (in_force t (whole per) us) part ≤ most_per per us * release
part_asked-le t per us part release some le =
    let rises : most_per per us * part ≤ most_per per us * release = mul-le-mul_left (most_per per us) le in
    omega (arith, rises, asked-le t per us part some)

-- and over the first n periods, of the parts of a row of releases
pub parts_asked-le : (per : ℕ) (us : List UsageRow) (part : ℕ → ℕ) (row : List ℕ) (n : ℕ) → All (λ u. 1 ≤ u.usage.base) us
    → ((release : ℕ) → part release ≤ release)
    → sum_by (λ t. pieces_for (in_force t (whole per) us) (part (slice_index row t))) (range_with_len 0 n) ≤ most_per per us * sum (take n row)
parts_asked-le per us part row zero some within = omega arith
parts_asked-le per us part row (suc n) some within =
    omega (
      arith,
      sum_by-range-suc (λ t. pieces_for (in_force t (whole per) us) (part (slice_index row t))) n,
      parts_asked-le per us part row n some within,
      part_asked-le n per us (part (slice_index row n)) (slice_index row n) some (within (slice_index row n)),
      ap (λ (x : ℕ). most_per per us * x) (sum_take-suc row n),
    )

pub asked_sum-le : (per : ℕ) (us : List UsageRow) (row : List ℕ) (n : ℕ) → All (λ u. 1 ≤ u.usage.base) us
    → sum_by (λ t. pieces_for (in_force t (whole per) us) (slice_index row t)) (range_with_len 0 n) ≤ most_per per us * sum (take n row)
asked_sum-le per us row n some = parts_asked-le per us (λ release. release) row n some (λ release. omega arith)

-- rows of one key stand from where those of smaller keys end to where those of greater ones begin
smaller-none : {X : Type 0} (key : X → ℕ) (k : ℕ) (rows : List X) (low : ℕ) → AllWithin (λ r. ltb (key r) k ≡ true) rows 0 low
    → filter (λ r. eqb (key r) k) (take low rows) ≡ []
smaller-none key k rows low smaller =
    filter_none (λ r. eqb (key r) k) (take low rows) (λ i d h.
    let before : i < low = omega (arith, h, length-take low rows) in
    let less = ltb-true (key (get_or rows i d)) k (smaller i d (omega arith) before) in
    rw (get_or-take low rows i d before) (ne_eqb (key (get_or rows i d)) k (omega arith)))

greater-none : {X : Type 0} (key : X → ℕ) (k : ℕ) (rows : List X) (high : ℕ) → AllWithin (λ r. leb (key r) k ≡ false) rows high (length rows)
    → filter (λ r. eqb (key r) k) (drop high rows) ≡ []
greater-none key k rows high greater =
    filter_none (λ r. eqb (key r) k) (drop high rows) (λ i d h.
    let within : high + i < length rows = omega (arith, h, length-drop high rows) in
    let more = leb-false (key (get_or rows (high + i) d)) k (greater (high + i) d (omega arith) within) in
    rw (get_or-drop high rows i d) (ne_eqb (key (get_or rows (high + i) d)) k (omega arith)))

equal-all : {X : Type 0} (key : X → ℕ) (k : ℕ) (rows : List X) (low m high : ℕ) → low + m ≡ high
    → AllWithin (λ r. ltb (key r) k ≡ false) rows low (length rows) → AllWithin (λ r. leb (key r) k ≡ true) rows 0 high
    → filter (λ r. eqb (key r) k) (take m (drop low rows)) ≡ take m (drop low rows)
equal-all key k rows low m high e up down =
    filter_whole (λ r. eqb (key r) k) (take m (drop low rows)) (λ i d h.
    let before : i < m = omega (arith, h, length-take m (drop low rows)) in
    let within : low + i < length rows = omega (arith, h, length-take m (drop low rows), length-drop low rows) in
    let least = ltb-false (key (get_or rows (low + i) d)) k (up (low + i) d (omega arith) within) in
    let most = leb-true (key (get_or rows (low + i) d)) k (down (low + i) d (omega arith) (omega arith)) in
    rw (get_or-take m (drop low rows) i d before, get_or-drop low rows i d) (eq-eqb (key (get_or rows (low + i) d)) k (omega arith)))

pub group_between : {X : Type 0} (key : X → ℕ) (k : ℕ) (rows : List X) (low m high : ℕ) → low + m ≡ high
    → IsPartitionPoint (λ r. ltb (key r) k ≡ true) (λ r. ltb (key r) k ≡ false) rows low
    → IsPartitionPoint (λ r. leb (key r) k ≡ true) (λ r. leb (key r) k ≡ false) rows high → take m (drop low rows) ≡ group key k rows
group_between {X} key k rows low m high e begins ends =
    let p : X → Bool = λ r. eqb (key r) k in
    let past : filter p (drop m (drop low rows)) ≡ [] =
    ap (filter p) (drop-drop m low rows) ∙ ap (λ (n : ℕ). filter p (drop n rows)) e ∙ greater-none key k rows high ends.1 in
    sym (
    ap (filter p) (sym (take-append-drop low rows))
    ∙ filter-append p (take low rows) (drop low rows)
    ∙ ap (λ (z : List X). z ++ filter p (drop low rows)) (smaller-none key k rows low begins.0)
    ∙ ap (filter p) (sym (take-append-drop m (drop low rows)))
    ∙ filter-append p (take m (drop low rows)) (drop m (drop low rows))
    ∙ ap (λ (z : List X). z ++ filter p (drop m (drop low rows))) (equal-all key k rows low m high e begins.1 ends.0)
    ∙ ap (λ (z : List X). take m (drop low rows) ++ z) past
    ∙ append-nil (take m (drop low rows))
    )

-- and begin no later than they end
pub begins_first : {X : Type 0} (key : X → ℕ) (k : ℕ) (rows : List X) (low high : ℕ) → low ≤ length rows
    → IsPartitionPoint (λ r. ltb (key r) k ≡ true) (λ r. ltb (key r) k ≡ false) rows low
    → IsPartitionPoint (λ r. leb (key r) k ≡ true) (λ r. leb (key r) k ≡ false) rows high → low ≤ high
begins_first key k [] low high within begins ends = omega arith
begins_first key k (r ∷ rs) low high within begins ends =
    ⊎_elim (λ (lt : high < low). absurd (omega (
      arith,
      ltb-true (key (get_or (r ∷ rs) high r)) k (begins.0 high r (omega arith) lt),
      leb-false (key (get_or (r ∷ rs) high r)) k (ends.1 high r (omega arith) (omega arith)),
    ))) (λ (le : low ≤ high). le) (cases_lt high low)

-- of a row the periods before t have so much added, and the others are as they were
pub record IsAddedBefore (amount : ℕ → ℕ) (t : ℕ) (before now : List ℕ) : Type 0 where
  pub size : length now ≡ length before
  pub done : (k : ℕ) → k < t → slice_index now k ≡ slice_index before k + amount k
  pub rest : (k : ℕ) → t ≤ k → slice_index now k ≡ slice_index before k

pub added_next : (amount : ℕ → ℕ) (t : ℕ) (before now next : List ℕ) (v : ℕ) → t < length now → v ≡ amount t
    → next ≡ set now t (slice_index now t + v) → IsAddedBefore amount t before now → IsAddedBefore amount (t + 1) before next
added_next amount t before now next v within is grown so_far = record {
  size = grind (arith, common_steps);
  done = grind (arith, common_steps);
  rest = grind (arith, common_steps);
}

pub added_none : (amount : ℕ → ℕ) (t : ℕ) (before now next : List ℕ) → amount t ≡ 0 → next ≡ now → IsAddedBefore amount t before now
    → IsAddedBefore amount (t + 1) before next
added_none amount t before now next none same so_far = record {
  size = grind (arith, common_steps);
  done = grind (arith, common_steps);
  rest = grind (arith, common_steps);
}
