-- Readiness: what pairs wait for before they are ready, as counts of joins with unplanned demanders, and of
-- awaited blocks that aren't ended.
use Rattle.std.proofs.Common.{◌≡◌, ℕ, ◌+◌, ◌-◌, ◌<◌, ◌≤◌, ◌&&◌, Bool, true, false, not, cond, eqb, List, [], ◌∷◌, inl, inr, length, get_or, set, map}
use Rattle.std.proofs.Common.{refl, sym, ap, ◌∙◌, subst, arith, Some}
use Rattle.std.specs.Prelude.{slice_get}
use Rattle.std.specs.List.{All, count_by, filter}
use Rattle.std.proofs.lemmas.Bool.{cases_eq, eq-eqb, eqb-true, ne_eqb, and_from, and_parts, both_ways, false_from_ne_true, true_from_ne_false, not-true}
use Rattle.std.proofs.lemmas.Bool.{not_from_false}
use Rattle.std.proofs.lemmas.List.{get_or-set_same, get_or-set_other, length-set}
use Rattle.std.proofs.lemmas.List.Elements.{All-weaker}
use Rattle.std.proofs.lemmas.List.Sums.{sum_by-cons, sum_by-set, get_or-le-sum_by, sum_by-le}
use Rattle.std.proofs.lemmas.Option.{slice_get_within, get_or_from_slice_get}
use Rattle.mrp_readiness.specs.declared.join.Join.{Join}
use Rattle.mrp_readiness.specs.Progress.{is_planned, times, IsLess}
use Rattle.mrp_readiness.specs.Counts.{Awaited, AreCounts, AreFirstCounts, IsOneEnded, components_of, join_count, open_blocks, unplanned}
use Rattle.mrp_readiness.specs.ReadinessLaws.{ReadyWhereNothingIsOpen, ComponentsWait, EndingOpensFewer, OpenBlocksAreAwaited}

-- a test counts where it passes
abbrev pub one_if : Bool → ℕ
one_if b = cond b 1 0

-- a join counts where it is one of the pair and its demander isn't planned
abbrev waiting : List Bool → ℕ → Join → ℕ
waiting planned y j = cond (eqb j.component y && not (is_planned planned j.demander)) 1 0

when_planned : (b : Bool) → cond (b && not true) 1 0 + cond b 1 0 ≡ cond (b && not false) 1 0
when_planned true = refl
when_planned false = refl

when_unplanned : (b : Bool) → one_if (b && not false) ≡ one_if b
when_unplanned true = refl
when_unplanned false = refl

-- the joins of x no longer count, each other as before
waiting-set : (j : Join) (planned : List Bool) (x y : ℕ) → x < length planned → is_planned planned x ≡ false
    → waiting (set planned x true) y j + cond (eqb j.demander x) (cond (eqb j.component y) 1 0) 0 ≡ waiting planned y j
waiting-set j planned x y within free =
    elim (cases_eq j.demander x) as (λ _. waiting (set planned x true) y j + cond (eqb j.demander x) (cond (eqb j.component y) 1 0) 0 ≡ waiting planned y j) [
      | inl e ↦
          let now : get_or (set planned x true) j.demander false ≡ true =
          ap (λ (z : ℕ). get_or (set planned x true) z false) e ∙ get_or-set_same planned x true false within in
          let was : get_or planned j.demander false ≡ false = ap (λ (z : ℕ). get_or planned z false) e ∙ free in
          let test : eqb j.demander x ≡ true = eq-eqb j.demander x e in
          rw (now, was, test) (when_planned (eqb j.component y))
      | inr ne ↦
          let same : get_or (set planned x true) j.demander false ≡ get_or planned j.demander false = get_or-set_other planned x j.demander true false ne in
          let test : eqb j.demander x ≡ false = ne_eqb j.demander x ne in
          rw (same, test) (omega arith)
    ]

-- the components of one join more
times-cons : (j : Join) (rest : List Join) (y : ℕ) (b : Bool) → times y (map (λ (i : Join). i.component) (cond b (j ∷ rest) rest))
    ≡ cond b (cond (eqb j.component y) 1 0) 0 + times y (map (λ (i : Join). i.component) rest)
times-cons j rest y true = sum_by-cons (λ c. cond (eqb c y) 1 0) j.component (map (λ (i : Join). i.component) rest)
times-cons j rest y false = omega arith

-- once x is planned, a pair waits for x no longer, as often as it stands in the joins of x
pub unplanned-set : (joins : List Join) (planned : List Bool) (x y : ℕ) → x < length planned → is_planned planned x ≡ false
    → unplanned joins (set planned x true) y + times y (components_of joins x) ≡ unplanned joins planned y
unplanned-set [] planned x y within free = refl
unplanned-set (j ∷ joins) planned x y within free =
    let now = sum_by-cons (waiting (set planned x true) y) j joins in
    let was = sum_by-cons (waiting planned y) j joins in
    let components = times-cons j (filter (λ (i : Join). eqb i.demander x) joins) y (eqb j.demander x) in
    omega (arith, now, was, components, waiting-set j planned x y within free, unplanned-set joins planned x y within free)

-- a pair that isn't planned counts in each of its joins
both-le : (b : Bool) → cond b 1 0 ≤ cond (b && not false) 1 0
both-le true = omega arith
both-le false = omega arith

taken-le : (j : Join) (planned : List Bool) (x y : ℕ) → is_planned planned x ≡ false
    → cond (eqb j.demander x) (cond (eqb j.component y) 1 0) 0 ≤ waiting planned y j
taken-le j planned x y free =
    elim (cases_eq j.demander x) as (λ _. cond (eqb j.demander x) (cond (eqb j.component y) 1 0) 0 ≤ waiting planned y j) [
      | inl e ↦
          let was : get_or planned j.demander false ≡ false = ap (λ (z : ℕ). get_or planned z false) e ∙ free in
          let test : eqb j.demander x ≡ true = eq-eqb j.demander x e in
          rw (was, test) (both-le (eqb j.component y))
      | inr ne ↦
          let test : eqb j.demander x ≡ false = ne_eqb j.demander x ne in
          rw test (omega arith)
    ]

-- what stands among the components of x counts while x isn't planned
pub times-le : (joins : List Join) (planned : List Bool) (x y : ℕ) → is_planned planned x ≡ false → times y (components_of joins x) ≤ unplanned joins planned y
times-le [] planned x y free = omega arith
times-le (j ∷ joins) planned x y free =
    let was = sum_by-cons (waiting planned y) j joins in
    let components = times-cons j (filter (λ (i : Join). eqb i.demander x) joins) y (eqb j.demander x) in
    omega (arith, was, components, taken-le j planned x y free, times-le joins planned x y free)

-- while nothing is planned, each join counts
unplanned-none : (joins : List Join) (planned : List Bool) (y : ℕ) → ((x : ℕ) → is_planned planned x ≡ false) → unplanned joins planned y ≡ join_count joins y
unplanned-none [] planned y none = refl
unplanned-none (j ∷ joins) planned y none =
    let was = sum_by-cons (waiting planned y) j joins in
    let all = sum_by-cons (λ (i : Join). cond (eqb i.component y) 1 0) j joins in
    let same : waiting planned y j ≡ one_if (eqb j.component y) = rw (none j.demander) (when_unplanned (eqb j.component y)) in
    omega (arith, was, all, same, unplanned-none joins planned y none)

pub AreCounts-first : (waits : List ℕ) (joins : List Join) (planned : List Bool) (blocks : ℕ → ℕ) → ((x : ℕ) → is_planned planned x ≡ false)
    → AreFirstCounts waits joins blocks → AreCounts waits joins planned blocks
AreCounts-first waits joins planned blocks none first = record {
  counted = λ y h. omega (arith, first.counted y h, unplanned-none joins planned y none);
}

-- after a pair is settled, waits are the counts as before
pub AreCounts-settled : (old new : List ℕ) (joins : List Join) (planned later : List Bool) (blocks : ℕ → ℕ) (components : List ℕ) (x : ℕ) → x < length planned
    → is_planned planned x ≡ false → later ≡ set planned x true → IsLess old new components → components ≡ components_of joins x
    → AreCounts old joins planned blocks → AreCounts new joins later blocks
AreCounts-settled old new joins planned later blocks components x within free marked less same was = record {
  counted = λ y h.
      let known : y < length old = omega (arith, less.size) in
      let all : times y components ≡ times y (components_of joins x) = ap (λ (z : List ℕ). times y z) same in
      let now : unplanned joins later y ≡ unplanned joins (set planned x true) y = ap (λ (z : List Bool). unplanned joins z y) marked in
      omega (arith, less.fewer y known, was.counted y known, unplanned-set joins planned x y within free, all, now);
}

-- and after a block is ended
pub AreCounts-arrived : (old new : List ℕ) (joins : List Join) (planned later : List Bool) (before after : ℕ → ℕ) (y : ℕ) → y < length old → later ≡ planned
    → new ≡ set old y (get_or old y 0 - 1) → IsOneEnded y before after → AreCounts old joins planned before → AreCounts new joins later after
AreCounts-arrived old new joins planned later before after y known same is one was =
    rw (same, is) record {
      counted = λ z h. elim (cases_eq z y) as (λ _. get_or (set old y (get_or old y 0 - 1)) z 0 ≡ unplanned joins planned z + after z) [
        | inl e ↦
            rw e (omega (arith, get_or-set_same old y (get_or old y 0 - 1) 0 known, was.counted y known, one.ended))
        | inr ne ↦
            let here : z < length old = omega (arith, length-set old y (get_or old y 0 - 1)) in
            omega (arith, get_or-set_other old y z (get_or old y 0 - 1) 0 ne, was.counted z here, one.others z ne)
      ];
    }

-- ---- nothing counts exactly where nothing passes the test

none_from_zero : {X : Type 0} (p : X → Bool) (xs : List X) → count_by p xs ≡ 0 → All (λ x. p x ≡ false) xs
none_from_zero {X} p xs zero k d h =
    false_from_ne_true (p (get_or xs k d)) (λ t.
    let counts : one_if (p (get_or xs k d)) ≡ 1 = rw t refl in
    omega (arith, zero, counts, get_or-le-sum_by (λ (x : X). cond (p x) 1 0) xs k d h))

zero_from_none : {X : Type 0} (p : X → Bool) (xs : List X) → All (λ x. p x ≡ false) xs → count_by p xs ≡ 0
zero_from_none {X} p xs none =
    omega (arith, sum_by-le (λ (x : X). cond (p x) 1 0) 0 xs (λ k d h. let e : p (get_or xs k d) ≡ false = none k d h in rw e (omega arith)))

holds_from_false : (a b : ℕ) (p : Bool) → (eqb a b && not p) ≡ false → a ≡ b → p ≡ true
holds_from_false a b p h e =
    true_from_ne_false p (λ f. both_ways (eqb a b && not p) h (and_from (eqb a b) (not p) (eq-eqb a b e) (not_from_false p f)))

false_from_holds : (a b : ℕ) (p : Bool) → (a ≡ b → p ≡ true) → (eqb a b && not p) ≡ false
false_from_holds a b p h =
    false_from_ne_true (eqb a b && not p) (λ t.
    let both = and_parts (eqb a b) (not p) t in
    both_ways p (not-true p both.1) (h (eqb-true a b both.0)))

-- ---- the laws

pub ready_where_nothing_is_open : ReadyWhereNothingIsOpen
ready_where_nothing_is_open waits ready joins planned blocks counts listed y = (
  λ is.
      let free = (listed.exact y).0 is in
      let sum = counts.counted y free.known in
      record {
        known = free.known;
        is_unplanned = free.unplanned;
        demanders_are_planned = All-weaker (λ (j : Join). (eqb j.component y && not (is_planned planned j.demander)) ≡ false) (λ (j : Join). j.component ≡ y
            → is_planned planned j.demander ≡ true) (λ j h. holds_from_false j.component y (is_planned planned j.demander) h) joins
            (none_from_zero (λ (j : Join). eqb j.component y && not (is_planned planned j.demander)) joins (omega (arith, sum, free.waits_for_none)));
        blocks_are_ended = All-weaker (λ (b : Awaited). (eqb b.pair y && not b.ended) ≡ false) (λ (b : Awaited). b.pair ≡ y
            → b.ended ≡ true) (λ b h. holds_from_false b.pair y b.ended h) blocks
            (none_from_zero (λ (b : Awaited). eqb b.pair y && not b.ended) blocks (omega (arith, sum, free.waits_for_none)));
      },
  λ is.
      let no_joins = zero_from_none (λ (j : Join). eqb j.component y && not (is_planned planned j.demander)) joins
      (All-weaker (λ (j : Join). j.component ≡ y → is_planned planned j.demander ≡ true)
      (λ (j : Join). (eqb j.component y && not (is_planned planned j.demander)) ≡ false)
      (λ j h. false_from_holds j.component y (is_planned planned j.demander) h) joins is.demanders_are_planned) in
      let no_blocks = zero_from_none (λ (b : Awaited). eqb b.pair y && not b.ended) blocks
      (All-weaker (λ (b : Awaited). b.pair ≡ y → b.ended ≡ true) (λ (b : Awaited). (eqb b.pair y && not b.ended) ≡ false)
      (λ b h. false_from_holds b.pair y b.ended h) blocks is.blocks_are_ended) in
      (listed.exact y).1 record {
        known = is.known;
        waits_for_none = omega (arith, counts.counted y is.known, no_joins, no_blocks);
        unplanned = is.is_unplanned;
      },
)

pub components_wait : ComponentsWait
components_wait waits joins planned blocks counts x free y known =
    omega (arith, counts.counted y known, times-le joins planned x y free)

-- the count of a block
abbrev awaiting : ℕ → Awaited → ℕ
awaiting y b = cond (eqb b.pair y && not b.ended) 1 0

abbrev block : ℕ → Bool → Awaited
block y ended = record { pair = y; ended = ended }

open_counts : (y : ℕ) → awaiting y (block y false) ≡ 1
open_counts y = let e : eqb y y ≡ true = eq-eqb y y refl in rw e refl

ended_counts : (b : Bool) → one_if (b && not true) ≡ 0
ended_counts true = refl
ended_counts false = refl

other_counts : (y z : ℕ) (p : Bool) → (z ≡ y → ⊥) → awaiting z (block y p) ≡ 0
other_counts y z p ne = let e : eqb y z ≡ false = ne_eqb y z (λ q. ne (sym q)) in rw e refl

open_blocks-set : (blocks : List Awaited) (k y z : ℕ) → slice_get blocks k ≡ Some (block y false)
    → open_blocks (set blocks k (block y true)) z + awaiting z (block y false) ≡ open_blocks blocks z + awaiting z (block y true)
open_blocks-set blocks k y z is =
    let here : get_or blocks k (block y false) ≡ block y false = get_or_from_slice_get blocks k (block y false) (block y false) is in
    let sums = sum_by-set (awaiting z) blocks k (block y true) (block y false) (slice_get_within blocks k (block y false) is) in
    subst (λ (b : Awaited). open_blocks (set blocks k (block y true)) z + awaiting z b ≡ open_blocks blocks z + awaiting z (block y true)) here sums

pub ending_opens_fewer : EndingOpensFewer
ending_opens_fewer blocks k y is = record {
  ended = omega (arith, open_blocks-set blocks k y y is, open_counts y, ended_counts (eqb y y));
  others = λ z ne. omega (arith, open_blocks-set blocks k y z is, other_counts y z false ne, other_counts y z true ne);
}

pub open_blocks_are_awaited : OpenBlocksAreAwaited
open_blocks_are_awaited waits joins planned blocks counts k y is known =
    let here : get_or blocks k (block y false) ≡ block y false = get_or_from_slice_get blocks k (block y false) (block y false) is in
    let some = get_or-le-sum_by (awaiting y) blocks k (block y false) (slice_get_within blocks k (block y false) is) in
    let one : awaiting y (get_or blocks k (block y false)) ≡ 1 = ap (awaiting y) here ∙ open_counts y in
    omega (arith, counts.counted y known, some, one)

-- ---- what pairs wait for at first
