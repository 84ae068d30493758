-- Grouping by a key, and by a second one as the period: rows of any kind are added up, and
-- one row more changes one place.
use Rattle.std.proofs.Common.{◌≡◌, ℕ, ◌+◌, ◌-◌, ◌*◌, ◌<◌, ◌^◌, ◌&&◌, Bool, true, false, cond, eqb, List, inl, inr, length, get_or, set, take, min, sym, ap, ◌∙◌}
use Rattle.std.proofs.Common.{subst, arith}
use Rattle.std.proofs.lemmas.Bool.{cases_eq, eq-eqb, eqb-true, and_from, and_parts, false_from_ne_true}
use Rattle.std.proofs.lemmas.List.{get_or-set_same, get_or-set_other}
use Rattle.std.proofs.lemmas.List.Sums.{sum_by_more}
use Rattle.std.proofs.lemmas.Nat.{same_from_place}
use Rattle.mrp_grouping.specs.Added.{sum_in, AddsAmounts, AddsTotals}

sum_in-more : {R : Type 0} (pair period amount : R → ℕ) (x t : ℕ) (rows : List R) (i : ℕ) (r : R) → i < length rows → r ≡ get_or rows i r → (b : Bool)
    → (eqb (pair r) x && eqb (period r) t) ≡ b → sum_in pair period amount x t (take (i + 1) rows) ≡ sum_in pair period amount x t (take i rows)
    + cond b (amount r) 0
sum_in-more {R} pair period amount x t rows i r lt here b test =
    sum_by_more (λ r. cond (eqb (pair r) x && eqb (period r) t) (amount r) 0) rows i r lt
    ∙ ap (λ (z : R). sum_in pair period amount x t (take i rows) + cond (eqb (pair z) x && eqb (period z) t) (amount z) 0) (sym here)
    ∙ ap (λ (z : Bool). sum_in pair period amount x t (take i rows) + cond z (amount r) 0) test

pub AddsAmounts-more : {R : Type 0} (pair period amount : R → ℕ) (periods : ℕ) (rows : List R) (before now : List ℕ) (i : ℕ) (r : R) (at v : ℕ)
    → i < length rows → r ≡ get_or rows i r → AddsAmounts pair period amount periods (take i rows) before now → at ≡ pair r * periods + period r
    → period r < periods → length now ≡ length before → v ≡ min (get_or now at 0 + amount r) (2 ^ 64 - 1)
    → AddsAmounts pair period amount periods (take (i + 1) rows) before (set now at v)
AddsAmounts-more pair period amount periods rows before now i r at v lt here was is small same new x t below within =
    elim (cases_eq (x * periods + t) at) as (λ _. get_or (set now at v) (x * periods + t) 0
    ≡ min (get_or before (x * periods + t) 0 + sum_in pair period amount x t (take (i + 1) rows)) (2 ^ 64 - 1)) [
      | inl e ↦
          let both = same_from_place x t (pair r) (period r) periods below small (e ∙ is) in
          let more = sum_in-more pair period amount x t rows i r lt here true
          (and_from (eqb (pair r) x) (eqb (period r) t) (eq-eqb (pair r) x (sym both.0)) (eq-eqb (period r) t (sym both.1))) in
          let there : get_or (set now at v) (x * periods + t) 0 ≡ v = rw e (get_or-set_same now at v 0 (omega arith)) in
          let had : get_or now at 0 ≡ min (get_or before (x * periods + t) 0 + sum_in pair period amount x t (take i rows)) (2 ^ 64 - 1) =
          ap (λ (z : ℕ). get_or now z 0) (sym e) ∙ was x t below within in
          omega (arith, there, new, had, more)
      | inr ne ↦
          let apart = false_from_ne_true (eqb (pair r) x && eqb (period r) t) (λ h. let p = and_parts (eqb (pair r) x) (eqb (period r) t) h in
          ne (ap (λ (z : ℕ). z * periods + t) (sym (eqb-true (pair r) x p.0)) ∙ ap (λ (z : ℕ). pair r * periods + z) (sym (eqb-true (period r) t p.1))
          ∙ sym is)) in
          let more = sum_in-more pair period amount x t rows i r lt here false apart in
          omega (arith, get_or-set_other now at (x * periods + t) v 0 ne, was x t below within, more)
    ]

-- the same rows, periods and first amounts under other names
pub AddsAmounts-same : {R : Type 0} (pair period amount : R → ℕ) (p q : ℕ) (rows others : List R) (before first after : List ℕ) → p ≡ q → rows ≡ others
    → before ≡ first → AddsAmounts pair period amount p rows before after → AddsAmounts pair period amount q others first after
AddsAmounts-same {R} pair period amount p q rows others before first after e f g adds =
    subst (λ (z : List ℕ). AddsAmounts pair period amount q others z after) g
    (subst (λ (z : List R). AddsAmounts pair period amount q z before after) f
    (subst (λ (z : ℕ). AddsAmounts pair period amount z rows before after) e adds))

pub AddsTotals-same : {R : Type 0} (pair amount : R → ℕ) (rows others : List R) (before first after : List ℕ) → rows ≡ others → before ≡ first
    → AddsTotals pair amount rows before after → AddsTotals pair amount others first after
AddsTotals-same {R} pair amount rows others before first after f g adds =
    subst (λ (z : List ℕ). AddsTotals pair amount others z after) g
    (subst (λ (z : List R). AddsTotals pair amount z before after) f adds)
