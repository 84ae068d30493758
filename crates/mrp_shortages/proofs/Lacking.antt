-- Shortages: what terms lack that take one after the other of the same pieces, and what that adds up to.
use Rattle.std.proofs.Common.{◌≡◌, ℕ, zero, suc, ◌-◌, ◌≤◌, List, [], ◌∷◌, map, take, refl, ap, arith}
use Rattle.std.specs.List.{All, filter, sum_by}
use Rattle.std.proofs.lemmas.Bool.{cond_both, ltb-false, ltb-true}
use Rattle.std.proofs.lemmas.List.Elements.{All-cons, All-filter, filter_passes}
use Rattle.std.proofs.lemmas.List.Sums.{sum_by-cons}
use Rattle.mrp_plan.specs.Peg.{peg_terms}
use Rattle.mrp_plan.specs.declared.terms.PegTerm.{PegTerm}
use Rattle.mrp_plan.proofs.Adding.{terms_add_up}
use Rattle.mrp_shortages.specs.declared.shortage.Shortage.{Shortage}
use Rattle.mrp_shortages.specs.Shortages.{is_short, lack_of, lacks_of, there}
use Rattle.mrp_shortages.specs.ShortageLaws.{ShortagesAddUp, ShortagesAddUpSoFar, ShortagesAreOfTerms, ShortagesAreTermsInOrder}

abbrev short_of : Shortage → ℕ
short_of s = s.short

abbrev quantity_of : PegTerm → ℕ
quantity_of p = p.quantity

-- each term once, in their order
lacks_terms : (left : ℕ) (terms : List PegTerm) → map (λ s. s.term) (lacks_of left terms) ≡ terms
lacks_terms left [] = refl
lacks_terms left (term ∷ terms) = ap (λ rest. term ∷ rest) (lacks_terms (left - term.quantity) terms)

-- the first terms lack what they ask above what was left
lacks_sum : (left k : ℕ) (terms : List PegTerm)
    → sum_by short_of (take k (lacks_of left terms)) ≡ sum_by quantity_of (take k terms) - left
lacks_sum left zero terms = omega arith
lacks_sum left (suc k) [] = omega arith
lacks_sum left (suc k) (term ∷ terms) =
    omega (
      arith,
      sum_by-cons short_of (lack_of left term) (take k (lacks_of (left - term.quantity) terms)),
      sum_by-cons quantity_of term (take k terms),
      lacks_sum (left - term.quantity) k terms,
    )

-- and so do all
all_lacks_sum : (left : ℕ) (terms : List PegTerm) → sum_by short_of (lacks_of left terms) ≡ sum_by quantity_of terms - left
all_lacks_sum left [] = omega arith
all_lacks_sum left (term ∷ terms) =
    omega (
      arith,
      sum_by-cons short_of (lack_of left term) (lacks_of (left - term.quantity) terms),
      sum_by-cons quantity_of term terms,
      all_lacks_sum (left - term.quantity) terms,
    )

-- what lacks nothing adds nothing
shorts_sum : (lacks : List Shortage) → sum_by short_of (filter is_short lacks) ≡ sum_by short_of lacks
shorts_sum [] = refl
shorts_sum (s ∷ lacks) =
    let rest = shorts_sum lacks in
    cond_both (is_short s) (s ∷ filter is_short lacks) (filter is_short lacks) (λ l. sum_by short_of l ≡ sum_by short_of (s ∷ lacks))
    (λ e. omega (arith, rest, sum_by-cons short_of s (filter is_short lacks), sum_by-cons short_of s lacks))
    (λ e. omega (arith, rest, ltb-false 0 s.short e, sum_by-cons short_of s lacks))

pub shortages_add_up : ShortagesAddUp
shortages_add_up N is table fits x in_table =
    let terms = peg_terms N table x 0 in
    let total = terms_add_up N table fits x 0 in_table (omega (arith, is.read.limits.some_periods)) in
    omega (arith, shorts_sum (lacks_of (there N table x) terms), all_lacks_sum (there N table x) terms, total)

pub shortages_add_up_so_far : ShortagesAddUpSoFar
shortages_add_up_so_far N table x k = lacks_sum (there N table x) k (peg_terms N table x 0)

-- no term lacks more than it asks
lacks_within : (left : ℕ) (terms : List PegTerm) → All (λ s. s.short ≤ s.term.quantity) (lacks_of left terms)
lacks_within left [] = λ i d h. absurd (omega (arith, h))
lacks_within left (term ∷ terms) =
    All-cons (λ s. s.short ≤ s.term.quantity) (lack_of left term) (lacks_of (left - term.quantity) terms) (omega arith)
    (lacks_within (left - term.quantity) terms)

pub shortages_are_of_terms : ShortagesAreOfTerms
shortages_are_of_terms N table x i d h =
    let lacks = lacks_of (there N table x) (peg_terms N table x 0) in (
      ltb-true 0 _ (filter_passes is_short lacks i d h),
      All-filter is_short (λ s. s.short ≤ s.term.quantity) lacks (lacks_within (there N table x) (peg_terms N table x 0)) i d h,
    )

pub shortages_are_terms_in_order : ShortagesAreTermsInOrder
shortages_are_terms_in_order N table x = record {
  lacks = lacks_of (there N table x) (peg_terms N table x 0);
  terms = lacks_terms (there N table x) (peg_terms N table x 0);
  short = refl;
}
