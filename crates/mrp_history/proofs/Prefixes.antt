-- Histories: prefixes of lists, as what a plant has sent and taken grows by them.
use Rattle.std.proofs.Common.{◌≡◌, ◌≤◌, List, [], ◌∷◌, ◌++◌, inl, inr, length, refl, sym, ap, ◌∙◌, arith, append_assoc, length-append}
use Rattle.std.proofs.lemmas.List.{append-nil}
use Rattle.mrp_record.proofs.Fronts.{overlap}
use Rattle.mrp_history.specs.History.{IsPrefix}

pub prefix_refl : {A : Type 0} (xs : List A) → IsPrefix xs xs
prefix_refl xs = record { rest = []; is = sym (append-nil xs) }

pub prefix_same : {A : Type 0} (xs ys : List A) → ys ≡ xs → IsPrefix xs ys
prefix_same xs ys e = record { rest = []; is = e ∙ sym (append-nil xs) }

pub prefix_trans : {A : Type 0} (xs ys zs : List A) → IsPrefix xs ys → IsPrefix ys zs → IsPrefix xs zs
prefix_trans {A} xs ys zs first second = record {
  rest = first.rest ++ second.rest;
  is = second.is ∙ ap (λ (z : List A). z ++ second.rest) first.is ∙ append_assoc xs first.rest second.rest;
}

pub prefix_length : {A : Type 0} (xs ys : List A) → IsPrefix xs ys → length xs ≤ length ys
prefix_length xs ys h = omega (arith, ap length h.is, length-append xs h.rest)

-- of two prefixes of a list one that isn't longer is a prefix of the other
pub prefix_of_longer : {A : Type 0} (xs ys zs : List A) → IsPrefix xs zs → IsPrefix ys zs → length xs ≤ length ys → IsPrefix xs ys
prefix_of_longer xs ys zs first second short = elim (overlap xs first.rest ys second.rest (sym first.is ∙ second.is)) [
  | inl beyond ↦
      let none : length beyond.more ≡ 0 = omega (arith, ap length beyond.is, length-append ys beyond.more) in
      prefix_same xs ys (sym (beyond.is ∙ ap (λ z. ys ++ z) (nothing beyond.more none) ∙ append-nil ys))
  | inr inside ↦ record { rest = inside.next ∷ inside.more; is = inside.is }
]
  where
    nothing : {A : Type 0} (l : List A) → length l ≡ 0 → l ≡ []
    nothing [] e = refl
    nothing (x ∷ l) e = absurd (omega arith)
