-- Master data: lists without an element twice, for the sources that a supply spells, and for names.
use Rattle.std.proofs.Common.{◌≡◌, Bool, false, List, [], ◌∷◌, ◌++◌, arith}
use Rattle.std.specs.List.{All, IsDistinct, list_any}
use Rattle.std.proofs.lemmas.Bool.{or_parts}
use Rattle.std.proofs.lemmas.List.Elements.{All-append, All-from_recursion, recursion_from_All, All-nil, All-cons, All-head, All-tail, All-weaker}
use Rattle.std.proofs.lemmas.Map.Keys.{IsDistinct-cons, IsDistinct-from_apart, IsDistinct-head, IsDistinct-tail}

pub distinct_append : {X : Type 0} (e : X → X → Bool) (xs ys : List X) → IsDistinct e xs → IsDistinct e ys → All (λ x. All (λ y. e x y ≡ false) ys) xs
    → IsDistinct e (xs ++ ys)
distinct_append e [] ys d h apart = h
distinct_append e (x ∷ xs) ys d h apart =
    IsDistinct-cons e x (xs ++ ys)
    (recursion_from_All (λ y. e x y ≡ false) (xs ++ ys)
    (All-append (λ y. e x y ≡ false) xs ys (All-from_recursion (λ y. e x y ≡ false) xs (IsDistinct-head e x xs d))
    (All-head (λ x. All (λ y. e x y ≡ false) ys) x xs apart)))
    (distinct_append e xs ys (IsDistinct-tail e x xs d) h (All-tail (λ x. All (λ y. e x y ≡ false) ys) x xs apart))

pub IsDistinct-nil : {X : Type 0} (e : X → X → Bool) → IsDistinct e []
IsDistinct-nil e = IsDistinct-from_apart e [] (λ i j d lt within. absurd (omega arith))

pub distinct_one : {X : Type 0} (e : X → X → Bool) (x : X) → IsDistinct e (x ∷ [])
distinct_one e x = IsDistinct-from_apart e (x ∷ []) (λ i j d lt within. absurd (omega arith))

pub All_one : {X : Type 0} (P : X → Type 0) (x : X) → P x → All P (x ∷ [])
All_one P x h = All-cons P x [] h (All-nil P)

-- no element passes
pub All-from_any : {X : Type 0} (p : X → Bool) (xs : List X) → list_any p xs ≡ false → All (λ x. p x ≡ false) xs
All-from_any p [] e = All-nil (λ x. p x ≡ false)
All-from_any p (x ∷ xs) e = let parts = or_parts (p x) (list_any p xs) e in All-cons (λ x. p x ≡ false) x xs parts.0 (All-from_any p xs parts.1)

pub distinct_push : {X : Type 0} (e : X → X → Bool) (xs : List X) (y : X) → IsDistinct e xs → list_any (λ x. e x y) xs ≡ false → IsDistinct e (xs ++ y ∷ [])
distinct_push e xs y d new =
    distinct_append e xs (y ∷ []) d (distinct_one e y)
    (All-weaker (λ x. e x y ≡ false) (λ x. All (λ z. e x z ≡ false) (y ∷ [])) (λ x h. All_one (λ z. e x z ≡ false) y h) xs (All-from_any (λ x. e x y) xs new))
