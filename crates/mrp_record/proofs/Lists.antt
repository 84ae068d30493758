-- Records of a lane: lists by their places, as a sender's cursor keeps the lane's items and queue.
use Rattle.std.proofs.Common.{◌≡◌, ℕ, ◌<◌, ◌≤◌, zero, suc, Some, None, List, [], ◌∷◌, ◌++◌, refl, sym, ◌∙◌, ap, length, get_or, map, take, drop, arith}
use Rattle.std.specs.Prelude.{slice_get}
use Rattle.std.specs.List.{Contains, range_with_len}
use Rattle.std.proofs.lemmas.List.{ext_get_or}
use Rattle.std.proofs.lemmas.List.FromFn.{length-range_with_len, get_or-range_with_len, length-map-range_with_len, get_or-map-range_with_len}
use Rattle.std.proofs.lemmas.Option.{slice_get_within, get_or_from_slice_get}

-- ---- the element at a place

pub drop_there : {X : Type 0} (xs : List X) (i : ℕ) (x : X) → slice_get xs i ≡ Some x → drop i xs ≡ x ∷ drop (suc i) xs
drop_there [] i x e = absurd (cc)
drop_there (y ∷ ys) zero x e = let same : y ≡ x = cc in ap (λ z. z ∷ ys) same
drop_there (y ∷ ys) (suc i) x e = drop_there ys i x e

pub take_there : {X : Type 0} (xs : List X) (i : ℕ) (x : X) → slice_get xs i ≡ Some x → take (suc i) xs ≡ take i xs ++ x ∷ []
take_there [] i x e = absurd (cc)
take_there (y ∷ ys) zero x e = let same : y ≡ x = cc in ap (λ z. z ∷ []) same
take_there {X} (y ∷ ys) (suc i) x e = ap (λ (z : List X). y ∷ z) (take_there ys i x e)

pub contains_there : {X : Type 0} (xs : List X) (i : ℕ) (x : X) → slice_get xs i ≡ Some x → Contains xs x
contains_there xs i x e = (i, slice_get_within xs i x e, get_or_from_slice_get xs i x x e)

pub same_there : {X : Type 0} (xs : List X) (i : ℕ) (x y : X) → slice_get xs i ≡ Some x → slice_get xs i ≡ Some y → x ≡ y
same_there xs i x y e d = cc

pub none_there : {X : Type 0} (xs : List X) (i : ℕ) → slice_get xs i ≡ None → length xs ≤ i
none_there [] i e = omega arith
none_there (y ∷ ys) zero e = absurd (cc)
none_there (y ∷ ys) (suc i) e = omega (arith, none_there ys i e)

-- ---- members

pub Contains-first : {X : Type 0} (x : X) (xs : List X) → Contains (x ∷ xs) x
Contains-first x xs = (0, (omega arith), refl)

pub Contains-rest : {X : Type 0} (y : X) (xs : List X) (x : X) → Contains xs x → Contains (y ∷ xs) x
Contains-rest y xs x h = (suc h.0, (omega (arith, h.1)), h.2)

-- ---- all places of a list

pub range_below : (n k : ℕ) → Contains (range_with_len 0 n) k → k < n
range_below n k h =
    let inside : h.0 < n = omega (arith, h.1, length-range_with_len 0 n) in
    omega (arith, inside, h.2, get_or-range_with_len 0 n h.0 k inside)

pub range_has : (n k : ℕ) → k < n → Contains (range_with_len 0 n) k
range_has n k h = (k, (omega (arith, length-range_with_len 0 n)), omega (arith, get_or-range_with_len 0 n k k h))

-- the elements of all places, one by one
pub elements_are : {X : Type 0} (d : X) (xs : List X) (n : ℕ) → length xs ≡ n → map (λ k. get_or xs k d) (range_with_len 0 n) ≡ xs
elements_are {X} d xs n e =
    let f : ℕ → X = λ k. get_or xs k d in
    let sizes : length (map f (range_with_len 0 n)) ≡ n = length-map-range_with_len f 0 n in
    ext_get_or d (map f (range_with_len 0 n)) xs (sizes ∙ sym e) (λ i h. get_or-map-range_with_len f 0 n i i d (omega (arith, sizes)) (omega arith))
