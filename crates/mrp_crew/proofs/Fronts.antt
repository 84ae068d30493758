-- A crew's wave: the first ready pairs, and the workers' results in the order in which they are settled.
use Rattle.std.proofs.Common.{◌≡◌, ℕ, suc, List, [], ◌∷◌, ◌++◌, map, reverse, take, drop, get_or, sym, subst, arith, All, length-append}
use Rattle.std.specs.List.{AllPairs}
use Rattle.std.proofs.lemmas.List.{reverse-append, get_or_append_left, take-append-drop}
use Rattle.std.proofs.lemmas.List.Elements.{All-nil, All-cons, All-head, All-tail, All-push}
use Rattle.std.proofs.lemmas.List.Kept.{AllPairs-cons}

-- what holds of a list holds of its front
pub All-front : {X : Type 0} (P : X → Type 0) (xs ys : List X) → All P (xs ++ ys) → All P xs
All-front P xs ys all k d within = subst P (get_or_append_left xs ys d k within) (all k d (omega (arith, within, length-append xs ys)))

pub AllPairs-front : {X : Type 0} (R : X → X → Type 0) (xs ys : List X) → AllPairs R (xs ++ ys) → AllPairs R xs
AllPairs-front {X} R xs ys all i j d less within =
    subst (λ (x : X). R x (get_or xs j d)) (get_or_append_left xs ys d i (omega (arith, less, within)))
    (subst (R (get_or (xs ++ ys) i d)) (get_or_append_left xs ys d j within) (all i j d less (omega (arith, within, length-append xs ys))))

-- of no element, and of one more
pub All-where_none : {X : Type 0} (P : X → Type 0) (xs : List X) → xs ≡ [] → All P xs
All-where_none P xs none = subst (All P) (sym none) (All-nil P)

pub All-pushed : {X : Type 0} (P : X → Type 0) (xs more : List X) (x : X) → more ≡ xs ++ x ∷ [] → All P xs → P x → All P more
All-pushed P xs more x pushed all its = subst (All P) (sym pushed) (All-push P xs x all its)

-- of a first element, and of the others
pub AllPairs-head : {X : Type 0} (R : X → X → Type 0) (x : X) (xs : List X) → AllPairs R (x ∷ xs) → All (R x) xs
AllPairs-head R x xs all k d within = all 0 (suc k) d (omega arith) (omega (arith, within))

pub AllPairs-tail : {X : Type 0} (R : X → X → Type 0) (x : X) (xs : List X) → AllPairs R (x ∷ xs) → AllPairs R xs
AllPairs-tail R x xs all i j d less within = all (suc i) (suc j) d (omega (arith, less)) (omega (arith, within))

-- of what the elements are mapped to
pub All-from_map : {X Y : Type 0} (P : Y → Type 0) (f : X → Y) (xs : List X) → All P (map f xs) → All (λ x. P (f x)) xs
All-from_map P f [] all = All-nil (λ x. P (f x))
All-from_map P f (x ∷ xs) all = All-cons (λ z. P (f z)) x xs (All-head P (f x) (map f xs) all) (All-from_map P f xs (All-tail P (f x) (map f xs) all))

pub AllPairs-from_map : {X Y : Type 0} (R : Y → Y → Type 0) (f : X → Y) (xs : List X) → AllPairs R (map f xs) → AllPairs (λ v w. R (f v) (f w)) xs
AllPairs-from_map R f [] all = λ i j d less within. absurd (omega (arith, within))
AllPairs-from_map R f (x ∷ xs) all =
    AllPairs-cons (λ v w. R (f v) (f w)) x xs (All-from_map (R (f x)) f xs (AllPairs-head R (f x) (map f xs) all))
    (AllPairs-from_map R f xs (AllPairs-tail R (f x) (map f xs) all))

-- in the other order
pub All-reverse : {X : Type 0} (P : X → Type 0) (xs : List X) → All P xs → All P (reverse xs)
All-reverse P [] all = all
All-reverse P (x ∷ xs) all =
    subst (All P) (sym (reverse-append (x ∷ []) xs)) (All-push P (reverse xs) x (All-reverse P xs (All-tail P x xs all)) (All-head P x xs all))

pub reverse-push : {X : Type 0} (xs : List X) (x : X) → reverse (xs ++ x ∷ []) ≡ x ∷ reverse xs
reverse-push xs x = reverse-append xs (x ∷ [])

-- of as many of the first
pub AllPairs-take : {X : Type 0} (R : X → X → Type 0) (n : ℕ) (xs : List X) → AllPairs R xs → AllPairs R (take n xs)
AllPairs-take R n xs all = AllPairs-front R (take n xs) (drop n xs) (subst (AllPairs R) (sym (take-append-drop n xs)) all)
