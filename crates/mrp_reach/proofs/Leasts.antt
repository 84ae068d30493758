-- Reach: the least of a number and those of a list, as whole periods are the least of several.
use Rattle.std.specs.Prelude.{◌≡◌, ℕ, ◌≤◌, min, List, [], ◌∷◌, map, All}
use Rattle.std.proofs.Common.{arith}
use Rattle.std.proofs.lemmas.List.Elements.{All-cons, All-head, All-nil, All-tail}
use Rattle.mrp_reach.specs.Reach.{least}

-- it is above none of them
pub least-first : (n : ℕ) (ms : List ℕ) → least n ms ≤ n
least-first n [] = omega arith
least-first n (m ∷ ms) = omega (arith, least-first (min n m) ms)

pub least-each : {X : Type 0} (f : X → ℕ) (n : ℕ) (xs : List X) → All (λ x. least n (map f xs) ≤ f x) xs
least-each f n [] = All-nil (λ x. least n [] ≤ f x)
least-each f n (x ∷ xs) =
    All-cons (λ y. least (min n (f x)) (map f xs) ≤ f y) x xs
    (omega (arith, least-first (min n (f x)) (map f xs)))
    (least-each f (min n (f x)) xs)

-- of numbers that are no less it is no less
pub least-grows : {X : Type 0} (f g : X → ℕ) (n m : ℕ) (xs : List X) → n ≤ m → All (λ x. f x ≤ g x) xs → least n (map f xs) ≤ least m (map g xs)
least-grows f g n m [] first each = first
least-grows f g n m (x ∷ xs) first each =
    let here : f x ≤ g x = All-head (λ y. f y ≤ g y) x xs each in
    least-grows f g (min n (f x)) (min m (g x)) xs (omega arith) (All-tail (λ y. f y ≤ g y) x xs each)

-- and of the same the same
pub least-same : {X : Type 0} (f g : X → ℕ) (n : ℕ) (xs : List X) → All (λ x. f x ≡ g x) xs → least n (map f xs) ≡ least n (map g xs)
least-same f g n xs each =
    omega (
      arith,
      least-grows f g n n xs (omega arith) (λ k d h. let e = each k d h in omega arith),
      least-grows g f n n xs (omega arith) (λ k d h. let e = each k d h in omega arith),
    )
