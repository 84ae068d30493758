-- The network: its lists of edges and lanes are joined lists, whose pieces have rising keys.
use Rattle.std.proofs.Common.{◌≡◌, ℕ, suc, zero, ◌+◌, ◌<◌, ◌≤◌, List, [], ◌∷◌, ◌++◌, map, arith}
use Rattle.std.specs.List.{All, AllPairs, flat_map, range_with_len}
use Rattle.std.proofs.lemmas.List.Elements.{All-nil, All-head, All-tail, All-append, All-map}
use Rattle.std.proofs.lemmas.List.Kept.{AllPairs-cons}

AllPairs-none : {X : Type 0} (R : X → X → Type 0) → AllPairs R []
AllPairs-none R i j d low lt = absurd (omega arith)

pub AllPairs-append : {X : Type 0} (R : X → X → Type 0) (xs ys : List X) → AllPairs R xs → AllPairs R ys → All (λ x. All (R x) ys) xs → AllPairs R (xs ++ ys)
AllPairs-append R [] ys h g across = g
AllPairs-append R (x ∷ xs) ys h g across =
    AllPairs-cons R x (xs ++ ys)
    (All-append (R x) xs ys (λ k d lt. h 0 (suc k) d (omega arith) (omega arith)) (All-head (λ z. All (R z) ys) x xs across))
    (AllPairs-append R xs ys (λ i j d low lt. h (suc i) (suc j) d (omega arith) (omega arith)) g (All-tail (λ z. All (R z) ys) x xs across))

pub AllPairs-map : {X Y : Type 0} (R : Y → Y → Type 0) (f : X → Y) (xs : List X) → AllPairs (λ x y. R (f x) (f y)) xs → AllPairs R (map f xs)
AllPairs-map R f [] h = AllPairs-none R
AllPairs-map R f (x ∷ xs) h =
    AllPairs-cons R (f x) (map f xs)
    (All-map (R (f x)) f xs (λ k d lt. h 0 (suc k) d (omega arith) (omega arith)))
    (AllPairs-map R f xs (λ i j d low lt. h (suc i) (suc j) d (omega arith) (omega arith)))

-- what holds of the elements of each piece
pub All-pieces : {X : Type 0} (P : X → Type 0) (f : ℕ → List X) (a n : ℕ) → ((k : ℕ) → a ≤ k → k < a + n → All P (f k))
    → All P (flat_map f (range_with_len a n))
All-pieces P f a zero h = All-nil P
All-pieces P f a (suc n) h =
    All-append P (f a) (flat_map f (range_with_len (a + 1) n)) (h a (omega arith) (omega arith))
    (All-pieces P f (a + 1) n (λ k low high. h k (omega arith) (omega arith)))

module _ {X : Type 0} (R : X → X → Type 0) (key : X → ℕ) (f : ℕ → List X) where
  -- elements of different keys are in R, and so are those of each piece
  pub AllPairs-pieces : (a n : ℕ) → ((x y : X) → key x < key y → R x y) → ((k : ℕ) → AllPairs R (f k)) → ((k : ℕ) → All (λ x. key x ≡ k) (f k))
      → AllPairs R (flat_map f (range_with_len a n))
  AllPairs-pieces a zero rising each keys = AllPairs-none R
  AllPairs-pieces a (suc n) rising each keys =
      let rest = flat_map f (range_with_len (a + 1) n) in
      let above : All (λ x. a < key x) rest = All-pieces (λ x. a < key x) f (a + 1) n (λ k low high i d lt. omega (arith, keys k i d lt)) in
      AllPairs-append R (f a) rest (each a) (AllPairs-pieces (a + 1) n rising each keys)
      (λ i d lt j e within. rising _ _ (omega (arith, keys a i d lt, above j e within)))
