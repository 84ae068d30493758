-- For how many rows of a kind a valid table has at most: rows whose numbers are below n, no two of them equal, are at
-- most n.
use Rattle.std.proofs.Common.{◌≡◌, ◌≤◌, ◌<◌, ℕ, eqb, ◌||◌, Bool, true, false, List, [], ◌∷◌, map, length, refl, arith}
use Rattle.std.specs.List.{All, AllByRecursion, IsDistinct, list_any}
use Rattle.std.proofs.lemmas.Bool.{eqb-true}
use Rattle.std.proofs.lemmas.List.{length-map}
use Rattle.std.proofs.lemmas.List.Elements.{All-head, All-tail}
use Rattle.std.proofs.lemmas.Map.Keys.{IsDistinct-cons, IsDistinct-head, IsDistinct-tail}
use Rattle.std.proofs.lemmas.Map.Steps.{length-le_from_distinct_below}
use Rattle.mrp_master_data.proofs.SpelledLists.{IsDistinct-nil}

module _ {X : Type 0} (number : X → ℕ) where
  abbrev pub have_same : X → X → Bool
  have_same x y = eqb (number x) (number y)

  abbrev pub HasBelow : ℕ → X → Type 0
  HasBelow n x = number x < n

  apart : (x : X) (xs : List X) → AllByRecursion (λ y. have_same x y ≡ false) xs → AllByRecursion (λ m. eqb (number x) m ≡ false) (map number xs)
  apart x [] h = tt
  apart x (y ∷ ys) h = (h.0, apart x ys h.1)

  distinct : (xs : List X) → IsDistinct have_same xs → IsDistinct eqb (map number xs)
  distinct [] once = IsDistinct-nil eqb
  distinct (x ∷ xs) once =
      IsDistinct-cons eqb (number x) (map number xs) (apart x xs (IsDistinct-head have_same x xs once)) (distinct xs (IsDistinct-tail have_same x xs once))

  within : (n : ℕ) (xs : List X) (q : ℕ) → All (HasBelow n) xs → list_any (eqb q) (map number xs) ≡ true → q < n
  within n [] q all any = absurd (cc)
  within n (x ∷ xs) q all any = by (eqb q (number x)) refl any (within n xs q (All-tail (HasBelow n) x xs all))
    where
      by : (b : Bool) → eqb q (number x) ≡ b → (b || list_any (eqb q) (map number xs)) ≡ true → (list_any (eqb q) (map number xs) ≡ true → q < n) → q < n
      by true e any later = let here = All-head (HasBelow n) x xs all in omega (arith, here, eqb-true q (number x) e)
      by false e any later = later any

  pub few : (xs : List X) (n : ℕ) → IsDistinct have_same xs → All (HasBelow n) xs → length xs ≤ n
  few xs n once all =
      let le = length-le_from_distinct_below (map number xs) n (distinct xs once) (λ q any. within n xs q all any) in
      omega (arith, le, length-map xs number)
