-- The view of one plant: rows of its pairs, put one after the other.
use Rattle.std.proofs.Common.{◌≡◌, ℕ, zero, suc, ◌+◌, ◌-◌, ◌<◌, ◌≤◌, List, ◌∷◌, ◌++◌, get_or, length, map, replicate, take, refl, ap, ◌∙◌, arith}
use Rattle.std.specs.List.{flat_map, range_with_len}
use Rattle.std.proofs.lemmas.Grind.{common_steps}
use Rattle.std.proofs.lemmas.List.{take_all}
use Rattle.mrp_plant_view.specs.declared.view.PlantPair.{PlantPair}

-- with the row of the next pair they are those of one pair more
pub rows_more : (f : PlantPair → List ℕ) (ps : List PlantPair) (i : ℕ) (p : PlantPair) (old new row : List ℕ) → old ≡ flat_map f (take i ps) → i < length ps
    → p ≡ get_or ps i p
    → row ≡ f p → new ≡ old ++ row → new ≡ flat_map f (take (i + 1) ps)
rows_more f ps i p old new row so_far lt here is next = grind (arith, common_steps)

-- once no pair is left they are those of all
pub rows_whole : (f : PlantPair → List ℕ) (ps : List PlantPair) (i : ℕ) (all : List ℕ) → all ≡ flat_map f (take i ps) → length ps ≤ i → all ≡ flat_map f ps
rows_whole f ps i all so_far end = grind (arith, common_steps)

-- ---- a row without pieces

no_pieces : (a n : ℕ) → replicate {A = ℕ} n 0 ≡ map (λ (t : ℕ). 0) (range_with_len a n)
no_pieces a zero = refl
no_pieces a (suc n) = ap (λ (z : List ℕ). 0 ∷ z) (no_pieces (a + 1) n)

-- a list that is made longer by so many zeroes gets one
pub zeroes_added : (old new : List ℕ) (periods size count : ℕ) → size ≡ length old → size ≡ count
    → new ≡ take (size + periods) old ++ replicate {A = ℕ} (size + periods - count) 0
    → new ≡ old ++ map (λ (t : ℕ). 0) (range_with_len 0 periods)
zeroes_added old new periods size count is same more =
    let some : size + periods - count ≡ periods = omega (arith, same) in
    more
    ∙ ap (λ (z : List ℕ). z ++ replicate {A = ℕ} (size + periods - count) 0) (take_all (size + periods) old (omega (arith, is)))
    ∙ ap (λ (z : ℕ). old ++ replicate {A = ℕ} z 0) some
    ∙ ap (λ (z : List ℕ). old ++ z) (no_pieces 0 periods)
