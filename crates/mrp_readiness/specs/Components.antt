-- Readiness: the components that wait for each pair of a plant, in one flat list.
use Rattle.std.specs.Prelude.{ℕ, ◌+◌, ◌-◌, ◌<◌, ◌≤◌, List, length, map, slice_index, slice_range}
use Rattle.std.specs.List.{range_with_len}

-- by place, the part of the list from where it begins to where the next one does
abbrev pub parts : List ℕ → List ℕ → List (List ℕ)
parts all starts = map (λ x. slice_range all (slice_index starts x) (slice_index starts (x + 1)))
    (range_with_len 0 (length starts - 1))

-- the parts stand in the list, one behind the other
pub record ArePartsOf (all starts : List ℕ) : Type 0 where
  pub rises : (x : ℕ) → x + 1 < length starts → slice_index starts x ≤ slice_index starts (x + 1)
  pub within : (x : ℕ) → x + 1 < length starts → slice_index starts (x + 1) ≤ length all
