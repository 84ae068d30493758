-- Readiness: some of the pairs of a plant, as those that are ready, and how slots keep them.
use Rattle.std.specs.Prelude.{◌≡◌, ◌≢◌, ◌≤◌, ◌<◌, ℕ, List, length, map, take, slice_index, slice_range, slice_index_or}
use Rattle.std.specs.Prelude.{slice_set, AllPairs}
use Rattle.mrp_master_data.specs.declared.numbers.PairNo.{PairNo}

-- the pair's number at each place of the plant, the places that were chosen and taken out, and those that are chosen
pub record Chosen : Type 0 where
  pub numbers : List PairNo
  pub gone : List ℕ
  pub places : List ℕ

-- the pair's number at a place
abbrev pub number_at : List PairNo → ℕ → PairNo
number_at numbers x = slice_index_or numbers x (record { 0 = 0 })

-- no place stands in the list twice
abbrev pub AreApart : List ℕ → Type 0
AreApart places = AllPairs (λ x y. x ≢ y) places

-- the places in the slots before `begin` are gone, and those from there to before `end` are chosen;
-- `slots` says where each place stands, and `numbers` goes by slots
abbrev pub chosen : List PairNo → List ℕ → List ℕ → ℕ → ℕ → Chosen
chosen numbers places slots begin end =
    record { numbers = map (number_at numbers) slots; gone = take begin places; places = slice_range places begin end }

-- the slots once the places in slots i and j change places
abbrev pub slots_after : List ℕ → List ℕ → ℕ → ℕ → List ℕ
slots_after places slots i j = slice_set (slice_set slots (slice_index places i) j) (slice_index places j) i

-- each place stands in one slot, and each slot has one place
pub record AreSlotted (numbers : List PairNo) (places slots : List ℕ) (begin end : ℕ) : Type 0 where
  pub numbered : length numbers ≡ length slots
  pub filled : length places ≡ length slots
  pub rises : begin ≤ end
  pub few : end ≤ length slots
  pub slot_within : (x : ℕ) → x < length slots → slice_index slots x < length slots
  pub place_within : (i : ℕ) → i < length slots → slice_index places i < length slots
  pub place_in : (x : ℕ) → x < length slots → slice_index places (slice_index slots x) ≡ x
  pub slot_of : (i : ℕ) → i < length slots → slice_index slots (slice_index places i) ≡ i
