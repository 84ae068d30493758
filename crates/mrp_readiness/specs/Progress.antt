-- Readiness: how far the planning of a plant's pairs is. A pair is named by its place there.
use Rattle.std.specs.Prelude.{◌≡◌, ◌↔◌, ◌<◌, ◌+◌, ◌==◌, ℕ, Bool, true, false, not, List, length, count_by, slice_index}
use Rattle.std.specs.Prelude.{slice_index_or, Contains}
use Rattle.mrp_master_data.specs.declared.numbers.PairNo.{PairNo}
use Rattle.mrp_readiness.specs.Chosen.{Chosen}

-- by place the pair's number, how much it waits for, and whether it is planned; and the pairs that can be planned
pub record Progress : Type 0 where
  pub numbers : List PairNo
  pub waits : List ℕ
  pub planned : List Bool
  pub ready : List ℕ

-- what is kept, with the chosen pairs as the ready ones
abbrev pub progress_of : List ℕ → List Bool → Chosen → Progress
progress_of waits planned ready = record {
  numbers = ready.numbers;
  waits = waits;
  planned = planned;
  ready =
      ready.places;
}

-- whether a pair is planned; false where there is no such pair
abbrev pub is_planned : List Bool → ℕ → Bool
is_planned planned x = slice_index_or planned x false

-- how many pairs aren't planned
abbrev pub left_of : List Bool → ℕ
left_of planned = count_by (λ p. not p) planned

-- a pair that is free to be planned: it waits for nothing and isn't planned
pub record IsFree (waits : List ℕ) (planned : List Bool) (x : ℕ) : Type 0 where
  pub known : x < length waits
  pub waits_for_none : slice_index waits x ≡ 0
  pub unplanned : is_planned planned x ≡ false

-- the list has exactly the pairs that can be planned
pub record IsListed (waits : List ℕ) (planned : List Bool) (ready : List ℕ) : Type 0 where
  pub exact : (x : ℕ) → Contains ready x ↔ IsFree waits planned x

-- how often a pair stands in a list of components
abbrev pub times : ℕ → List ℕ → ℕ
times y components = count_by (λ c. c == y) components

-- each pair waits for one less, once for each time that it stands among the components
pub record IsLess (old new components : List ℕ) : Type 0 where
  pub size : length new ≡ length old
  pub fewer : (y : ℕ) → y < length old → slice_index new y + times y components ≡ slice_index old y

-- the components wait for one less each time, and what waits for nothing any more can be planned
pub record Lowers (old new : Progress) (components : List ℕ) : Type 0 where
  pub numbers : new.numbers ≡ old.numbers
  pub planned : new.planned ≡ old.planned
  pub fewer : IsLess old.waits new.waits components
  pub listed : IsListed old.waits old.planned old.ready → IsListed new.waits new.planned new.ready
  pub others : (y : ℕ) → Contains old.ready y → Contains new.ready y

-- what stays true: a planned pair waits for nothing, and those that are gone from the ready ones are planned
pub record IsProgressKept (progress : Progress) (gone : List ℕ) (left : ℕ) : Type 0 where
  pub numbered : length progress.numbers ≡ length progress.waits
  pub marked : length progress.planned ≡ length progress.waits
  pub listed : IsListed progress.waits progress.planned progress.ready
  pub rested : (x : ℕ) → is_planned progress.planned x ≡ true → slice_index progress.waits x ≡ 0
  pub settled : (x : ℕ) → Contains gone x → is_planned progress.planned x ≡ true
  pub left_is : left ≡ left_of progress.planned
