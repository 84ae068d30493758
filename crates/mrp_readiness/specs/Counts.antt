-- Readiness: what a pair waits for before it is ready, which is joins whose demander isn't planned, and awaited
-- blocks of records that aren't ended.
use Rattle.std.specs.Prelude.{◌≡◌, ◌<◌, ◌+◌, ◌==◌, ◌&&◌, ℕ, Bool, not, List, length, map, filter, count_by, slice_index}
use Rattle.mrp_readiness.specs.declared.join.Join.{Join}
use Rattle.mrp_readiness.specs.Progress.{is_planned}

-- a block of records that the pair at a place awaits, and whether its end is booked
pub record Awaited : Type 0 where
  pub pair : ℕ
  pub ended : Bool

-- the components that go into a pair, as often as they stand in its joins
abbrev pub components_of : List Join → ℕ → List ℕ
components_of joins x = map (λ j. j.component) (filter (λ j. j.demander == x) joins)

-- how many joins a pair has
abbrev pub join_count : List Join → ℕ → ℕ
join_count joins y = count_by (λ j. j.component == y) joins

-- how many joins of a pair have a demander that isn't planned
abbrev pub unplanned : List Join → List Bool → ℕ → ℕ
unplanned joins planned y = count_by (λ j. (j.component == y) && not (is_planned planned j.demander)) joins

-- how many blocks that a pair awaits aren't ended
abbrev pub open_blocks : List Awaited → ℕ → ℕ
open_blocks blocks y = count_by (λ b. (b.pair == y) && not b.ended) blocks

-- each pair waits for its joins with unplanned demanders and for its open blocks, `blocks` of them
pub record AreCounts (waits : List ℕ) (joins : List Join) (planned : List Bool) (blocks : ℕ → ℕ) : Type 0 where
  pub counted : (y : ℕ) → y < length waits → slice_index waits y ≡ unplanned joins planned y + blocks y

-- one block of a pair fewer is open
pub record IsOneEnded (y : ℕ) (before after : ℕ → ℕ) : Type 0 where
  pub ended : after y + 1 ≡ before y
  pub others : (z : ℕ) → (z ≡ y → ⊥) → after z ≡ before z

-- before anything is planned: each pair waits for all its joins, and for its blocks
pub record AreFirstCounts (waits : List ℕ) (joins : List Join) (blocks : ℕ → ℕ) : Type 0 where
  pub counted : (y : ℕ) → y < length waits → slice_index waits y ≡ join_count joins y + blocks y

-- each number is greater by the rows that have its place as their key
pub record AreCounted {X : Type 0} (key : X → ℕ) (old new : List ℕ) (rows : List X) : Type 0 where
  pub size : length new ≡ length old
  pub counted : (y : ℕ) → y < length old → slice_index new y ≡ slice_index old y + count_by (λ r. key r == y) rows
