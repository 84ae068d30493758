-- Readiness: its laws, and those of what pairs wait for.
use Rattle.std.specs.Prelude.{◌≡◌, ◌↔◌, ◌≤◌, ◌<◌, ℕ, Bool, true, false, List, length, All, Contains, slice_get}
use Rattle.std.specs.Prelude.{slice_index, slice_set, Some}
use Rattle.mrp_readiness.specs.declared.join.Join.{Join}
use Rattle.mrp_readiness.specs.Progress.{is_planned, IsListed, times}
use Rattle.mrp_readiness.specs.Counts.{Awaited, AreCounts, components_of, open_blocks, IsOneEnded}

-- a pair that isn't planned, has no demander at the plant that isn't planned, and awaits no block that isn't ended
pub record NothingIsOpen (size : ℕ) (joins : List Join) (planned : List Bool) (blocks : List Awaited)
    (y : ℕ) : Type 0 where
  pub known : y < size
  pub is_unplanned : is_planned planned y ≡ false
  pub demanders_are_planned : All (λ j. j.component ≡ y → is_planned planned j.demander ≡ true) joins
  pub blocks_are_ended : All (λ b. b.pair ≡ y → b.ended ≡ true) blocks

-- where waits are the counts, those are exactly the ready pairs
abbrev pub ReadyWhereNothingIsOpen : Type 0
ReadyWhereNothingIsOpen =
    (waits ready : List ℕ) (joins : List Join) (planned : List Bool) (blocks : List Awaited)
    → AreCounts waits joins planned (open_blocks blocks) → IsListed waits planned ready
    → (y : ℕ) → Contains ready y ↔ NothingIsOpen (length waits) joins planned blocks y

-- the components of a pair that isn't planned wait for it, as often as they stand in its joins
abbrev pub ComponentsWait : Type 0
ComponentsWait =
    (waits : List ℕ) (joins : List Join) (planned : List Bool) (blocks : ℕ → ℕ) → AreCounts waits joins planned blocks
    → (x : ℕ) → is_planned planned x ≡ false → (y : ℕ) → y < length waits
    → times y (components_of joins x) ≤ slice_index waits y

-- when an open block is ended, one block fewer of its pair is open, and as many of each other
abbrev pub EndingOpensFewer : Type 0
EndingOpensFewer =
    (blocks : List Awaited) (k y : ℕ) → slice_get blocks k ≡ Some (record { pair = y; ended = false })
    → IsOneEnded y (open_blocks blocks) (open_blocks (slice_set blocks k (record { pair = y; ended = true })))

-- a pair whose block is open waits for it
abbrev pub OpenBlocksAreAwaited : Type 0
OpenBlocksAreAwaited =
    (waits : List ℕ) (joins : List Join) (planned : List Bool) (blocks : List Awaited)
    → AreCounts waits joins planned (open_blocks blocks)
    → (k y : ℕ) → slice_get blocks k ≡ Some (record { pair = y; ended = false }) → y < length waits
    → 0 < slice_index waits y
