-- The run by threads: its settings, which are the workers of each plant, and the room of a mailbox.
use Rattle.std.specs.Prelude.{ℕ, ◌≤◌}
use Rattle.mrp_qty.specs.declared.limits.TheConstants.{MOST_WORKERS, MOST_ROOM}

-- how many workers each plant has, and how many records a mailbox has room for
pub record Limits : Type 0 where
  pub workers : ℕ
  pub capacity : ℕ

pub record AreLimits (workers capacity : ℕ) : Type 0 where
  pub some_workers : 1 ≤ workers
  pub few_workers : workers ≤ MOST_WORKERS
  pub some_room : 1 ≤ capacity
  pub little_room : capacity ≤ MOST_ROOM
