-- The world: what waits in a lane's mailbox.
use Rattle.std.specs.Prelude.{ℕ, List}
use Rattle.mrp_record.specs.declared.record.Record.{Record}

-- what a mailbox holds, first in first out, and how many records it has room for
pub record Held : Type 0 where
  pub records : List Record
  pub room : ℕ
