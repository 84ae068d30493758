-- The protocol: what it keeps true of a lane in each state of a run, its order, and its figures.
use Rattle.std.specs.Prelude.{◌≡◌, ℕ, ◌≤◌, List, [], ◌∷◌, ◌++◌, length}
use Rattle.mrp_master_data.specs.declared.numbers.ItemNo.{ItemNo}
use Rattle.mrp_master_data.specs.Table.{Table}
use Rattle.mrp_net.specs.Lanes.{lane_at, opening}
use Rattle.mrp_record.specs.declared.record.Record.{Record}
use Rattle.mrp_record.specs.Entries.{Closing, content, contents, cum}
use Rattle.mrp_record.specs.Text.{IsBeginning}
use Rattle.mrp_protocol.specs.Loads.{loads}
use Rattle.mrp_protocol.specs.State.{State}

-- what has been taken is a prefix of what has been sent, and the mailbox, the rest of it, is within the
-- capacity. Both are legal beginnings, so each record has the number of its place. Nothing is sent
-- after the closing record
pub record KeepsOrder (N : Table) (capacity : ℕ) (s : State) (l : ℕ) : Type 0 where
  pub mailbox : List Record
  pub parts : s.sent l ≡ s.taken l ++ mailbox
  pub room : length mailbox ≤ capacity
  pub sent : IsBeginning (loads N (lane_at N l)) (s.sent l)
  pub taken : IsBeginning (loads N (lane_at N l)) (s.taken l)
  pub last : (before after : List Record) (r : Record) → content r ≡ Closing → s.sent l ≡ before ++ r ∷ after
      → after ≡ []

-- the cumulative figure of an item in a list of a lane's records, closed years added
abbrev pub cum_on : Table → ℕ → ItemNo → List Record → ℕ
cum_on N l item records = cum (opening N (lane_at N l) item) item.0 (contents records)
