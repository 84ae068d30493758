-- The run by threads: laws of what it comes to.
use Rattle.std.specs.Prelude.{◌≡◌, ℕ, List, length}
use Rattle.mrp_master_data.specs.Table.{Table}
use Rattle.mrp_net.specs.Lanes.{lane_at}
use Rattle.mrp_record.specs.declared.record.Record.{Record}
use Rattle.mrp_record.specs.Text.{IsWhole}
use Rattle.mrp_record.specs.Lengths.{length_of_text}
use Rattle.mrp_protocol.specs.Loads.{loads}
use Rattle.mrp_lane.specs.Reconciled.{Carried, figures_on}
use Rattle.mrp_run.specs.Outcome.{IsSettled}

-- as many records were sent and taken as the lane's texts have, and of each item shipped and received are the
-- cumulative figure of a text of the lane
pub record IsCountedOn (N : Table) (l : ℕ) (r : Carried) : Type 0 where
  pub sent : length r.sent ≡ length_of_text (loads N (lane_at N l))
  pub taken : length r.taken ≡ length_of_text (loads N (lane_at N l))
  pub text : List Record
  pub whole : IsWhole (loads N (lane_at N l)) text
  pub figures : r.figures ≡ figures_on N l text text

abbrev pub SettledLanesAreCounted : Type 0
SettledLanesAreCounted = (N : Table) (l : ℕ) (r : Carried) → IsSettled N l r → IsCountedOn N l r
