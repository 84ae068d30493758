use Rattle.std.proofs.Common.{◌≡◌, ℕ, ◌<◌, length, get_or}
use Rattle.mrp_world.specs.Mailbox.{Held}
use Rattle.mrp_world.proofs.Makes.{IsEmptyBox}
use Rattle.mrp_world.proofs.making.new_boxes.Given as goal

-- each mailbox so far is empty, with its lane's room
abbrev pub invariant-loop-l : goal.invariant-loop-l
invariant-loop-l l = record {
  size : length l.boxes.items ≡ l.l;
  each : (k : ℕ) (d : Held) → k < length l.boxes.items → IsEmptyBox l.network l.capacity k (get_or l.boxes.items k d);
}
