use Rattle.std.proofs.Common.{length, ◌-◌, ◌≤◌, take}
use Rattle.std.specs.Io.KnownBytes.{Appends}
use Rattle.mrp_csv_out.proofs.writing.send.Given as goal

-- the bytes sent so far are a prefix
abbrev pub invariant-writes : goal.invariant-writes
invariant-writes g l = record {
  within : l.sent ≤ length l.bytes;
  sent : Appends (g.W.Write.contents l.initial.out) (g.W.Write.contents l.out) (take l.sent l.bytes);
}

abbrev pub decreases-writes : goal.decreases-writes
decreases-writes g l = length l.bytes - l.sent
