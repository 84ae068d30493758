use Rattle.std.proofs.Common.{◌-◌, ◌≤◌, length, take}
use Rattle.std.specs.Io.KnownBytes.{Consumes}
use Rattle.mrp_tables.specs.Sources.{left_of}
use Rattle.mrp_tables.proofs.source.Source.fill.Given as goal

-- the bytes so far were taken
abbrev pub invariant-bytes : goal.invariant-bytes
invariant-bytes g l = record {
  within : l.used ≤ length l.room;
  taken : Consumes (left_of g.R.Read.remaining l.fn.self) (left_of g.R.Read.remaining l.self) (take l.used l.room);
}

abbrev pub decreases-bytes : goal.decreases-bytes
decreases-bytes g l = length l.initial.room - l.used
