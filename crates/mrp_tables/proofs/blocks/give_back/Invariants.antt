use Rattle.std.proofs.Common.{◌≡◌, ◌≤◌, drop, length}
use Rattle.std.specs.Io.KnownBytes.{prepend_known}
use Rattle.mrp_tables.specs.Pieces.{texts_of}
use Rattle.mrp_tables.specs.Sources.{left_of}
use Rattle.mrp_tables.proofs.blocks.give_back.Given as goal

-- the pieces from this place on were given back
abbrev pub invariant-places : goal.invariant-places
invariant-places g l = record {
  within : l.place ≤ length l.pieces;
  from : l.taken ≤ l.place;
  given : left_of g.R.Read.remaining l.source ≡ prepend_known (texts_of (drop l.place l.pieces)) (left_of g.R.Read.remaining l.fn.source);
}

abbrev pub decreases-places : goal.decreases-places
decreases-places g l = l.place
