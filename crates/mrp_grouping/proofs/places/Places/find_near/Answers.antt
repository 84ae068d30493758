use Rattle.std.proofs.Common.{sym}
use Rattle.mrp_grouping.proofs.places.Places.find_near.Goals as goal

pub returns-then-is_at-2-clause-place : goal.returns-then-is_at-2-clause-place
returns-then-is_at-2-clause-place g c = sym (c.is_at-else-is_at.ensures c.if-is_at-2.true)
