use Rattle.std.proofs.Common.{slice_index}
use Rattle.mrp_net.specs.Usages.{whole, pieces_for, in_force}
use Rattle.mrp_net.proofs.Using.{IsAddedBefore}
use Rattle.mrp_net.proofs.usages.add_by_period.Given as goal

-- the periods before this one have what is asked in them, and the others are as they were
abbrev pub invariant-loop-t : goal.invariant-loop-t
invariant-loop-t l =
    IsAddedBefore (λ k. pieces_for (in_force k (whole l.per) l.rows) (slice_index l.release k)) l.t l.initial.gross l.gross
