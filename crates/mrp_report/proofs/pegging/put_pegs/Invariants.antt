use Rattle.std.specs.List.{flat_map, range_with_len}
use Rattle.mrp_report.specs.Gathering.{Gathers}
use Rattle.mrp_report.specs.Pegs.{pair_pegs_text}
use Rattle.mrp_report.proofs.pegging.put_pegs.Given as goal

-- the rows of the pairs before x are added
abbrev pub invariant-pairs : goal.invariant-pairs
invariant-pairs g l =
    Gathers (g.W.Write.contents l.initial.out) (g.W.Write.contents l.out) l.initial.room l.room
    (flat_map (pair_pegs_text l.network l.plan) (range_with_len 0 l.x))
