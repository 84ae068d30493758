use Rattle.std.specs.List.{flat_map, range_with_len}
use Rattle.mrp_report.specs.Gathering.{Gathers}
use Rattle.mrp_report.specs.Pegs.{period_pegs_text}
use Rattle.mrp_report.proofs.pegging.put_pair_pegs.Given as goal

-- the rows of the periods before t are added
abbrev pub invariant-periods : goal.invariant-periods
invariant-periods g l =
    Gathers (g.W.Write.contents l.initial.out) (g.W.Write.contents l.out) l.initial.room l.room
    (flat_map (period_pegs_text l.line.network.now l.line.plan.now l.line.x.0) (range_with_len 0 l.t))
