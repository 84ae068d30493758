-- The loop check: what its faults say.
use Rattle.std.specs.Prelude.{map}
use Rattle.mrp_master_data.specs.Table.{Table}
use Rattle.mrp_loops.specs.declared.loops.LoopFault.{LoopFault}
use Rattle.mrp_loops.specs.declared.loops.LoopFault.TheVariants.{Loop, Memory}
use Rattle.mrp_loops.specs.Upstream.{IsLoopAnswered}

-- the pairs are the loop of the walk upstream; a refusal of memory says nothing of the network
abbrev pub IsLoopFault : Table → LoopFault → Type 0
IsLoopFault N (Loop pairs) = IsLoopAnswered N (map (λ x. x.0) pairs.items)
IsLoopFault N Memory = Unit {0}
