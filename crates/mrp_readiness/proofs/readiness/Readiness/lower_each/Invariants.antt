use Rattle.std.proofs.Common.{take}
use Rattle.mrp_readiness.specs.Progress.{Lowers}
use Rattle.mrp_readiness.proofs.readiness.Readiness.lower_each.Given as goal

abbrev pub invariant-loop-component : goal.invariant-loop-component
invariant-loop-component l = Lowers l.initial.self l.self (take l.component-index l.components)
