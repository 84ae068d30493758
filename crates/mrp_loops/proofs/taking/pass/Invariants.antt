use Rattle.std.proofs.Common.{take, drop}
use Rattle.mrp_loops.proofs.Passing.{IsPassing}
use Rattle.mrp_loops.proofs.taking.pass.Given as goal

abbrev pub invariant-loop-edge : goal.invariant-loop-edge
invariant-loop-edge l =
    IsPassing l.network (take l.next l.initial.state.queue.items) l.fn.demander l.code (take l.edge-index l.edge-items)
    (drop l.edge-index l.edge-items) l.state.queue.items l.state.left.items l.state.codes.items
