use Rattle.std.proofs.Common.{◌≤◌, ◌<◌, ⊎_elim, arith}
use Rattle.std.proofs.lemmas.Bool.{cases_lt}
use Rattle.std.proofs.lemmas.List.{get_or_past}
use Rattle.std.proofs.lemmas.Grind.{common_steps}
use Rattle.mrp_netting.proofs.pieces.add_pieces.Goals as goal

pub loop-t-preserved : goal.loop-t-preserved
loop-t-preserved c = grind (arith, common_steps)

pub returns-clause-each : goal.returns-clause-each
returns-clause-each c =
    let inv = c.loop-t.invariant in
    λ k. ⊎_elim
    (λ (done : k < c.loop-t.t). inv.done k done)
    (λ (past : c.loop-t.t ≤ k). omega (arith, inv.rest k past, get_or_past c.args.pieces.now k 0 (omega arith)))
    (cases_lt k c.loop-t.t)
