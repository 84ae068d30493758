use Rattle.std.proofs.Common.{ℕ, List, length, get_or, ap, ◌∙◌, arith}
use Rattle.std.proofs.lemmas.Grind.{common_steps}
use Rattle.std.proofs.lemmas.List.{ext_get_or, take_all}
use Rattle.mrp_qty.proofs.periods.copy_pieces.Goals as goal

pub loop-t-preserved : goal.loop-t-preserved
loop-t-preserved c = grind (arith, common_steps)

pub returns : goal.returns
returns c =
    let whole = take_all (length c.args.amounts.now) c.args.pieces.now (omega arith) in
    ext_get_or 0 c.loop-t.amounts c.args.pieces.now (omega arith) (λ k h. c.loop-t.invariant k (omega arith) ∙ ap (λ (row : List ℕ). get_or row k 0) whole)
