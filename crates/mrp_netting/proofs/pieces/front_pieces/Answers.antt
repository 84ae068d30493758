use Rattle.std.proofs.Common.{◌≡◌, ℕ, ◌+◌, min, ◌∙◌, ap, sum, take, length, arith}
use Rattle.std.proofs.lemmas.List.{take_min}
use Rattle.mrp_netting.proofs.RowSums.{sum_take-next, sum_take-most}
use Rattle.mrp_netting.proofs.pieces.front_pieces.Goals as goal

pub overflow_add-total : goal.overflow_add-total
overflow_add-total c =
    let row = c.args.pieces.now in
    let t = c.loop-t.t in
    omega (arith, c.loop-t.invariant, sum_take-next row t, sum_take-most row (t + 1), c.requires)

pub loop-t-preserved : goal.loop-t-preserved
loop-t-preserved c = omega (arith, c.loop-t.invariant, sum_take-next c.args.pieces.now c.loop-t.t)

pub returns : goal.returns
returns c =
    let row = c.args.pieces.now in
    let end = ap (λ (n : ℕ). sum (take n row)) (let e : c.loop-t.t ≡ min c.args.count (length row) = omega (arith, c.min-end.ensures) in e) in
    c.loop-t.invariant ∙ end ∙ ap sum (take_min c.args.count row)
