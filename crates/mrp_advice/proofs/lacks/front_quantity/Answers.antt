use Rattle.std.proofs.Common.{◌≡◌, ℕ, ◌+◌, min, ◌∙◌, ap, sum, take, length, arith}
use Rattle.std.proofs.lemmas.List.{take_min}
use Rattle.mrp_netting.proofs.RowSums.{sum_take-next, sum_take-most}
use Rattle.mrp_advice.proofs.lacks.front_quantity.Goals as goal

pub overflow_add-total : goal.overflow_add-total
overflow_add-total c =
    let row = c.args.row.now in
    let t = c.periods.t in
    omega (arith, c.periods.invariant, sum_take-next row t, sum_take-most row (t + 1), c.requires)

pub periods-preserved : goal.periods-preserved
periods-preserved c = omega (arith, c.periods.invariant, sum_take-next c.args.row.now c.periods.t)

pub returns : goal.returns
returns c =
    let row = c.args.row.now in
    let end = ap (λ (n : ℕ). sum (take n row)) (let e : c.periods.t ≡ min c.args.count (length row) = omega (arith, c.min-end.ensures) in e) in
    c.periods.invariant ∙ end ∙ ap sum (take_min c.args.count row)
