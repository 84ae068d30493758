use Rattle.std.proofs.Common.{◌≡◌, ℕ, ◌+◌, ◌*◌, ◌-◌, ◌^◌, ◌<◌, length, min, get_or, sym, ap, ◌∙◌, subst, arith}
use Rattle.mrp_grouping.proofs.Adding.{AddsAmounts-more}
use Rattle.mrp_grouping.proofs.sums.add_amounts.Given.{Over}
use Rattle.mrp_grouping.proofs.sums.add_amounts.Goals as goal
use Rattle.mrp_grouping.proofs.sums.add_amounts.Goals.{After-key, After-key-in-loop-row}

-- the place of a row's amount is one of the amounts
lies : (g : Over) (c : After-key g) → c.key.result * c.args.width + g.L.KeyOf.key_of c.args.second.now c.row-item.result < length c.args.amounts.now
lies g c =
    let key = g.K.KeyOf.key_of c.args.by.now in
    let second = g.L.KeyOf.key_of c.args.second.now in
    let r = c.row-item.result in
    let there = subst (λ z. key z * c.args.width + second z < length c.args.amounts.now) (sym c.row-item.is)
    (c.requires.places c.loop-row.row-index r c.loop-row-test.true) in
    subst (λ (z : ℕ). z * c.args.width + second r < length c.args.amounts.now) (sym c.key.ensures) there

lies_at : (g : Over) (c : After-key-in-loop-row g) → c.key.result * c.args.width + c.key-in-loop-row.result < length c.args.amounts.now
lies_at g c =
    subst (λ (z : ℕ). c.key.result * c.args.width + z < length c.args.amounts.now) (sym c.key-in-loop-row.ensures)
    (lies g (goal.at.overflow_add-at g c).After-key)

pub overflow_mul-at : goal.overflow_mul-at
overflow_mul-at g c = omega (arith, lies g c)

pub overflow_add-at : goal.overflow_add-at
overflow_add-at g c = omega (arith, lies_at g c)

pub bounds-amounts-at : goal.bounds-amounts-at
bounds-amounts-at g c = omega (arith, lies_at g (goal.at.bounds-amounts-at g c).After-key-in-loop-row, c.loop-row.auto.amounts)

pub loop-row-preserved : goal.loop-row-preserved
loop-row-preserved g c =
    let key = g.K.KeyOf.key_of c.args.by.now in
    let second = g.L.KeyOf.key_of c.args.second.now in
    let amount = g.A.AmountOf.amount_of c.args.of.now in
    let r = c.row-item.result in
    let i : ℕ = c.loop-row.row-index in
    let at : ℕ = c.key.result * c.args.width + c.key-in-loop-row.result in
    let is : at ≡ key r * c.args.width + second r =
    ap (λ (z : ℕ). z * c.args.width + c.key-in-loop-row.result) c.key.ensures ∙ ap (λ (z : ℕ). key r * c.args.width + z) c.key-in-loop-row.ensures in
    let small : second r < c.args.width = subst (λ z. second z < c.args.width) (sym c.row-item.is) (c.requires.keys i r c.loop-row-test.true) in
    let new : c.saturating_add.result ≡ min (get_or c.loop-row.amounts at 0 + amount r) (2 ^ 64 - 1) =
    c.saturating_add.ensures ∙ ap (λ (z : ℕ). min (get_or c.loop-row.amounts at 0 + z) (2 ^ 64 - 1)) c.amount.ensures in
    AddsAmounts-more key second amount c.args.width c.args.rows.now c.args.amounts.now c.loop-row.amounts i r at c.saturating_add.result
    c.loop-row-test.true c.row-item.is c.loop-row.invariant is small c.loop-row.auto.amounts new

pub offset_bounds-amounts-at : goal.offset_bounds-amounts-at
offset_bounds-amounts-at g c = record { fits = omega (arith, lies_at g c, c.loop-row.auto.amounts) }

pub bounds-amounts-at-in-loop-row : goal.bounds-amounts-at-in-loop-row
bounds-amounts-at-in-loop-row g c = omega (arith, lies_at g (goal.at.bounds-amounts-at-in-loop-row g c).After-key-in-loop-row, c.loop-row.auto.amounts)

pub offset_bounds-amounts-at-in-loop-row : goal.offset_bounds-amounts-at-in-loop-row
offset_bounds-amounts-at-in-loop-row g c = record {
  fits = omega
      (arith, lies_at g (goal.at.offset_bounds-amounts-at-in-loop-row g c).After-key-in-loop-row, c.loop-row.auto.amounts);
}
