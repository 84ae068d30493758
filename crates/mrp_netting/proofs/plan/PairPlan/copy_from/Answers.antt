use Rattle.std.proofs.Common.{ℕ, List, length, sym, ◌∙◌, ap, subst, arith}
use Rattle.mrp_netting.specs.PlanRows.{PlanRows}
use Rattle.mrp_netting.specs.Plan.{AreLate}
use Rattle.mrp_netting.proofs.Plans.{copied, refilled}
use Rattle.mrp_netting.proofs.plan.PairPlan.copy_from.Goals as goal

pub invariant_of-self : goal.invariant_of-self
invariant_of-self c =
    let own = c.self.invariant in
    let inv = c.other.invariant in
    let g = ap length c.copy_from.ensures in
    let i = ap length c.copy_from-2.ensures in
    let o = ap length c.copy_from-3.ensures in
    let r = ap length c.copy_from-4.ensures in
    let a = ap length c.copy_from-5.ensures in
    let was = ap (λ (rows : PlanRows). length rows.gross) c.self.view_is in
    let periods = ap (λ (rows : PlanRows). length rows.gross) c.other.view_is in
    let ok = c.extend_from_slice.ensures.succeeds (omega (
      arith,
      own.4,
      inv.6,
      was,
      periods,
      c.requires,
      c.clear.ensures.len,
      c.clear.ensures.capacity,
      ap
          length c.as_slice.ensures.value,
    )) in
    let late = refilled _ c.other.inside.late.items _ _ c.extend_from_slice.new.self.items ok c.as_slice.ensures.value c.clear.ensures.items
    c.extend_from_slice.ensures.items in
    let lates : AreLate c.other.inside.lead c.copy_from-3.new.self c.extend_from_slice.new.self.items =
    subst (AreLate c.other.inside.lead c.copy_from-3.new.self) (sym late)
    (subst (λ (order : List ℕ). AreLate c.other.inside.lead order c.other.inside.late.items) (sym c.copy_from-3.ensures) inv.5) in (
      omega (arith, g, i, inv.0),
      omega (arith, g, o, inv.1),
      omega (arith, g, r, inv.2),
      omega (arith, g, a, inv.3),
      omega (arith, g, own.4, was, periods, c.requires, c.clear.ensures.capacity, c.extend_from_slice.ensures.capacity),
      lates,
      omega (arith, g, ap length late, inv.6),
    )

pub returns : goal.returns
returns c =
    let own = c.self.invariant in
    let inv = c.other.invariant in
    let was = ap (λ (rows : PlanRows). length rows.gross) c.self.view_is in
    let periods = ap (λ (rows : PlanRows). length rows.gross) c.other.view_is in
    let ok = c.extend_from_slice.ensures.succeeds (omega (
      arith,
      own.4,
      inv.6,
      was,
      periods,
      c.requires,
      c.clear.ensures.len,
      c.clear.ensures.capacity,
      ap
          length c.as_slice.ensures.value,
    )) in
    let late = refilled _ c.other.inside.late.items _ _ c.extend_from_slice.new.self.items ok c.as_slice.ensures.value c.clear.ensures.items
    c.extend_from_slice.ensures.items in
    copied _ _ _ _ _ _ _ _ _ _ _ _ _ c.copy_from.ensures c.copy_from-2.ensures c.copy_from-3.ensures c.copy_from-4.ensures c.copy_from-5.ensures late
    ∙ c.other.view_is
