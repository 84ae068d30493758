use Rattle.std.proofs.Common.{◌≡◌, ℕ, ◌-◌, List, Some, length, take, slice_get, slice_index, sym, ap, ◌∙◌, arith, eq-eqb, eqb-true}
use Rattle.std.proofs.lemmas.Bool.{false≢true}
use Rattle.std.proofs.lemmas.List.{get_or_read, take_all, length-take-le}
use Rattle.std.proofs.lemmas.Option.{slice_get_within}
use Rattle.mrp_netting.specs.declared.params.Late.{Late}
use Rattle.mrp_netting.specs.PlanRows.{late_orders}
use Rattle.mrp_netting.specs.Plan.{late_orders_in}
use Rattle.mrp_netting.proofs.Compared.{late_next, late_found}
use Rattle.mrp_netting.proofs.Lates.{late_same, late_end}
use Rattle.mrp_netting.proofs.matching.late_follow.Goals as goal
use Rattle.mrp_netting.proofs.matching.late_follow.Goals.{then-get-gt0+else-not-has_late, else-get-gt0}

pub returns-then-not-has_late : goal.returns-then-not-has_late
returns-then-not-has_late c =
    let lead = c.args.lead in
    let order = c.args.plan.now.order in
    let late = c.args.plan.now.late in
    let t = c.loop-t.t in
    let row : c.as_slice-order.result.now ≡ order = c.as_slice-order.ensures.value ∙ c.order.ensures in
    let size = ap (λ (r : List ℕ). length r) row in
    let at = ap (λ (r : List ℕ). slice_index r t) row in
    let here = get_or_read c.as_slice-order.result.now t _ (omega (arith, c.min-end.ensures)) c.index-order-t.is 0 in (
      λ no_. absurd (false≢true no_),
      λ is.
          let next = late_next lead order late c.loop-t.found t (length order) is (omega (arith, size, c.min-end.ensures)) (omega (arith, c.min-end.ensures))
          (omega (arith, here, at, c.get.ensures.value))
          c.loop-t.invariant.found c.loop-t.invariant.there in
          let show : ℕ → Late = λ q. record { period = t; quantity = q; by = lead - t } in
          let quantity : slice_index order t ≡ c.index-order-t.result = omega (arith, here, at) in
          absurd (false≢true (sym c.if-not-has_late.true ∙ c.has_late.ensures.1 (next ∙ ap (λ (q : ℕ). Some (show q)) quantity))),
    )

pub overflow_add-found : goal.overflow_add-found
overflow_add-found c = omega (arith, c.loop-t.invariant.few, c.min-end.ensures)

pub loop-t-preserved : goal.loop-t-preserved
loop-t-preserved c =
    let lead = c.args.lead in
    let order = c.args.plan.now.order in
    let late = c.args.plan.now.late in
    let t = c.loop-t.t in
    let row : c.as_slice-order.result.now ≡ order = c.as_slice-order.ensures.value ∙ c.order.ensures in
    let at = ap (λ (r : List ℕ). slice_index r t) row in
    let here = get_or_read c.as_slice-order.result.now t _ (omega (arith, c.min-end.ensures)) c.index-order-t.is 0 in
    elim c.if-get-gt0.branch [
      | then-get-gt0+else-not-has_late w ↦
          let show : ℕ → Late = λ q. record { period = t; quantity = q; by = lead - t } in
          let quantity : c.index-order-t.result ≡ slice_index order t = omega (arith, here, at) in
          let is : slice_get late c.loop-t.found ≡ Some (show (slice_index order t)) =
          w.has_late.ensures.0 w.if-not-has_late.false ∙ ap (λ (q : ℕ). Some (show q)) quantity in
          let more = late_found lead order late c.loop-t.found t (omega (arith, c.min-end.ensures))
          (omega (arith, here, at, c.get.ensures.value)) c.loop-t.invariant.found is in
          rw w.found-is (record {
            found = more;
            there = omega (arith, slice_get_within late c.loop-t.found (show (slice_index order t)) is);
            few = omega arith;
          })
      | else-get-gt0 w ↦
          let same = late_same lead order t (omega (arith, here, at, c.get.ensures.value)) in
          rw w.found-is (record {
            found = c.loop-t.invariant.found ∙ sym (ap (late_orders_in lead order) same);
            there = c.loop-t.invariant.there;
            few = omega arith;
          })
    ]

pub returns : goal.returns
returns c =
    let lead = c.args.lead in
    let order = c.args.plan.now.order in
    let late = c.args.plan.now.late in
    let row : c.as_slice-order.result.now ≡ order = c.as_slice-order.ensures.value ∙ c.order.ensures in
    let size = ap (λ (r : List ℕ). length r) row in
    let end = late_end lead order c.loop-t.t (length order) (omega (arith, size, c.min-end.ensures)) in
    let found : take c.loop-t.found late ≡ late_orders lead order = c.loop-t.invariant.found ∙ ap (late_orders_in lead order) end in (
      λ yes.
          let all = eqb-true c.loop-t.found c.late_count.result yes in
          sym (take_all c.loop-t.found late (omega (arith, all, c.late_count.ensures))) ∙ found,
      λ is.
          let count = length-take-le c.loop-t.found late c.loop-t.invariant.there in
          let whole = ap (λ (l : List Late). length l) (found ∙ sym is) in
          eq-eqb c.loop-t.found c.late_count.result (omega (arith, count, whole, c.late_count.ensures)),
    )
