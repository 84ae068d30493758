use Rattle.std.proofs.Common.{List, map, sym, ◌∙◌, subst}
use Rattle.std.proofs.lemmas.Result.{err_from_is_err_and}
use Rattle.mrp_master_data.specs.declared.numbers.PairNo.{PairNo}
use Rattle.mrp_loops.specs.Order.{IsInCodeOrder}
use Rattle.mrp_loops.specs.Planning.{IsPlanningOrder}
use Rattle.mrp_loops.proofs.Codes.{sized_from_codes}
use Rattle.mrp_loops.proofs.Needed.{bound_fault}
use Rattle.mrp_loops.proofs.Planning.{in_code_order, code_order_plans}
use Rattle.mrp_loops.proofs.sized.bound.Goals as goal

pub test_needs-requires : goal.test_needs-requires
test_needs-requires c =
    let P : List PairNo → Type 0 = λ order. IsPlanningOrder c.args.network.now (map (λ x. x.0) order) in
    subst P (sym (c.as_slice.ensures.value ∙ c.in_ok-order.ensures))
    (code_order_plans c.args.network.now c.args.levels.now c.pairs-pairs.ensures.table c.requires)

pub invariant_of-result : goal.invariant_of-result
invariant_of-result c = (
  sized_from_codes c.args.network.now c.args.levels.now c.in_ok-needs.needs.items c.pairs-pairs.ensures.table c.requires c.in_ok-needs.ensures.needs
      c.in_ok-needs.ensures.within,
  c.requires,
  c.in_ok-needs.ensures.needs,
  c.in_ok-order.ensures,
)

pub returns-clause-within : goal.returns-clause-within
returns-clause-within c =
    sized_from_codes c.args.network.now c.args.levels.now c.in_ok-needs.needs.items c.pairs-pairs.ensures.table c.requires c.in_ok-needs.ensures.needs
    c.in_ok-needs.ensures.within

pub returns-in_err-needs-clause-fault : goal.returns-in_err-needs-clause-fault
returns-in_err-needs-clause-fault c =
    let N = c.args.network.now in
    let order = c.in_ok-order.order.items in
    let P : List PairNo → Type 0 = λ order. IsPlanningOrder N (map (λ x. x.0) order) in
    let Q : List PairNo → Type 0 = λ order. IsInCodeOrder c.args.levels.now (map (λ x. x.0) order) in
    let planning = subst P (sym c.in_ok-order.ensures) (code_order_plans N c.args.levels.now c.pairs-pairs.ensures.table c.requires) in
    let by_code = subst Q (sym c.in_ok-order.ensures) (in_code_order c.args.levels.now) in
    let p = err_from_is_err_and c.from_residual-in_err-needs.result c.from_residual-in_err-needs.ensures.1 in
    rw (p.1, p.2)
    (bound_fault N c.args.levels.now order by_code planning c.in_default.ensures.none _ (rw (← c.as_slice.ensures.value) c.in_err-needs.ensures.fault))
