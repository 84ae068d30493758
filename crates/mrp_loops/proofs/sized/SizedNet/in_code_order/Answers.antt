use Rattle.std.proofs.Common.{List, map, sym, ap, ◌∙◌, subst}
use Rattle.mrp_master_data.specs.declared.numbers.PairNo.{PairNo}
use Rattle.mrp_loops.specs.Order.{code_order, IsInCodeOrder}
use Rattle.mrp_loops.specs.Planning.{Sized, IsPlanningOrder}
use Rattle.mrp_loops.proofs.Planning.{in_code_order, code_order_plans}
use Rattle.mrp_loops.proofs.sized.SizedNet.in_code_order.Goals as goal

pub returns-clause-value : goal.returns-clause-value
returns-clause-value c =
    c.as_slice.ensures.value ∙ c.self.invariant.3 ∙ ap (λ (s : Sized). code_order s.codes) c.self.view_is

pub returns-clause-planning : goal.returns-clause-planning
returns-clause-planning c =
    let inv = c.self.invariant in
    let N = c.self.inside.network.now in
    let plans = code_order_plans N c.self.inside.levels.now inv.0.table inv.1 in
    let P : List PairNo → Type 0 = λ order. IsPlanningOrder N (map (λ x. x.0) order) in
    let Q : Sized → Type 0 = λ s. IsPlanningOrder s.network (map (λ x. x.0) c.as_slice.result.now) in
    subst Q c.self.view_is (subst P (sym (c.as_slice.ensures.value ∙ inv.3)) plans)

pub returns-clause-by_code : goal.returns-clause-by_code
returns-clause-by_code c =
    let codes = c.self.inside.levels.now in
    let P : List PairNo → Type 0 = λ order. IsInCodeOrder codes (map (λ x. x.0) order) in
    let Q : Sized → Type 0 = λ s. IsInCodeOrder s.codes (map (λ x. x.0) c.as_slice.result.now) in
    subst Q c.self.view_is (subst P (sym (c.as_slice.ensures.value ∙ c.self.invariant.3)) (in_code_order codes))
