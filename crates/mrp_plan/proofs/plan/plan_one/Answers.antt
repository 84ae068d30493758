use Rattle.std.proofs.Common.{◌≡◌, ◌<◌, ◌+◌, ℕ, List, length, sum, slice_index, slice_set, arith, ap, sym, ◌∙◌, subst}
use Rattle.std.proofs.lemmas.List.{get_or_default}
use Rattle.std.specs.List.{All}
use Rattle.mrp_netting.specs.PlanRows.{PlanRows}
use Rattle.mrp_master_data.specs.Table.{horizon}
use Rattle.mrp_net.specs.Edges.{demanders}
use Rattle.mrp_net.specs.declared.edge.Edge.{Edge}
use Rattle.mrp_net.specs.Sums.{demand, row_of}
use Rattle.mrp_net.specs.Plan.{rows_at, no_rows, gross, asked}
use Rattle.mrp_plan.specs.Explosion.{asked_total}
use Rattle.mrp_net.proofs.Periods.{demands-le}
use Rattle.mrp_netting.specs.PlanningBound.{IsWithinData}
use Rattle.mrp_netting.specs.PlanningData.{one}
use Rattle.mrp_plan.proofs.FirmGiven.{AreTerms, orders_start, orders_due, same_data}
use Rattle.mrp_plan.proofs.Planning.{length-row_of, pair_within, gross_row}
use Rattle.mrp_plan.proofs.plan.plan_one.Goals as goal
use Rattle.mrp_plan.proofs.plan.plan_one.Goals.{After-explode_all, After-terms-terms}

pub explode_all-requires-clause-table : goal.explode_all-requires-clause-table
explode_all-requires-clause-table c = c.requires.can.is_table

pub explode_all-requires-clause-edges : goal.explode_all-requires-clause-edges
explode_all-requires-clause-edges c = λ i d h.
    let N = c.args.network.now in
    let x = c.args.x.0 in
    let size : length c.fill_demand.new.row ≡ horizon N = ap (λ (r : List ℕ). length r) c.fill_demand.ensures ∙ length-row_of N (demand N x) in
    let edge = c.demanders.ensures.edges i d h in
    let P : List Edge → Type 0 = λ es. All (λ e. length (rows_at c.args.plans.now e.demander.0).release ≡ horizon N) es in
    record {
      edge = edge;
      demander = omega (arith, edge.demander, c.requires.can.size);
      release = subst P (sym c.demanders.ensures.value) c.requires.can.releases i d h ∙ sym size;
    }

pub explode_all-requires-clause-within : goal.explode_all-requires-clause-within
explode_all-requires-clause-within c =
    let N = c.args.network.now in
    let x = c.args.x.0 in
    omega (
      arith,
      c.requires.can.within,
      demands-le N x,
      ap (λ (r : List ℕ). sum r) c.fill_demand.ensures,
      ap
          (asked_total N c.args.plans.now) c.demanders.ensures.value,
    )

-- the gross requirements are those of the pair
gross_is : (c : After-explode_all) → c.explode_all.new.gross ≡ row_of c.args.network.now (gross c.args.network.now c.args.plans.now c.args.x.0)
gross_is c =
    let N = c.args.network.now in
    let x = c.args.x.0 in
    let each = λ (t : ℕ) (h : t < length (row_of N (demand N x))).
    let own : slice_index c.fill_demand.new.row t ≡ slice_index (row_of N (demand N x)) t = ap (λ (r : List ℕ). slice_index r t) c.fill_demand.ensures in
    let asks : asked N c.args.plans.now c.demanders.result.now t ≡ asked N c.args.plans.now (demanders N x) t =
    ap (λ (es : List Edge). asked N c.args.plans.now es t) c.demanders.ensures.value in
    let in_row : t < length c.fill_demand.new.row = omega (arith, h, ap (λ (r : List ℕ). length r) c.fill_demand.ensures) in
    let sum_is : slice_index c.explode_all.new.gross t ≡ slice_index (row_of N (demand N x)) t + asked N c.args.plans.now (demanders N x) t =
    omega (arith, own, asks, c.explode_all.ensures.each t in_row) in
    sum_is in
    gross_row N c.args.plans.now x c.explode_all.new.gross (c.explode_all.ensures.size ∙ ap (λ (r : List ℕ). length r) c.fill_demand.ensures) each

-- the gross requirements have all periods, and are within what is asked
gross_size : (c : After-explode_all) → length c.explode_all.new.gross ≡ horizon c.args.network.now
gross_size c =
    c.explode_all.ensures.size ∙ ap (λ (r : List ℕ). length r) c.fill_demand.ensures
    ∙ length-row_of c.args.network.now (demand c.args.network.now c.args.x.0)

-- what planners say of the pair
terms_are : (c : After-terms-terms) → AreTerms c.args.network.now c.args.x.0 c.terms-terms.result
terms_are c = record {
  params_are = c.terms-terms.ensures.params;
  policy_is = c.terms-terms.ensures.policy;
  receipts_are = c.terms-terms.ensures.receipts;
  orders_are = c.terms-terms.ensures.orders;
}

pub plan_by_terms-requires-clause-starts : goal.plan_by_terms-requires-clause-starts
plan_by_terms-requires-clause-starts c =
    orders_start c.args.network.now c.args.x.0 _ c.requires.can.is_table c.terms-terms.ensures.orders _
    (gross_size (goal.at.plan_by_terms-requires-clause-starts c).After-explode_all)

pub plan_by_terms-requires-clause-dues : goal.plan_by_terms-requires-clause-dues
plan_by_terms-requires-clause-dues c =
    orders_due c.args.network.now c.args.x.0 _ c.requires.can.is_table c.terms-terms.ensures.orders _
    (gross_size (goal.at.plan_by_terms-requires-clause-dues c).After-explode_all)

pub plan_by_terms-requires-clause-within : goal.plan_by_terms-requires-clause-within
plan_by_terms-requires-clause-within c =
    let N = c.args.network.now in
    let x = c.args.x.0 in
    let at = goal.at.plan_by_terms-requires-clause-within c in
    subst IsWithinData
    (sym (same_data N c.args.plans.now x _ _ _ _ (gross_size at.After-explode_all) (terms_are at.After-terms-terms) c.incoming_row-incoming.ensures
    (gross_is at.After-explode_all)))
    (pair_within N c.args.plans.now x c.requires.can)

pub plan_by_terms-requires-clause-room : goal.plan_by_terms-requires-clause-room
plan_by_terms-requires-clause-room c =
    let x = c.args.x.0 in
    let size = gross_size (goal.at.plan_by_terms-requires-clause-room c).After-explode_all in
    let in_plans : x < length c.args.plans.now = omega (arith, c.requires.can.in_table, c.requires.can.size) in
    ap (λ (r : PlanRows). length r.gross) (get_or_default c.args.plans.now x c.index-plans-x.result no_rows in_plans) ∙ c.requires.can.room ∙ sym size

pub returns-clause-planned : goal.returns-clause-planned
returns-clause-planned c =
    let N = c.args.network.now in
    let x = c.args.x.0 in
    let at = goal.at.returns-clause-planned c in
    ap (slice_set c.args.plans.now x) (c.plan_by_terms.ensures.plan
    ∙ ap one (same_data N c.args.plans.now x _ _ _ _ (gross_size at.After-explode_all) (terms_are at.After-terms-terms) c.incoming_row-incoming.ensures
    (gross_is at.After-explode_all)))

pub returns-clause-gross_room : goal.returns-clause-gross_room
returns-clause-gross_room c =
    let x = c.args.x.0 in
    let in_plans : x < length c.args.plans.now = omega (arith, c.requires.can.in_table, c.requires.can.size) in
    ap (λ (r : List ℕ). length r) c.plan_by_terms.ensures.room
    ∙ ap (λ (r : PlanRows). length r.gross) (get_or_default c.args.plans.now x c.index-plans-x.result no_rows in_plans) ∙ c.requires.can.room
