use Rattle.std.proofs.Common.{◌≡◌, sym, ap, ◌∙◌, arith}
use Rattle.std.proofs.lemmas.Bool.{false≢true}
use Rattle.mrp_netting.specs.PlanRows.{PlanRows}
use Rattle.mrp_net.specs.Plan.{gross}
use Rattle.mrp_net.specs.Sums.{row_of}
use Rattle.mrp_plan.proofs.FirmGiven.{IsGiven, orders_start, orders_due, orders_total, given_within, given_plan}
use Rattle.mrp_plan.proofs.Planning.{one-gross, pair_within}
use Rattle.mrp_plan.proofs.fitting.fits_at.Goals as goal
use Rattle.mrp_plan.proofs.fitting.fits_at.Goals.{After-planning_data-given}

-- what the pair is planned from
given : (c : After-planning_data-given) → IsGiven c.args.network.now c.args.x.0 c.planning_data-given.result c.terms-terms.result c.incoming_row.result.now
    c.new-firm.result.periods c.write.new.self
given c = record {
  horizon_is = c.new-firm.ensures.periods ∙ c.horizon.ensures;
  are = record {
    params_are = c.terms-terms.ensures.params;
    policy_is = c.terms-terms.ensures.policy;
    receipts_are = c.terms-terms.ensures.receipts;
    orders_are = c.terms-terms.ensures.orders;
  };
  incoming_is = c.incoming_row.ensures;
  start = c.write.ensures.start;
  due = c.write.ensures.due;
  few_starts = c.write.ensures.few_starts;
  few_dues = c.write.ensures.few_dues;
  given_is = c.planning_data-given.ensures;
}

pub write-requires-clause-starts : goal.write-requires-clause-starts
write-requires-clause-starts c =
    orders_start c.args.network.now c.args.x.0 _ c.requires.is_table c.terms-terms.ensures.orders _ (c.new-firm.ensures.periods ∙ c.horizon.ensures)

pub write-requires-clause-dues : goal.write-requires-clause-dues
write-requires-clause-dues c =
    orders_due c.args.network.now c.args.x.0 _ c.requires.is_table c.terms-terms.ensures.orders _ (c.new-firm.ensures.periods ∙ c.horizon.ensures)

pub write-requires-clause-total : goal.write-requires-clause-total
write-requires-clause-total c =
    orders_total c.args.network.now c.args.x.0 _ c.requires.is_table c.terms-terms.ensures.orders (omega (arith, c.requires.within))

pub returns-then-not-has_gross : goal.returns-then-not-has_gross
returns-then-not-has_gross c = (
  λ no_. absurd (false≢true no_),
  λ is.
      let same = c.gross.ensures ∙ ap (λ (r : PlanRows). r.gross) (c.pair-own.ensures ∙ is) ∙ one-gross c.args.network.now c.args.plan.now c.args.x.0 in
      absurd (false≢true (sym c.if-not-has_gross.true ∙ c.has_gross.ensures.1 same)),
)

pub is_plan_from-requires : goal.is_plan_from-requires
is_plan_from-requires c =
    let N = c.args.network.now in
    let x = c.args.x.0 in
    let g : c.pair-own.result.now.gross ≡ row_of N (gross N c.args.plan.now x) = sym c.gross.ensures ∙ c.has_gross.ensures.0 c.if-not-has_gross.false in
    record {
      within = given_within N x _ _ _ _ _ (given (goal.at.is_plan_from-requires c).After-planning_data-given) c.args.plan.now c.pair-own.result.now.gross g
          (pair_within N c.args.plan.now x c.requires);
    }

pub returns : goal.returns
returns c =
    let N = c.args.network.now in
    let x = c.args.x.0 in
    let own = c.pair-own.ensures in
    let g : c.pair-own.result.now.gross ≡ row_of N (gross N c.args.plan.now x) = sym c.gross.ensures ∙ c.has_gross.ensures.0 c.if-not-has_gross.false in
    let same = given_plan N x _ _ _ _ _ (given (goal.at.returns c).After-planning_data-given) c.args.plan.now
    c.pair-own.result.now.gross g (pair_within N c.args.plan.now x c.requires) in (
      λ yes. sym own ∙ c.is_plan_from.ensures.0 yes ∙ same,
      λ is. c.is_plan_from.ensures.1 (own ∙ is ∙ sym same),
    )
