use Rattle.std.proofs.Common.{◌≡◌, ◌∙◌, ℕ, true, false, List, ap, arith, length}
use Rattle.std.proofs.lemmas.List.FromFn.{length-map-range_with_len}
use Rattle.mrp_master_data.specs.Table.{horizon}
use Rattle.mrp_net.specs.Plan.{gross}
use Rattle.mrp_net.specs.Sums.{row_of}
use Rattle.mrp_loops.proofs.Within.{data_within}
use Rattle.mrp_plan.proofs.FirmGiven.{IsGiven, given_within, orders_due, orders_start, orders_total}
use Rattle.mrp_plan.proofs.Pegs.{fitting_gross}
use Rattle.mrp_advice.proofs.LackFacts.{given_beside}
use Rattle.mrp_advice.proofs.lacks.count_sooner.Goals as goal
use Rattle.mrp_advice.proofs.lacks.count_sooner.Goals.{After-gross, After-planning_data-given}

-- what the pair is planned from
given : (c : After-planning_data-given) → IsGiven c.args.network.now c.args.x.0 c.planning_data-given.result c.terms-terms.result c.incoming_row.result.now
    c.new-firm.result.periods c.write.new.self
given c = record {
  horizon_is = c.new-firm.ensures.periods ∙ c.horizon.ensures;
  are = record {
    params_are = c.terms-terms.ensures.params;
    policy_is = c.terms-terms.ensures.policy;
    receipts_are = c.terms-terms.ensures.receipts;
    orders_are = c.terms-terms.ensures.orders;
  };
  incoming_is = c.incoming_row.ensures;
  start = c.write.ensures.start;
  due = c.write.ensures.due;
  few_starts = c.write.ensures.few_starts;
  few_dues = c.write.ensures.few_dues;
  given_is = c.planning_data-given.ensures;
}

-- its gross requirements
required : (c : After-gross) → c.gross.result.now ≡ row_of c.args.network.now (gross c.args.network.now c.args.plan.now c.args.x.0)
required c = let own = fitting_gross c.args.network.now c.args.plan.now c.args.x.0 c.requires.fits c.requires.pair in cc

pub write-requires-clause-starts : goal.write-requires-clause-starts
write-requires-clause-starts c =
    orders_start c.args.network.now c.args.x.0 _ c.requires.sized.table c.terms-terms.ensures.orders _ (c.new-firm.ensures.periods ∙ c.horizon.ensures)

pub write-requires-clause-dues : goal.write-requires-clause-dues
write-requires-clause-dues c =
    orders_due c.args.network.now c.args.x.0 _ c.requires.sized.table c.terms-terms.ensures.orders _ (c.new-firm.ensures.periods ∙ c.horizon.ensures)

pub write-requires-clause-total : goal.write-requires-clause-total
write-requires-clause-total c =
    orders_total c.args.network.now c.args.x.0 _ c.requires.sized.table c.terms-terms.ensures.orders
    (omega (arith, c.requires.sized.within c.args.x.0 c.requires.pair))

pub find_both-requires-clause-within : goal.find_both-requires-clause-within
find_both-requires-clause-within c =
    let N = c.args.network.now in
    let x = c.args.x.0 in
    given_within N x _ _ _ _ _ (given (goal.at.find_both-requires-clause-within c).After-planning_data-given) c.args.plan.now c.gross.result.now
    (required (goal.at.find_both-requires-clause-within c).After-gross)
    (data_within N c.requires.sized c.args.plan.now c.requires.fits x c.requires.pair)

pub find_both-requires-clause-room : goal.find_both-requires-clause-room
find_both-requires-clause-room c =
    let N = c.args.network.now in
    let size = ap (λ (row : List ℕ). length row) (required (goal.at.find_both-requires-clause-room c).After-gross) in
    let periods = length-map-range_with_len (gross N c.args.plan.now c.args.x.0) 0 (horizon N) in
    record {
      receipts = omega (arith, c.requires.room.receipts, size, periods);
      others = omega (arith, c.requires.room.others, size, periods);
    }

pub returns-clause-receipts : goal.returns-clause-receipts
returns-clause-receipts c =
    let N = c.args.network.now in
    let x = c.args.x.0 in
    given_beside N c.args.plan.now x _ _ _ _ _ (given (goal.at.returns-clause-receipts c).After-planning_data-given) c.gross.result.now
    (required (goal.at.returns-clause-receipts c).After-gross) (data_within N c.requires.sized c.args.plan.now c.requires.fits x c.requires.pair) true _
    c.find_both.ensures.receipts

pub returns-clause-others : goal.returns-clause-others
returns-clause-others c =
    let N = c.args.network.now in
    let x = c.args.x.0 in
    given_beside N c.args.plan.now x _ _ _ _ _ (given (goal.at.returns-clause-others c).After-planning_data-given) c.gross.result.now
    (required (goal.at.returns-clause-others c).After-gross) (data_within N c.requires.sized c.args.plan.now c.requires.fits x c.requires.pair) false _
    c.find_both.ensures.others
