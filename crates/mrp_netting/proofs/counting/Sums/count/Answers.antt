use Rattle.std.proofs.Common.{◌+◌, suc, arith}
use Rattle.mrp_qty.proofs.RangeLaws.{sum_take-suc}
use Rattle.mrp_netting.specs.declared.counting.Sums.{Sums}
use Rattle.mrp_netting.specs.PlanningBound.{data_of}
use Rattle.mrp_netting.proofs.CountSteps.{IsCounted, count_step}
use Rattle.mrp_netting.proofs.RowSums.{sum_take-most}
use Rattle.mrp_netting.proofs.counting.Sums.count.Goals as goal
use Rattle.mrp_netting.proofs.counting.Sums.count.Goals.{After-max-had}

pub overflow_add-self-4 : goal.overflow_add-self-4
overflow_add-self-4 c =
    let given = c.args.given.now in
    let t = c.args.t in
    omega (
      arith,
      c.requires.within.total,
      c.requires.before.has,
      c.requires.others,
      sum_take-suc given.arrivals.now t,
      sum_take-suc given.firm_due.now t,
      sum_take-most given.arrivals.now (suc t),
      sum_take-most given.firm_due.now (suc t),
    )

abbrev sums_after : After-max-had → Sums
sums_after c = record {
  came = c.args.self.now.came + c.pieces_at.result;
  could = c.args.self.now.could + c.pieces_at-2.result;
  asked = c.args.self.now.asked + c.quantity_at.result;
  has = c.args.self.now.has + c.args.others;
  lacked = c.max-self.result;
  counted = c.max-had.result;
}

-- what is counted in this period
step : (c : After-max-had) → IsCounted (data_of c.args.given.now c.args.gross.now) c.args.t c.args.others c.args.self.now (sums_after c)
step c = count_step (data_of c.args.given.now c.args.gross.now) c.args.t c.args.others c.args.self.now (sums_after c) (record {
  before = c.requires.before;
  come = c.requires.others;
  came = omega arith;
  could = omega arith;
  asked = omega arith;
  has = omega arith;
  lacked = omega arith;
  counted = omega arith;
})

pub returns-clause-after : goal.returns-clause-after
returns-clause-after c = (step (goal.at.returns-clause-after c).After-max-had).next

pub returns-clause-value : goal.returns-clause-value
returns-clause-value c = (step (goal.at.returns-clause-value c).After-max-had).incoming
