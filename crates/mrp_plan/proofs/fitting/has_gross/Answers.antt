use Rattle.std.proofs.Common.{List, refl, ap, arith}
use Rattle.std.proofs.lemmas.Bool.{false≢true}
use Rattle.std.proofs.lemmas.List.FromFn.{fill_by_all}
use Rattle.mrp_master_data.specs.Table.{horizon}
use Rattle.mrp_net.specs.Edges.{demanders}
use Rattle.mrp_net.specs.Plan.{gross, asked}
use Rattle.mrp_net.specs.declared.edge.Edge.{Edge}
use Rattle.mrp_plan.proofs.Asked.{asked-le}
use Rattle.mrp_net.proofs.Periods.{demand-le, row_reads}
use Rattle.mrp_net.proofs.Totals.{shares_end}
use Rattle.mrp_plan.proofs.fitting.has_gross.Goals as goal

pub asked_in-requires-clause-within : goal.asked_in-requires-clause-within
asked_in-requires-clause-within c =
    let N = c.args.network.now in
    let x = c.args.x.0 in
    let are = ap (λ (es : List Edge). asked N c.args.plan.now es c.loop-t.t) c.demanders-edges.ensures.value in
    let table = c.requires.can.is_table in
    omega (arith, are, asked-le N c.args.plan.now c.loop-t.t (demanders N x) table (shares_end N x table), c.requires.can.within)

pub overflow_add-needed : goal.overflow_add-needed
overflow_add-needed c =
    let N = c.args.network.now in
    let x = c.args.x.0 in
    let are = ap (λ (es : List Edge). asked N c.args.plan.now es c.loop-t.t) c.demanders-edges.ensures.value in
    omega (
      arith,
      are,
      c.demand.ensures,
      c.asked_in.ensures,
      demand-le N x c.loop-t.t (omega arith),
      asked-le N c.args.plan.now c.loop-t.t (demanders N x) c.requires.can.is_table (shares_end N x c.requires.can.is_table),
      c.requires.can.within,
    )

pub returns-then-get-needed : goal.returns-then-get-needed
returns-then-get-needed c =
    let N = c.args.network.now in
    let x = c.args.x.0 in
    let are = ap (λ (es : List Edge). asked N c.args.plan.now es c.loop-t.t) c.demanders-edges.ensures.value in (
      λ no_. absurd (false≢true no_),
      λ is.
          let read = row_reads N (gross N c.args.plan.now x) c.args.row.now c.loop-t.t is (omega arith) in
          absurd (omega (arith, are, read, c.get.ensures, c.get-in-loop-t.ensures.value, c.demand.ensures, c.asked_in.ensures)),
    )

pub returns : goal.returns
returns c = (
  λ yes. fill_by_all (gross c.args.network.now c.args.plan.now c.args.x.0) c.args.row.now (horizon c.args.network.now) 0 c.requires.periods
      (λ k h. c.loop-t.invariant k (omega arith)),
  λ is. refl,
)
