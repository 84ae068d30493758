use Rattle.std.proofs.Common.{subst, sym, arith}
use Rattle.std.proofs.lemmas.List.Sums.{sum_by_more, sum_by_more_le, sum_by-take-le}
use Rattle.mrp_loops.specs.Sized.{IsSized}
use Rattle.mrp_net.specs.Lanes.{lanes}
use Rattle.mrp_world.proofs.Counts as count
use Rattle.mrp_world.proofs.counting.steps_by.Goals as goal

pub loop-l-preserved : goal.loop-l-preserved
loop-l-preserved c =
    let N = c.network-network.result.now in
    omega (
      arith,
      c.loop-l.invariant,
      c.text_length-records.ensures,
      sum_by_more (count.text_of_lane N) (lanes N) c.loop-l.l count.no_lane
          (omega (arith, c.loop-l-test.true, c.lanes-l-end.ensures)),
    )

pub overflow_add-records : goal.overflow_add-records
overflow_add-records c =
    let N = c.network-network.result.now in
    let sized : IsSized N = subst IsSized (sym c.network-network.ensures.value) c.network-network.ensures.sized in
    omega (
      arith,
      c.loop-l.invariant,
      c.text_length-records.ensures,
      count.texts_are_few N sized.table,
      sum_by_more_le (count.text_of_lane N) (lanes N) c.loop-l.l count.no_lane (omega (arith, c.loop-l-test.true, c.lanes-l-end.ensures)),
    )

pub overflow_mul-result : goal.overflow_mul-result
overflow_mul-result c =
    let N = c.network-network.result.now in
    let sized : IsSized N = subst IsSized (sym c.network-network.ensures.value) c.network-network.ensures.sized in
    omega (arith, c.loop-l.invariant, count.texts_are_few N sized.table, sum_by-take-le (count.text_of_lane N) (lanes N) c.loop-l.l)

pub overflow_add-result : goal.overflow_add-result
overflow_add-result c =
    let N = c.network-network.result.now in
    let sized : IsSized N = subst IsSized (sym c.network-network.ensures.value) c.network-network.ensures.sized in
    omega (arith, c.loop-l.invariant, c.pairs.ensures, count.texts_are_few N sized.table, sum_by-take-le (count.text_of_lane N) (lanes N) c.loop-l.l)
