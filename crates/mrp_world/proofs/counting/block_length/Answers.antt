use Rattle.std.proofs.Common.{ap, sym, ◌∙◌, true, false, arith}
use Rattle.std.specs.Prelude.{is_some}
use Rattle.mrp_net.specs.Lanes.{lane_at}
use Rattle.mrp_protocol.specs.Loads.{load_of}
use Rattle.mrp_world.proofs.Counts as count
use Rattle.mrp_world.proofs.counting.block_length.Goals as goal

pub overflow_add-result : goal.overflow_add-result
overflow_add-result c = omega (
  arith,
  count.block_fits c.args.network.now c.requires.sized.table c.args.lane.0 c.requires.lane c.args.item c.requires.item _
      true c.carried_on-lines.ensures.lines (ap is_some (sym c.reset.ensures ∙ c.in-Some.is)),
)

pub returns-in-Some : goal.returns-in-Some
returns-in-Some c = sym (count.block_is (load_of c.args.network.now (lane_at c.args.network.now c.args.lane.0) c.args.item) c.carried_on-lines.result.lines true
    c.carried_on-lines.ensures.lines (ap is_some (sym c.reset.ensures ∙ c.in-Some.is)))

pub overflow_add-result-in-None : goal.overflow_add-result-in-None
overflow_add-result-in-None c = omega (
  arith,
  count.block_fits c.args.network.now c.requires.sized.table c.args.lane.0 c.requires.lane c.args.item
      c.requires.item _ false c.carried_on-lines.ensures.lines (ap is_some (sym c.reset.ensures ∙ c.in-None.is)),
)

pub returns-in-None : goal.returns-in-None
returns-in-None c = sym (count.block_is (load_of c.args.network.now (lane_at c.args.network.now c.args.lane.0) c.args.item)
    c.carried_on-lines.result.lines false c.carried_on-lines.ensures.lines (ap is_some (sym c.reset.ensures ∙ c.in-None.is)))
