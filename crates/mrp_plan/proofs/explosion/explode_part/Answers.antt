use Rattle.std.proofs.Common.{◌≡◌, ◌+◌, ◌≤◌, slice_index, ap, ◌∙◌, arith}
use Rattle.mrp_qty.specs.declared.quantity.TheConstants.{MOST}
use Rattle.mrp_net.specs.Edges.{edge_need}
use Rattle.mrp_plan.specs.Explosion.{need_by}
use Rattle.mrp_plan.proofs.Asked.{need_by-is, need_within}
use Rattle.mrp_plan.proofs.explosion.explode_part.Goals as goal
use Rattle.mrp_plan.proofs.explosion.explode_part.Goals.{After-get-quantity}

-- what the edge's rows ask is what the edge asks
asks : (c : After-get-quantity) → need_by c.usages-rows.result.now c.args.edge.now c.loop-t.t c.get-quantity.result
    ≡ edge_need c.args.network.now c.args.edge.now c.loop-t.t (slice_index c.args.release.now c.loop-t.t)
asks c =
    let e = c.args.edge.now in
    let t = c.loop-t.t in
    need_by-is c.args.network.now e c.usages-rows.result.now t c.get-quantity.result c.usages-rows.ensures.value
    ∙ ap (edge_need c.args.network.now e t) (c.get-quantity.ensures.value ∙ c.get-released.ensures)

-- and it is within the bound
fits : (c : After-get-quantity) → slice_index c.loop-t.gross c.loop-t.t
    + need_by c.usages-rows.result.now c.args.edge.now c.loop-t.t c.get-quantity.result ≤ MOST
fits c =
    let t = c.loop-t.t in
    omega (
      arith,
      asks c,
      c.loop-t.invariant.rest t (omega arith),
      need_within c.args.network.now c.args.edge.now c.args.gross.now c.args.release.now t c.requires.table c.requires.edge.ends c.requires.periods
          c.requires.within
          (omega (arith, c.loop-t-test.true, c.len-t-end.ensures.value, c.requires.periods)),
    )

pub get-released-requires : goal.get-released-requires
get-released-requires c = omega (arith, c.loop-t-test.true, c.len-t-end.ensures.value)

pub need_of-requires-clause-bases : goal.need_of-requires-clause-bases
need_of-requires-clause-bases c = λ i d h. (c.usages-rows.ensures.rows i d h).some

pub need_of-requires-clause-shares : goal.need_of-requires-clause-shares
need_of-requires-clause-shares c = omega (arith, c.requires.edge.rises)

pub need_of-requires-clause-whole : goal.need_of-requires-clause-whole
need_of-requires-clause-whole c = c.requires.edge.ends

pub need_of-requires-clause-quantity : goal.need_of-requires-clause-quantity
need_of-requires-clause-quantity c = c.get-quantity.ensures.within

pub need_of-requires-clause-within : goal.need_of-requires-clause-within
need_of-requires-clause-within c = omega (arith, fits (goal.at.need_of-requires-clause-within c).After-get-quantity)

pub of-requires : goal.of-requires
of-requires c = omega (arith, c.need_of.ensures, fits (goal.at.of-requires c).After-get-quantity)

pub add-requires-clause-period : goal.add-requires-clause-period
add-requires-clause-period c = omega (arith, c.loop-t-test.true, c.len-t-end.ensures.value, c.requires.periods, c.loop-t.invariant.size)

pub add-requires-clause-within : goal.add-requires-clause-within
add-requires-clause-within c = omega (arith, c.of.ensures, c.need_of.ensures, fits (goal.at.add-requires-clause-within c).After-get-quantity)

pub returns-clause-each : goal.returns-clause-each
returns-clause-each c = λ t h. c.loop-t.invariant.done t (omega (arith, h, c.loop-t-test.false, c.len-t-end.ensures.value, c.requires.periods))

pub returns-clause-size : goal.returns-clause-size
returns-clause-size c = c.loop-t.invariant.size
