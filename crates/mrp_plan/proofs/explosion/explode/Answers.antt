use Rattle.std.proofs.Common.{◌≡◌, ◌+◌, ℕ, ◌<◌, length, slice_index, sym, arith}
use Rattle.mrp_net.specs.Edges.{edge_need}
use Rattle.mrp_plan.proofs.Asked.{need_by-whole, need_within, total_within}
use Rattle.mrp_plan.proofs.explosion.explode.Goals as goal
use Rattle.mrp_plan.proofs.explosion.explode.Goals.{After-usages, After-add_asked}

pub add_asked-requires-clause-bases : goal.add_asked-requires-clause-bases
add_asked-requires-clause-bases c = λ i d h. let row = c.usages.ensures.rows i d h in (row.some, row.per)

pub add_asked-requires-clause-few : goal.add_asked-requires-clause-few
add_asked-requires-clause-few c = c.requires.edge.few

pub add_asked-requires-clause-periods : goal.add_asked-requires-clause-periods
add_asked-requires-clause-periods c = sym c.requires.periods

pub add_asked-requires-clause-within : goal.add_asked-requires-clause-within
add_asked-requires-clause-within c =
    let N = c.args.network.now in
    let e = c.args.edge.now in
    let ends = c.is_whole.ensures.0 c.if-is_whole.true in
    λ t h. omega (
      arith,
      need_by-whole N e c.usages.result.now t (slice_index c.args.release.now t) ends.0 ends.1 c.usages.ensures.value,
      need_within N e c.args.gross.now c.args.release.now t c.requires.table c.requires.edge.ends c.requires.periods c.requires.within h,
    )

-- what a whole release asks is added
whole_each : (c : After-add_asked) → (t : ℕ) → t < length c.args.gross.now
    → slice_index c.add_asked.new.gross t ≡ slice_index c.args.gross.now t + edge_need c.args.network.now c.args.edge.now t (slice_index c.args.release.now t)
whole_each c t h =
    let ends = c.is_whole.ensures.0 c.if-is_whole.true in
    omega (
      arith,
      c.add_asked.ensures.each t h,
      need_by-whole c.args.network.now c.args.edge.now c.usages.result.now t (slice_index c.args.release.now t) ends.0 ends.1 c.usages.ensures.value,
    )

pub returns-then-is_whole-clause-each : goal.returns-then-is_whole-clause-each
returns-then-is_whole-clause-each c = whole_each (goal.at.returns-then-is_whole-clause-each c).After-add_asked

pub returns-then-is_whole-clause-total : goal.returns-then-is_whole-clause-total
returns-then-is_whole-clause-total c =
    total_within c.args.network.now c.args.edge.now c.args.gross.now c.add_asked.new.gross c.args.release.now c.requires.table c.requires.edge.ends
    c.add_asked.ensures.size c.requires.periods (whole_each (goal.at.returns-then-is_whole-clause-total c).After-add_asked)

pub returns-then-is_whole-clause-size : goal.returns-then-is_whole-clause-size
returns-then-is_whole-clause-size c = c.add_asked.ensures.size

pub explode_part-requires-clause-table : goal.explode_part-requires-clause-table
explode_part-requires-clause-table c = c.requires.table

pub explode_part-requires-clause-edge : goal.explode_part-requires-clause-edge
explode_part-requires-clause-edge c = c.requires.edge

pub explode_part-requires-clause-periods : goal.explode_part-requires-clause-periods
explode_part-requires-clause-periods c = c.requires.periods

pub explode_part-requires-clause-within : goal.explode_part-requires-clause-within
explode_part-requires-clause-within c = c.requires.within

pub returns-else-is_whole-clause-each : goal.returns-else-is_whole-clause-each
returns-else-is_whole-clause-each c = c.explode_part.ensures.each

pub returns-else-is_whole-clause-total : goal.returns-else-is_whole-clause-total
returns-else-is_whole-clause-total c =
    total_within c.args.network.now c.args.edge.now c.args.gross.now c.explode_part.new.gross c.args.release.now c.requires.table c.requires.edge.ends
    c.explode_part.ensures.size c.requires.periods c.explode_part.ensures.each

pub returns-else-is_whole-clause-size : goal.returns-else-is_whole-clause-size
returns-else-is_whole-clause-size c = c.explode_part.ensures.size
