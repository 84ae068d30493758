use Rattle.std.proofs.Common.{length, ap, ◌∙◌, arith}
use Rattle.mrp_record.specs.Text.{total}
use Rattle.mrp_world.proofs.Counts as count
use Rattle.mrp_world.proofs.carried.called.Goals as goal

pub called_by-requires-clause-within : goal.called_by-requires-clause-within
called_by-requires-clause-within c =
    omega (
      arith,
      c.requires.within,
      ap total (count.called_is c.args.network.now c.args.source c.args.plan.now _ _ c.requires.fits c.requires.plan c.requires.pair
          c.pair-of_pair.ensures c.release.ensures c.len-periods.ensures.rows),
    )

pub returns-clause-lines : goal.returns-clause-lines
returns-clause-lines c =
    c.called_by.ensures.lines ∙ ap length (count.called_is c.args.network.now c.args.source c.args.plan.now _ _ c.requires.fits c.requires.plan
    c.requires.pair c.pair-of_pair.ensures c.release.ensures c.len-periods.ensures.rows)

pub returns-clause-pieces : goal.returns-clause-pieces
returns-clause-pieces c =
    c.called_by.ensures.pieces ∙ ap total (count.called_is c.args.network.now c.args.source c.args.plan.now _ _ c.requires.fits c.requires.plan
    c.requires.pair c.pair-of_pair.ensures c.release.ensures c.len-periods.ensures.rows)
