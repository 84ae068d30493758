use Rattle.mrp_tables.specs.Pieces.{rows_of_bytes}
use Rattle.mrp_tables.specs.Sources.{left_of}
use Rattle.mrp_tables.proofs.BlockFacts.{tells_rest}
use Rattle.mrp_validation.proofs.KeepingSteps.{handed_on}
use Rattle.mrp_tables.proofs.blocks.read_behind.Goals as goal
use Rattle.std.proofs.Common.{◌∙◌}
use Rattle.std.proofs.lemmas.Result.{on_ok_weaker}

pub returns-in_err-read_blocks-clause-exact : goal.returns-in_err-read_blocks-clause-exact
returns-in_err-read_blocks-clause-exact g c = rw (handed_on c.from_residual.result _ c.from_residual.ensures.1) c.in_err-read_blocks.ensures.exact

pub returns-clause-exact : goal.returns-clause-exact
returns-clause-exact g c =
    tells_rest (rows_of_bytes (left_of g.R.Read.remaining c.args.source.now)) (rows_of_bytes (left_of g.R.Read.remaining c.read_blocks.new.source))
    c.args.draft.now c.read_blocks.new.draft c.read_left.new.draft c.read_left.result c.in_ok-read_blocks.ensures.exact c.read_left.ensures.exact

pub returns-in_err-read_blocks-clause-limits : goal.returns-in_err-read_blocks-clause-limits
returns-in_err-read_blocks-clause-limits g c = rw (handed_on c.from_residual.result _ c.from_residual.ensures.1) tt

pub returns-clause-limits : goal.returns-clause-limits
returns-clause-limits g c = on_ok_weaker c.read_left.result (λ e. e ∙ c.in_ok-read_blocks.ensures.limits) c.read_left.ensures.limits
