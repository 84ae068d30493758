use Rattle.std.proofs.Common.{List, ℕ, Option, option_map, ap, ◌∙◌}
use Rattle.csv.specs.Reading.{strip_bom}
use Rattle.mrp_tables.specs.Pieces.{rows_of_bytes}
use Rattle.mrp_tables.specs.Sources.{left_of}
use Rattle.mrp_tables.proofs.BlockFacts.{refused_here, tells_as}
use Rattle.mrp_tables.proofs.PlainFacts.{feed_first}
use Rattle.mrp_tables.proofs.blocks.read_left.Goals as goal

pub returns-in-Err-clause-exact : goal.returns-in-Err-clause-exact
returns-in-Err-clause-exact g c = refused_here (rows_of_bytes (left_of g.R.Read.remaining c.args.source.now)) c.args.draft.now _ c.no_memory.ensures

pub returns-clause-exact : goal.returns-clause-exact
returns-clause-exact g c =
    tells_as _ (rows_of_bytes (left_of g.R.Read.remaining c.args.source.now)) c.args.draft.now c.read_on.new.draft c.read_on.result
    (c.rows_of-rows.ensures.rows ∙ ap (λ (known : Option (List ℕ)). rows_of_bytes (option_map strip_bom known)) c.in-Ok.ensures.given
    ∙ feed_first (left_of g.R.Read.remaining c.args.source.now)) c.read_on.ensures.exact
