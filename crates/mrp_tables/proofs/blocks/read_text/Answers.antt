use Rattle.std.proofs.Common.{List, ℕ, Some, ap, ◌∙◌}
use Rattle.mrp_tables.specs.Pieces.{rows_in}
use Rattle.mrp_tables.proofs.BlockFacts.{plain_rows, tells_left, them_all}
use Rattle.mrp_tables.proofs.blocks.read_text.Goals as goal

pub returns-clause-exact : goal.returns-clause-exact
returns-clause-exact c =
    them_all (rows_in c.args.text.now) c.args.draft.now c.read_on.new.draft c.read_on.result
    (tells_left _ (rows_in c.args.text.now) c.args.draft.now c.read_on.new.draft c.read_on.result
    (c.rows_of-rows.ensures.rows ∙ ap (λ (rows : List (List (List ℕ))). Some rows) (plain_rows c.args.text.now c.requires.plain)) c.read_on.ensures.exact)
