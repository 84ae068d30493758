use Rattle.std.proofs.Common.{List, ℕ, Some, ap, ◌∙◌}
use Rattle.mrp_tables.proofs.BlockFacts.{plain_rows}
use Rattle.mrp_tables.proofs.ThreadFacts.{begun_of}
use Rattle.mrp_tables.proofs.threads.first_rows.Goals as goal

pub returns-clause-exact : goal.returns-clause-exact
returns-clause-exact c =
    begun_of c.args.limits _ c.args.text.now c.first_rows_of.result
    (c.rows_of-rows.ensures.rows ∙ ap (λ (rows : List (List (List ℕ))). Some rows) (plain_rows c.args.text.now c.requires.plain)) c.first_rows_of.ensures.exact
