use Rattle.std.proofs.Common.{List, ℕ, ◌∙◌, sym, subst}
use Rattle.std.specs.Io.KnownBytes.{prepend_known}
use Rattle.mrp_tables.specs.Pieces.{rows_of_bytes, TellsRead}
use Rattle.mrp_tables.specs.Sources.{left_of}
use Rattle.mrp_tables.proofs.BlockFacts.{text_alone}
use Rattle.mrp_tables.proofs.blocks.read_filled.Goals as goal

pub returns-then-pieces-eq1-clause-exact : goal.returns-then-pieces-eq1-clause-exact
returns-then-pieces-eq1-clause-exact g c =
    subst (λ (text : List ℕ). TellsRead (rows_of_bytes (prepend_known text (left_of g.R.Read.remaining c.args.source.now)))
    (rows_of_bytes (left_of g.R.Read.remaining c.read_piece.new.source)) c.args.draft.now c.read_piece.new.draft c.read_piece.result)
    (c.text.ensures ∙ sym (text_alone c.args.pieces.now c.index-pieces-0.result c.if-pieces-eq1.true))
    c.read_piece.ensures.exact
