use Rattle.mrp_tables.specs.Pieces.{rows_of_bytes, texts_of}
use Rattle.mrp_tables.specs.Sources.{left_of}
use Rattle.std.proofs.Common.{take}
use Rattle.mrp_tables.proofs.BlockFacts.{front_read, refused_here}
use Rattle.mrp_tables.proofs.blocks.read_some.Goals as goal

pub returns-in-Ok-clause-exact : goal.returns-in-Ok-clause-exact
returns-in-Ok-clause-exact g c =
    front_read (left_of g.R.Read.remaining c.args.source.now) (left_of g.R.Read.remaining c.fill_pieces.new.source)
    (left_of g.R.Read.remaining c.read_filled.new.source) (texts_of (take c.in-Ok.filled c.fill_pieces.new.pieces)) c.args.draft.now
    c.read_filled.new.draft c.read_filled.result c.in-Ok.ensures.taken c.read_filled.ensures.exact

pub returns-in-Err-clause-exact : goal.returns-in-Err-clause-exact
returns-in-Err-clause-exact g c = refused_here (rows_of_bytes (left_of g.R.Read.remaining c.args.source.now)) c.args.draft.now _ c.no_memory.ensures
