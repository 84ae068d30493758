use Rattle.mrp_tables.proofs.BlockFacts.{said_of}
use Rattle.mrp_tables.proofs.pieces.read_said.Goals as goal

pub returns : goal.returns
returns c = λ all. said_of _ _ c.args.text.now _ c.rows_of-rows.ensures.rows c.requires.plain (c.note_rows.ensures all)
