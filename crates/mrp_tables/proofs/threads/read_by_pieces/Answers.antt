use Rattle.mrp_tables.specs.Pieces.{rows_of_bytes}
use Rattle.mrp_tables.specs.Sources.{left_of}
use Rattle.mrp_tables.proofs.BlockFacts.{refused_here}
use Rattle.mrp_tables.proofs.threads.read_by_pieces.Goals as goal

pub returns-in-Err-clause-exact : goal.returns-in-Err-clause-exact
returns-in-Err-clause-exact g c = refused_here (rows_of_bytes (left_of g.R.Read.remaining c.args.source.now)) c.args.draft.now _ c.no_memory.ensures
