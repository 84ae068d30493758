use Rattle.std.proofs.Common.{eqb-true}
use Rattle.mrp_tables.specs.Pieces.{rows_of_bytes, texts_of}
use Rattle.std.specs.Io.KnownBytes.{prepend_known}
use Rattle.mrp_tables.specs.Sources.{left_of}
use Rattle.mrp_tables.proofs.BlockFacts.{all_taken, block_fault, block_left, block_taken, refused_there}
use Rattle.mrp_tables.proofs.SourceFacts.{consumes_front}
use Rattle.mrp_validation.proofs.KeepingSteps.{handed_on}
use Rattle.mrp_tables.proofs.blocks.read_block.Goals as goal

pub returns-in_err-taken-clause-exact : goal.returns-in_err-taken-clause-exact
returns-in_err-taken-clause-exact g c =
    rw (handed_on c.from_residual.result _ c.from_residual.ensures.1)
    (block_fault _ _ _ c.read_pieces.new.pieces c.args.draft.now c.take_pieces.new.draft _
    (consumes_front (texts_of c.args.pieces.now) (left_of g.R.Read.remaining c.args.source.now)) c.read_pieces.ensures.texts
    c.in_err-taken.ensures.exact)

pub returns-in-Ok-clause-exact : goal.returns-in-Ok-clause-exact
returns-in-Ok-clause-exact g c =
    block_taken _ _ _ _ c.read_pieces.new.pieces c.in_ok-taken.taken c.args.draft.now c.take_pieces.new.draft
    (consumes_front (texts_of c.args.pieces.now) (left_of g.R.Read.remaining c.args.source.now))
    c.read_pieces.ensures.texts c.in_ok-taken.ensures.exact c.in-Ok.ensures.given

pub returns-in-Err-clause-exact : goal.returns-in-Err-clause-exact
returns-in-Err-clause-exact g c =
    refused_there (rows_of_bytes (prepend_known (texts_of c.args.pieces.now) (left_of g.R.Read.remaining c.args.source.now))) _ c.args.draft.now
    c.take_pieces.new.draft _ c.no_memory.ensures
    (block_left _ _ _ c.read_pieces.new.pieces c.in_ok-taken.taken c.args.draft.now c.take_pieces.new.draft
    (consumes_front (texts_of c.args.pieces.now) (left_of g.R.Read.remaining c.args.source.now))
    c.read_pieces.ensures.texts c.in_ok-taken.ensures.exact)

pub returns-in-Ok-clause-all : goal.returns-in-Ok-clause-all
returns-in-Ok-clause-all g c =
    λ whole. all_taken (left_of g.R.Read.remaining c.args.source.now) (left_of g.R.Read.remaining c.give_back.new.source) c.read_pieces.new.pieces
    c.in_ok-taken.taken c.in-Ok.ensures.given (eqb-true _ _ whole)
