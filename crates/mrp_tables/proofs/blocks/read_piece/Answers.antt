use Rattle.std.proofs.Common.{◌+◌, Ok, Err, Result}
use Rattle.std.specs.Io.KnownBytes.{prepend_known}
use Rattle.mrp_tables.specs.Drafts.{draft_state}
use Rattle.mrp_tables.specs.Pieces.{rows_of_bytes}
use Rattle.mrp_tables.specs.Sources.{left_of}
use Rattle.mrp_tables.proofs.BlockFacts.{given_again, piece_taken, refused_here}
use Rattle.mrp_tables.proofs.SourceFacts.{consumes_front}
use Rattle.mrp_validation.specs.declared.fault.TableFault.{TableFault}
use Rattle.mrp_validation.proofs.KeepingSteps.{handed_on}
use Rattle.mrp_tables.proofs.blocks.read_piece.Goals as goal

pub returns-in_err-read_text-clause-exact : goal.returns-in_err-read_text-clause-exact
returns-in_err-read_text-clause-exact g c =
    rw (handed_on c.from_residual.result _ c.from_residual.ensures.1)
    (piece_taken _ _ c.args.text.now c.args.draft.now c.read_text.new.draft (let r : Result (Unit {0}) TableFault = Err c.in_err-read_text.field-0.0 in r)
    (consumes_front c.args.text.now (left_of g.R.Read.remaining c.args.source.now)) (c.is_plain.ensures c.if-is_plain.true)
    c.in_err-read_text.ensures.exact)

pub returns-then-is_plain-clause-exact : goal.returns-then-is_plain-clause-exact
returns-then-is_plain-clause-exact g c =
    piece_taken _ _ c.args.text.now c.args.draft.now c.read_text.new.draft (let r : Result (Unit {0}) TableFault = Ok (tt {0}) in r)
    (consumes_front c.args.text.now (left_of g.R.Read.remaining c.args.source.now)) (c.is_plain.ensures c.if-is_plain.true)
    c.in_ok-read_text.ensures.exact

pub returns-in-Ok-clause-exact : goal.returns-in-Ok-clause-exact
returns-in-Ok-clause-exact g c =
    given_again _ (left_of g.R.Read.remaining c.args.source.now)
    (left_of g.R.Read.remaining c.give_back.new.self) c.args.text.now (consumes_front c.args.text.now (left_of g.R.Read.remaining c.args.source.now))
    c.in-Ok.ensures.given (c.args.draft.now.rows + 1) (draft_state c.args.draft.now)

pub returns-in-Err-clause-exact : goal.returns-in-Err-clause-exact
returns-in-Err-clause-exact g c =
    refused_here (rows_of_bytes (prepend_known c.args.text.now (left_of g.R.Read.remaining c.args.source.now))) c.args.draft.now _ c.no_memory.ensures
