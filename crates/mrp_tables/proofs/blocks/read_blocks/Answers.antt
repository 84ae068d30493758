use Rattle.std.proofs.Common.{◌+◌}
use Rattle.mrp_validation.proofs.KeepingSteps.{handed_on}
use Rattle.mrp_validation.proofs.Loop.{goes_nowhere, goes_on_on}
use Rattle.mrp_tables.specs.Drafts.{draft_state}
use Rattle.mrp_tables.specs.Pieces.{rows_of_bytes}
use Rattle.mrp_tables.specs.Sources.{left_of}
use Rattle.mrp_tables.proofs.BlockFacts.{fault_then}
use Rattle.mrp_tables.proofs.blocks.read_blocks.Goals as goal
use Rattle.std.proofs.Common.{◌∙◌, refl}

pub turns-init : goal.turns-init
turns-init g c = record {
  draft = c.requires.draft;
  kept = c.requires.kept;
  limits = refl;
  goes = goes_nowhere (rows_of_bytes (left_of g.R.Read.remaining c.args.source.now)) (c.args.draft.now.rows + 1) (draft_state c.args.draft.now);
}

pub turns-preserved : goal.turns-preserved
turns-preserved g c = record {
  draft = c.in_ok-read_some.ensures.draft;
  kept = c.in_ok-read_some.ensures.kept;
  limits = c.in_ok-read_some.ensures.limits ∙ c.turns.invariant.limits;
  goes = goes_on_on (rows_of_bytes (left_of g.R.Read.remaining c.args.source.now)) (rows_of_bytes (left_of g.R.Read.remaining c.turns.source))
      (rows_of_bytes (left_of g.R.Read.remaining c.read_some.new.source)) (c.args.draft.now.rows + 1) (c.turns.draft.rows + 1)
      (c.read_some.new.draft.rows + 1) (draft_state c.args.draft.now) (draft_state c.turns.draft) (draft_state c.read_some.new.draft)
      c.turns.invariant.goes c.in_ok-read_some.ensures.exact;
}

pub returns-in_err-read_some-clause-exact : goal.returns-in_err-read_some-clause-exact
returns-in_err-read_some-clause-exact g c =
    rw (handed_on c.from_residual.result _ c.from_residual.ensures.1)
    (fault_then (rows_of_bytes (left_of g.R.Read.remaining c.args.source.now)) (rows_of_bytes (left_of g.R.Read.remaining c.turns.source))
    (c.args.draft.now.rows + 1) (c.turns.draft.rows + 1) (draft_state c.args.draft.now) (draft_state c.turns.draft) _ c.turns.invariant.goes
    c.in_err-read_some.ensures.exact)

pub returns-then-not-branch-clause-exact : goal.returns-then-not-branch-clause-exact
returns-then-not-branch-clause-exact g c =
    goes_on_on (rows_of_bytes (left_of g.R.Read.remaining c.args.source.now)) (rows_of_bytes (left_of g.R.Read.remaining c.turns.source))
    (rows_of_bytes (left_of g.R.Read.remaining c.read_some.new.source)) (c.args.draft.now.rows + 1) (c.turns.draft.rows + 1)
    (c.read_some.new.draft.rows + 1) (draft_state c.args.draft.now) (draft_state c.turns.draft) (draft_state c.read_some.new.draft)
    c.turns.invariant.goes c.in_ok-read_some.ensures.exact

pub returns-clause-exact : goal.returns-clause-exact
returns-clause-exact g c = c.turns.invariant.goes

pub returns-in_err-read_some-clause-limits : goal.returns-in_err-read_some-clause-limits
returns-in_err-read_some-clause-limits g c = rw (handed_on c.from_residual.result _ c.from_residual.ensures.1) tt

pub returns-then-not-branch-clause-limits : goal.returns-then-not-branch-clause-limits
returns-then-not-branch-clause-limits g c = c.in_ok-read_some.ensures.limits ∙ c.turns.invariant.limits
