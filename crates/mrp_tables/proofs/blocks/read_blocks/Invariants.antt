use Rattle.std.proofs.Common.{◌≡◌, ◌+◌}
use Rattle.mrp_validation.specs.Left.{ReadsOn}
use Rattle.mrp_tables.specs.Drafts.{draft_state, IsDraftKept}
use Rattle.mrp_tables.specs.Lists.{IsDraft}
use Rattle.mrp_tables.specs.Pieces.{rows_of_bytes}
use Rattle.mrp_tables.specs.Sources.{left_of}
use Rattle.mrp_tables.proofs.blocks.read_blocks.Given as goal

-- the rows left make on with the table so far what all of them make
abbrev pub invariant-turns : goal.invariant-turns
invariant-turns g l = record {
  draft : IsDraft l.draft;
  kept : IsDraftKept l.draft;
  limits : l.draft.lists.limits ≡ l.fn.draft.lists.limits;
  goes : ReadsOn (rows_of_bytes (left_of g.R.Read.remaining l.fn.source)) (rows_of_bytes (left_of g.R.Read.remaining l.source)) (l.fn.draft.rows + 1)
      (draft_state l.fn.draft) (l.draft.rows + 1) (draft_state l.draft);
}
