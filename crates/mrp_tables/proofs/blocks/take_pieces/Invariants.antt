use Rattle.std.proofs.Common.{◌+◌, ◌++◌, ℕ, List, Some, drop}
use Rattle.mrp_validation.specs.Left.{ReadsOn}
use Rattle.mrp_tables.specs.Bulk.{KeepsNames}
use Rattle.mrp_tables.specs.Drafts.{draft_state, IsDraftKept}
use Rattle.mrp_tables.specs.Lists.{IsDraft}
use Rattle.mrp_tables.specs.Pieces.{rows_in, texts_of}
use Rattle.mrp_tables.proofs.blocks.take_pieces.Given as goal

-- the pieces so far were taken
abbrev pub invariant-loop-k : goal.invariant-loop-k
invariant-loop-k l = record {
  draft : IsDraft l.draft;
  kept : IsDraftKept l.draft;
  names : KeepsNames l.fn.draft.lists l.draft.lists;
  goes :
      (tail : List ℕ) → ReadsOn (Some (rows_in (texts_of l.pieces ++ tail))) (Some (rows_in (texts_of (drop l.k l.pieces) ++ tail))) (l.fn.draft.rows + 1)
      (draft_state l.fn.draft) (l.draft.rows + 1) (draft_state l.draft);
}
