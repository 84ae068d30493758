use Rattle.std.proofs.Common.{drop}
use Rattle.mrp_tables.specs.Bulk.{KeepsNames}
use Rattle.mrp_tables.specs.Drafts.{IsDraftKept}
use Rattle.mrp_tables.specs.Lists.{IsDraft}
use Rattle.mrp_tables.specs.Pieces.{rows_in}
use Rattle.mrp_tables.proofs.PieceFacts.{TakenSo}
use Rattle.mrp_tables.proofs.pieces.Piece.take_into.Given as goal

-- the rows so far were taken
abbrev pub invariant-rows : goal.invariant-rows
invariant-rows l = record {
  draft : IsDraft l.draft;
  kept : IsDraftKept l.draft;
  names : KeepsNames l.fn.draft.lists l.draft.lists;
  taken : TakenSo (rows_in l.self.text.items) l.fn.draft l.draft (drop l.row-index l.self.said.items);
}
