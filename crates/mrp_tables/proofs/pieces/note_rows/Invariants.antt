use Rattle.mrp_validation.specs.Left.{GivesAll, rows_left}
use Rattle.mrp_tables.specs.Pieces.{HaveSaid}
use Rattle.mrp_tables.proofs.pieces.note_rows.Given as goal

-- the rows so far said what was noted
abbrev pub invariant-rows : goal.invariant-rows
invariant-rows g l = record {
  gives : GivesAll l.rows;
  said : HaveSaid l.draft.lists (rows_left g.R.Read.remaining l.fn.rows) (rows_left g.R.Read.remaining l.rows) l.said.items;
}
