use Rattle.std.proofs.Common.{◌≡◌, ◌+◌}
use Rattle.mrp_validation.specs.Left.{GivesAll, ReadsOn, rows_left}
use Rattle.mrp_tables.specs.Drafts.{IsDraftKept, draft_state}
use Rattle.mrp_tables.specs.Lists.{IsDraft}
use Rattle.mrp_tables.proofs.reading.read_rest.Given as goal

-- each turn read one row, and the rows left make on with the table so far what all of them make
abbrev pub invariant-loop-number : goal.invariant-loop-number
invariant-loop-number g l = record {
  draft : IsDraft l.draft;
  limits : l.draft.lists.limits ≡ l.fn.draft.lists.limits;
  rows : l.draft.rows + 1 ≡ l.number;
  steps : l.steps + 2 ≡ l.fn.steps + l.number;
  gives : GivesAll l.rows;
  kept : IsDraftKept l.draft;
  goes : ReadsOn (rows_left g.R.Read.remaining l.fn.rows) (rows_left g.R.Read.remaining l.rows) 2 (draft_state l.fn.draft) l.number (draft_state l.draft);
}
