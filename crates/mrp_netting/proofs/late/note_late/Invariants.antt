use Rattle.std.proofs.Common.{◌≡◌, ◌≤◌, vec_len, vec_capacity}
use Rattle.mrp_netting.specs.PlanRows.{late_periods}
use Rattle.mrp_netting.proofs.late.note_late.Given as goal

-- the late periods before t, and room for the rest
abbrev pub invariant-loop-t : goal.invariant-loop-t
invariant-loop-t l = record {
  periods : l.late.items ≡ late_periods l.lead l.order l.t;
  count : vec_len l.late ≤ l.t;
  room : vec_capacity l.fn.late ≤ vec_capacity l.late;
}
