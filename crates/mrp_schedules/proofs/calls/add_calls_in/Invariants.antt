use Rattle.std.proofs.Common.{◌≡◌, ◌+◌, ◌-◌, ◌≤◌, ◌++◌, length}
use Rattle.std.specs.Prelude.{vec_capacity}
use Rattle.mrp_record.specs.Text.{total}
use Rattle.mrp_schedules.specs.Calls.{call_lines, calls_by}
use Rattle.mrp_schedules.proofs.calls.add_calls_in.Given as goal

-- the lines so far and those of the periods to come make the whole, and so do the figure reached and their pieces
abbrev pub invariant-loop-period : goal.invariant-loop-period
invariant-loop-period l = record {
  begun : l.from ≤ l.period;
  within : l.period ≤ l.to;
  lines : l.fn.lines.items ++ call_lines l.figure (calls_by l.low l.high l.release l.from l.to)
      ≡ l.lines.items ++ call_lines l.reached (calls_by l.low l.high l.release l.period l.to);
  figure : l.reached + total (calls_by l.low l.high l.release l.period l.to) ≡ l.figure + total (calls_by l.low l.high l.release l.from l.to);
  room : length l.lines.items + (l.to - l.period) ≤ length l.fn.lines.items + (l.to - l.from);
  capacity : vec_capacity l.lines ≡ vec_capacity l.fn.lines;
}
