use Rattle.std.proofs.Common.{◌≤◌, ℕ, ◌++◌, length, ap, subst, ◌∙◌, arith}
use Rattle.std.specs.Prelude.{IfSome, Option}
use Rattle.mrp_record.specs.Text.{total}
use Rattle.mrp_schedules.specs.Calls.{call_lines, calls_by}
use Rattle.mrp_schedules.proofs.Periods as period
use Rattle.mrp_schedules.proofs.calls.add_calls.Goals as goal

pub returns-in_default-clause-lines : goal.returns-in_default-clause-lines
returns-in_default-clause-lines c item =
    let row = c.args.release.now in
    let first = c.args.lines.now.items in
    period.appended c.args.low c.args.high row (length row) item c.args.figure c.args.reset first c.add_calls_in.new.lines.items c.in_default.is
    (c.add_calls_in.ensures.lines ∙ ap (λ (n : ℕ). first ++ call_lines c.args.figure (calls_by c.args.low c.args.high row 0 n)) c.len-periods.ensures.value)

pub add_calls_in-closed-requires-clause-small : goal.add_calls_in-closed-requires-clause-small
add_calls_in-closed-requires-clause-small c =
    let row = c.args.release.now in
    let within : c.in-Some.from ≤ length row = subst (λ (r : Option ℕ). IfSome r (λ from. from ≤ length row)) c.in-Some.is c.requires.reset in
    omega (arith, c.requires.small, period.parted c.args.low c.args.high row c.in-Some.from (length row) within)

pub of-requires : goal.of-requires
of-requires c =
    let row = c.args.release.now in
    let within : c.in-Some.from ≤ length row = subst (λ (r : Option ℕ). IfSome r (λ from. from ≤ length row)) c.in-Some.is c.requires.reset in
    omega (arith, c.requires.small, c.add_calls_in-closed.ensures.figure, period.parted c.args.low c.args.high row c.in-Some.from (length row) within)

pub add_calls_in-requires-2-clause-small : goal.add_calls_in-requires-2-clause-small
add_calls_in-requires-2-clause-small c =
    let row = c.args.release.now in
    let within : c.in-Some.from ≤ length row = subst (λ (r : Option ℕ). IfSome r (λ from. from ≤ length row)) c.in-Some.is c.requires.reset in
    let last = ap (λ (n : ℕ). total (calls_by c.args.low c.args.high row c.in-Some.from n)) c.len-periods.ensures.value in
    omega (arith, c.requires.small, last, period.parted c.args.low c.args.high row c.in-Some.from (length row) within)

pub returns-clause-lines : goal.returns-clause-lines
returns-clause-lines c item =
    let row = c.args.release.now in
    let from : ℕ = c.in-Some.from in
    let within : from ≤ length row = subst (λ (r : Option ℕ). IfSome r (λ from. from ≤ length row)) c.in-Some.is c.requires.reset in
    let third = c.push_reserved.new.self.items in
    period.anew_appended c.args.low c.args.high row from (length row) item c.args.figure c.of.result c.args.reset c.args.lines.now.items
    c.add_calls_in-closed.new.lines.items third c.add_calls_in-2.new.lines.items
    c.in-Some.is within c.add_calls_in-closed.ensures.lines c.push_reserved.ensures.items
    (c.add_calls_in-2.ensures.lines ∙ ap (λ (n : ℕ). third ++ call_lines 0 (calls_by c.args.low c.args.high row from n)) c.len-periods.ensures.value)
    (c.of.ensures ∙ c.add_calls_in-closed.ensures.figure)
