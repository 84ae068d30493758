use Rattle.std.proofs.Common.{◌≡◌, ◌+◌, ℕ, List, ◌++◌, [], ◌∷◌, length, length-append, ap, sym, ◌∙◌, arith}
use Rattle.std.specs.Prelude.{vec_capacity}
use Rattle.mrp_record.specs.Entries.{Delivery}
use Rattle.mrp_record.specs.Text.{total}
use Rattle.mrp_net.specs.Shares.{share_of}
use Rattle.mrp_schedules.specs.declared.line.ScheduleLine.{ScheduleLine}
use Rattle.mrp_schedules.specs.declared.line.ScheduleLine.TheVariants.{Call}
use Rattle.mrp_schedules.specs.Calls.{call_lines, calls_by}
use Rattle.mrp_schedules.proofs.Periods as period
use Rattle.mrp_schedules.proofs.Periods.{share_in}
use Rattle.mrp_schedules.proofs.calls.add_calls_in.Goals as goal
use Rattle.mrp_schedules.proofs.calls.add_calls_in.Goals.{then-pieces-gt0, else-pieces-gt0}

pub of-requires-then-pieces-gt0 : goal.of-requires-then-pieces-gt0
of-requires-then-pieces-gt0 c =
    let low = c.args.low in
    let high = c.args.high in
    let row = c.args.release.now in
    let share : c.share_of-pieces.result ≡ share_in low high row c.loop-period.period =
    c.share_of-pieces.ensures.value ∙ ap (share_of low high) (c.get-in-loop-period.ensures.value ∙ c.get.ensures) in
    omega (
      arith,
      c.requires.small,
      c.loop-period.invariant.figure,
      period.next_total low high row c.loop-period.period c.args.to c.loop-period-test.true
          c.share_of-pieces.result share,
    )

pub loop-period-preserved : goal.loop-period-preserved
loop-period-preserved c =
    let low = c.args.low in
    let high = c.args.high in
    let row = c.args.release.now in
    let t : ℕ = c.loop-period.period in
    let to : ℕ = c.args.to in
    let before = c.loop-period.invariant in
    let within = c.loop-period-test.true in
    let share : c.share_of-pieces.result ≡ share_in low high row t = c.share_of-pieces.ensures.value
    ∙ ap (share_of low high) (c.get-in-loop-period.ensures.value ∙ c.get.ensures) in
    let more = period.next_total low high row t to within c.share_of-pieces.result share in
    elim c.if-pieces-gt0.branch [
      | then-pieces-gt0 w ↦
          let sofar = c.loop-period.lines.items in
          let line : ScheduleLine = Call t w.of.result w.of-then-pieces-gt0.result in
          let now : c.if-pieces-gt0.lines.items ≡ w.push_reserved.new.self.items = (cc) in
          let pushed : c.if-pieces-gt0.lines.items ≡ sofar ++ line ∷ [] = now ∙ w.push_reserved.ensures.items in
          let called = period.next_call low high row t to within c.loop-period.reached w.of.result w.of-then-pieces-gt0.result sofar c.if-pieces-gt0.lines.items
          (w.of.ensures ∙ share) (omega (arith, w.of.ensures, w.if-pieces-gt0.true)) (omega (arith, w.of.ensures, w.of-then-pieces-gt0.ensures)) pushed in
          let last : w.of-then-pieces-gt0.result ≡ c.if-pieces-gt0.reached = w.of-then-pieces-gt0.ensures ∙ sym w.reached-is in
          record {
            begun = omega (arith, before.begun);
            within = omega (arith, within);
            lines = before.lines ∙ called ∙ ap (λ (z : ℕ). c.if-pieces-gt0.lines.items ++ call_lines z (calls_by low high row (t + 1) to)) last;
            figure = omega (arith, before.figure, more, w.reached-is);
            room = omega (arith, before.room, within, ap length pushed, length-append sofar (line ∷ []));
            capacity = ap vec_capacity w.lines-is ∙ w.push_reserved.ensures.capacity ∙ before.capacity;
          }
      | else-pieces-gt0 w ↦
          let none = period.no_call low high row t to within c.share_of-pieces.result share (omega (arith, w.if-pieces-gt0.false)) in
          let rest = calls_by low high row (t + 1) to in
          let same : c.if-pieces-gt0.lines.items ≡ c.loop-period.lines.items = (cc) in
          record {
            begun = omega (arith, before.begun);
            within = omega (arith, within);
            lines = before.lines ∙ ap (λ (z : List Delivery). c.loop-period.lines.items ++ call_lines c.loop-period.reached z) none
                ∙ ap (λ (z : ℕ). c.loop-period.lines.items ++ call_lines z rest) (sym w.reached-is)
                ∙ ap (λ (z : List ScheduleLine). z ++ call_lines c.if-pieces-gt0.reached rest) (sym same);
            figure = omega (arith, before.figure, w.reached-is, ap total none);
            room = omega (arith, before.room, within, ap length same);
            capacity = ap vec_capacity w.lines-is ∙ before.capacity;
          }
    ]
