use Rattle.std.proofs.Common.{◌≡◌, ℕ, ◌+◌, true, false, length, slice_index, slice_set, List, ap, ◌∙◌, arith}
use Rattle.std.proofs.lemmas.List.{length-set}
use Rattle.std.proofs.lemmas.List.Edits.{fill_by_more}
use Rattle.mrp_netting.specs.PlanningBound.{data_of}
use Rattle.mrp_netting.proofs.RowSums.{sum_take-most, sum_take-next}
use Rattle.mrp_advice.specs.Lacking.{lacking}
use Rattle.mrp_advice.proofs.LackFacts.{IsLack, lack_step}
use Rattle.mrp_advice.proofs.lacks.find_both.Goals as goal
use Rattle.mrp_advice.proofs.lacks.find_both.Goals.{After-max-short}

-- what this period lacks
lacks_here : (c : After-max-short) → IsLack (data_of c.args.given.now c.args.gross.now) c.periods.t (c.periods.could + c.pieces_at-could.result)
    (c.periods.asked + c.quantity_at-asked.result) (c.periods.has + (c.pieces_at.result + c.pieces_at-in-periods.result)) c.max-short.result
lacks_here c =
    lack_step (data_of c.args.given.now c.args.gross.now) c.periods.t c.periods.could c.periods.asked c.periods.has c.periods.short _ _ _ _
    c.periods.invariant.count (omega arith) (omega arith) (omega arith) (omega arith)

pub overflow_add-has-in-periods : goal.overflow_add-has-in-periods
overflow_add-has-in-periods c =
    let arrivals = c.args.given.now.arrivals.now in
    let firm_due = c.args.given.now.firm_due.now in
    let t = c.periods.t in
    omega (
      arith,
      c.periods.invariant.count.has_is,
      c.pieces_at.ensures,
      c.pieces_at-in-periods.ensures,
      sum_take-next arrivals t,
      sum_take-most arrivals (t + 1),
      sum_take-next firm_due t,
      sum_take-most firm_due (t + 1),
      c.requires.within.total,
    )

pub of-requires : goal.of-requires
of-requires c =
    let is = lacks_here (goal.at.of-requires c).After-max-short in
    let d = data_of c.args.given.now c.args.gross.now in
    omega (arith, is.next.asked_is, sum_take-most d.gross (c.periods.t + 1 + d.policy.cover), c.requires.within.total)

pub overflow_add-on_hand : goal.overflow_add-on_hand
overflow_add-on_hand c =
    let is = lacks_here (goal.at.overflow_add-on_hand c).After-max-short in
    let d = data_of c.args.given.now c.args.gross.now in
    omega (arith, is.next.could_is, sum_take-most d.receipts (c.periods.t + 1 + d.policy.sooner), c.requires.within.total)

pub of-requires-in-periods : goal.of-requires-in-periods
of-requires-in-periods c =
    let is = lacks_here (goal.at.of-requires-in-periods c).After-max-short in
    let d = data_of c.args.given.now c.args.gross.now in
    omega (arith, is.next.asked_is, sum_take-most d.gross (c.periods.t + 1 + d.policy.cover), c.requires.within.total)

pub periods-preserved : goal.periods-preserved
periods-preserved c =
    let d = data_of c.args.given.now c.args.gross.now in
    let t = c.periods.t in
    let inv = c.periods.invariant in
    let is = lacks_here (goal.at.periods-preserved c).After-max-short in
    let receipts : c.set.new.self ≡ slice_set c.periods.lacks.receipts t (lacking d true t) =
    c.set.ensures ∙ ap (λ (q : ℕ). slice_set c.periods.lacks.receipts t q) (omega (arith, is.receipts)) in
    let others : c.set-in-periods.new.self ≡ slice_set c.periods.lacks.others t (lacking d false t) =
    c.set-in-periods.ensures ∙ ap (λ (q : ℕ). slice_set c.periods.lacks.others t q) (omega (arith, is.others)) in
    record {
      count = is.next;
      receipts = λ k h. ap (λ (xs : List ℕ). slice_index xs k) receipts
          ∙ fill_by_more (lacking d true) c.periods.lacks.receipts t 0 (omega (arith, inv.room.receipts)) inv.receipts k h;
      others = λ k h. ap (λ (xs : List ℕ). slice_index xs k) others
          ∙ fill_by_more (lacking d false) c.periods.lacks.others t 0 (omega (arith, inv.room.others)) inv.others k h;
      room = record {
        receipts = ap length receipts ∙ length-set c.periods.lacks.receipts t _ ∙ inv.room.receipts;
        others = ap length others ∙ length-set c.periods.lacks.others t _ ∙ inv.room.others;
      };
    }
