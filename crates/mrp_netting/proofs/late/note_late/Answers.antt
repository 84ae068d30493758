use Rattle.std.proofs.Common.{◌≡◌, ℕ, ◌+◌, ◌<◌, subst, List, [], ◌∷◌, ◌++◌, length, slice_index, vec_len, sym, ◌∙◌, ap, arith}
use Rattle.std.proofs.lemmas.Bool.{cond-true}
use Rattle.std.proofs.lemmas.List.{get_or_read}
use Rattle.mrp_netting.proofs.Lates.{late_more, late_same, late_end}
use Rattle.mrp_netting.proofs.late.note_late.Goals as goal
use Rattle.mrp_netting.proofs.late.note_late.Goals.{then-is_order, else-is_order}

pub loop-t-preserved : goal.loop-t-preserved
loop-t-preserved c =
    let order = c.args.order.now in
    let t = c.loop-t.t in
    let here = get_or_read order t _ (omega (arith, c.min-end.ensures)) c.index-order-t.is 0 in
    let inv = c.loop-t.invariant in
    let late = c.loop-t.late in
    elim c.if-is_order.branch [
      | then-is_order w ↦
          let ok = w.push.ensures.succeeds (omega (arith, c.requires.room, c.min-end.ensures)) in
          let items = w.push.ensures.items ∙ cond-true _ (late.items ++ t ∷ []) late.items ok in
          let len = w.push.ensures.len ∙ cond-true _ (vec_len late + 1) (vec_len late) ok in
          let more = late_more c.args.lead order t (omega (arith, c.min-end.ensures)) (subst (λ (q : ℕ). 0 < q) here w.if-is_order.ensures) in
          rw w.late-is (record {
            periods = items ∙ ap (λ (xs : List ℕ). xs ++ t ∷ []) inv.periods ∙ sym more;
            count = omega (arith, len);
            room = omega (arith, w.push.ensures.capacity);
          })
      | else-is_order w ↦
          let none : slice_index order t ≡ 0 = sym here ∙ w.if-is_order.ensures in
          let same = late_same c.args.lead order t none in
          rw w.late-is (record {
            periods = inv.periods ∙ sym same;
            count = omega arith;
            room = inv.room;
          })
    ]

pub returns-clause-periods : goal.returns-clause-periods
returns-clause-periods c =
    c.loop-t.invariant.periods
    ∙ late_end c.args.lead c.args.order.now c.loop-t.t (length c.args.order.now) (omega (arith, c.min-end.ensures))
