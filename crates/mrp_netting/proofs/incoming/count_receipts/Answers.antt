use Rattle.std.proofs.Common.{◌≡◌, ℕ, ◌+◌, List, length, slice_index, slice_set, ◌∙◌, ap, arith, get_or-set_other}
use Rattle.std.proofs.lemmas.List.{length-set}
use Rattle.std.proofs.lemmas.List.Edits.{fill_by_more}
use Rattle.std.proofs.lemmas.List.FromFn.{fill_by_all}
use Rattle.mrp_netting.specs.PlanningData.{incoming_at}
use Rattle.mrp_netting.specs.PlanningBound.{data_of}
use Rattle.mrp_netting.proofs.ReceiptLaws.{incoming_at-le}
use Rattle.mrp_netting.proofs.incoming.count_receipts.Goals as goal

pub of-requires : goal.of-requires
of-requires c =
    let d = data_of c.args.given.now c.args.gross.now in
    omega (arith, c.count-counted.ensures.value, incoming_at-le d c.loop-t.t c.requires.within (omega arith))

pub add-requires-clause-within : goal.add-requires-clause-within
add-requires-clause-within c =
    let d = data_of c.args.given.now c.args.gross.now in
    omega (
      arith,
      c.count-counted.ensures.value,
      c.get-in-loop-t.ensures.value,
      incoming_at-le d c.loop-t.t c.requires.within (omega arith),
    )

pub loop-t-preserved : goal.loop-t-preserved
loop-t-preserved c =
    let d = data_of c.args.given.now c.args.gross.now in
    let t = c.loop-t.t in
    let row = c.loop-t.incoming in
    let inv = c.loop-t.invariant in
    let here : slice_index row t + c.of.result ≡ incoming_at d t =
    omega (arith, c.count-counted.ensures.value, c.get-in-loop-t.ensures.value) in
    let written : c.add.new.self ≡ slice_set row t (incoming_at d t) = c.add.ensures ∙ ap (λ (q : ℕ). slice_set row t q) here in
    record {
      sums = c.count-counted.ensures.after;
      done = λ k h. ap (λ (xs : List ℕ). slice_index xs k) written ∙ fill_by_more (incoming_at d) row t 0 (omega (arith, inv.size)) inv.done k h;
      rest = λ k h. ap (λ (xs : List ℕ). slice_index xs k) written
          ∙ get_or-set_other row t k (incoming_at d t) 0 (λ e. absurd (omega arith)) ∙ inv.rest k (omega arith);
      size = ap length written ∙ length-set row t _ ∙ inv.size;
    }

pub returns : goal.returns
returns c =
    let d = data_of c.args.given.now c.args.gross.now in
    let inv = c.loop-t.invariant in
    fill_by_all (incoming_at d) c.loop-t.incoming (length c.args.gross.now) 0 inv.size (λ k h. inv.done k (omega arith))
