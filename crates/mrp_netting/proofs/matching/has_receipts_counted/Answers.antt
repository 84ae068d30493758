use Rattle.std.proofs.Common.{◌≡◌, length, slice_index, refl, arith}
use Rattle.std.proofs.lemmas.Bool.{false≢true}
use Rattle.std.proofs.lemmas.List.{get_or_read}
use Rattle.std.proofs.lemmas.List.FromFn.{fill_by_all}
use Rattle.mrp_netting.specs.PlanningData.{incoming_at}
use Rattle.mrp_netting.specs.PlanningBound.{data_of}
use Rattle.mrp_netting.proofs.Compared.{row_reads}
use Rattle.mrp_netting.proofs.Matched.{below_next}
use Rattle.mrp_netting.proofs.ReceiptLaws.{incoming_at-le}
use Rattle.mrp_netting.proofs.matching.has_receipts_counted.Goals as goal

pub overflow_add-others-in-loop-t : goal.overflow_add-others-in-loop-t
overflow_add-others-in-loop-t c =
    let d = data_of c.args.given.now c.args.gross.now in
    omega (arith, c.count.ensures.value, incoming_at-le d c.loop-t.t c.requires.within (omega (arith, c.requires.len)))

pub returns-then-get-others : goal.returns-then-get-others
returns-then-get-others c =
    let d = data_of c.args.given.now c.args.gross.now in
    let t = c.loop-t.t in
    let here = get_or_read c.args.incoming.now t _ (omega arith) c.index-incoming-t.is 0 in (
      λ no_. absurd (false≢true no_),
      λ is.
          let read = row_reads (incoming_at d) c.args.incoming.now (length c.args.gross.now) t is (omega (arith, c.requires.len)) in
          absurd (omega (arith, here, read, c.get.ensures.value, c.count.ensures.value)),
    )

pub loop-t-preserved : goal.loop-t-preserved
loop-t-preserved c =
    let d = data_of c.args.given.now c.args.gross.now in
    let t = c.loop-t.t in
    let here = get_or_read c.args.incoming.now t _ (omega arith) c.index-incoming-t.is 0 in
    record {
      sums = c.count.ensures.after;
      same = below_next (λ k. slice_index c.args.incoming.now k ≡ incoming_at d k) t c.loop-t.invariant.same
          (omega (arith, here, c.get.ensures.value, c.count.ensures.value));
    }

pub returns : goal.returns
returns c = (
  λ yes. fill_by_all (incoming_at (data_of c.args.given.now c.args.gross.now)) c.args.incoming.now (length c.args.gross.now) 0 c.requires.len
      (λ k h. c.loop-t.invariant.same k (omega arith)),
  λ is. refl,
)
