use Rattle.std.proofs.Common.{◌≡◌, ◌∙◌, ℕ, ap, arith, length, slice_index}
use Rattle.mrp_net.specs.Shares.{share_of}
use Rattle.mrp_protocol.proofs.Delivered.{by_period_length}
use Rattle.mrp_world.proofs.Counts as count
use Rattle.mrp_world.proofs.Carrying.{from_the_first, next_of, none_after}
use Rattle.mrp_world.proofs.carried.called_by.Goals as goal
use Rattle.mrp_world.proofs.carried.called_by.Goals.{then-share-gt0, else-share-gt0}

pub loop-period-init : goal.loop-period-init
loop-period-init c =
    let f = λ (t : ℕ). share_of c.args.source.low c.args.source.high (slice_index c.args.release.now t) in record {
      lines = omega arith;
      pieces = omega (arith, from_the_first f (length c.args.release.now));
    }

pub overflow_add-lines : goal.overflow_add-lines
overflow_add-lines c =
    omega (
      arith,
      c.loop-period.invariant.lines,
      by_period_length (λ t. share_of c.args.source.low c.args.source.high (slice_index c.args.release.now t))
          c.loop-period.period,
    )

pub overflow_add-pieces : goal.overflow_add-pieces
overflow_add-pieces c =
    let row = c.args.release.now in
    let f = λ (t : ℕ). share_of c.args.source.low c.args.source.high (slice_index row t) in
    let t : ℕ = c.loop-period.period in
    let share : c.share_of-share.result ≡ f t = c.share_of-share.ensures.value
    ∙ ap (share_of c.args.source.low c.args.source.high) (c.get-in-loop-period.ensures.value ∙ c.get.ensures) in
    omega (arith, share, c.requires.within, c.loop-period.invariant.pieces, next_of f (length row) t (omega arith))

pub loop-period-preserved : goal.loop-period-preserved
loop-period-preserved c =
    let row = c.args.release.now in
    let f = λ (t : ℕ). share_of c.args.source.low c.args.source.high (slice_index row t) in
    let t : ℕ = c.loop-period.period in
    let share : c.share_of-share.result ≡ f t = c.share_of-share.ensures.value
    ∙ ap (share_of c.args.source.low c.args.source.high) (c.get-in-loop-period.ensures.value ∙ c.get.ensures) in
    let next = next_of f (length row) t (omega arith) in
    elim c.if-share-gt0.branch [
      | then-share-gt0 w ↦ record {
        lines = omega (arith, w.lines-is, c.loop-period.invariant.lines, share, count.one_call f t (omega (arith, share, w.if-share-gt0.true)));
        pieces = omega (arith, w.pieces-is, c.loop-period.invariant.pieces, share, next);
      }
      | else-share-gt0 w ↦ record {
        lines = omega (arith, w.lines-is, c.loop-period.invariant.lines, share, count.no_call f t (omega (arith, share, w.if-share-gt0.false)));
        pieces = omega (arith, w.pieces-is, c.loop-period.invariant.pieces, share, w.if-share-gt0.false, next);
      }
    ]

pub returns-clause-pieces : goal.returns-clause-pieces
returns-clause-pieces c =
    let row = c.args.release.now in
    let f = λ (t : ℕ). share_of c.args.source.low c.args.source.high (slice_index row t) in
    omega (arith, c.loop-period.invariant.pieces, none_after f (length row) c.loop-period.period (omega arith))
