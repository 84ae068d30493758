use Rattle.std.proofs.Common.{◌≡◌, ℕ, ◌==◌, cond, ◌++◌, ◌∷◌, [], length, sym, subst, ◌∙◌, ap, arith, Vec, Global}
use Rattle.std.proofs.lemmas.Bool.{eq-eqb, ne_eqb, cond-true, cond-false}
use Rattle.mrp_master_data.specs.declared.numbers.PairNo.{PairNo}
use Rattle.mrp_loops.proofs.Passing.{IsBegun}
use Rattle.mrp_loops.proofs.Steps.{begun_more, taken_none}
use Rattle.mrp_loops.proofs.taking.begin.Goals as goal
use Rattle.mrp_loops.proofs.taking.begin.Goals.{then-waiting-eq0+in_ok-push-2, else-waiting-eq0}

pub loop-x-preserved : goal.loop-x-preserved
loop-x-preserved c =
    let n = length c.demanders-waiting.result.now in
    let more = begun_more c.args.network.now c.loop-x.x n c.loop-x.queue.items c.loop-x.left.items c.loop-x.invariant.begun
    (ap length c.demanders-waiting.ensures.value) in
    let queue : c.if-waiting-eq0.queue.items ≡ cond (n == 0) (c.loop-x.queue.items ++ (record { 0 = c.loop-x.x }) ∷ []) c.loop-x.queue.items =
    elim c.if-waiting-eq0.branch [
      | then-waiting-eq0+in_ok-push-2 w ↦ ap (λ (v : Vec PairNo Global). v.items) w.queue-is
          ∙ (w.in_ok-push-2.ensures.items ∙ sym (cond-true (n == 0) _ _ (eq-eqb n 0 w.if-waiting-eq0.true)))
      | else-waiting-eq0 w ↦ ap (λ (v : Vec PairNo Global). v.items) w.queue-is ∙ sym (cond-false (n == 0) _ _ (ne_eqb n 0 w.if-waiting-eq0.false))
    ] in
    record { begun = rw (queue, c.in_ok-push.ensures.items) more; zeros = c.loop-x.invariant.zeros }

pub returns : goal.returns
returns c =
    let whole : c.loop-x.x ≡ length c.args.network.now.pairs = omega (arith, c.pairs-pairs.ensures.value) in
    taken_none c.args.network.now c.loop-x.queue.items c.loop-x.left.items c.in_ok-codes.codes.items c.pairs-pairs.ensures.table
    (subst (λ (n : ℕ). IsBegun c.args.network.now n c.loop-x.queue.items c.loop-x.left.items) whole c.loop-x.invariant.begun)
    (rw (← c.pairs-pairs.ensures.value) c.loop-x.invariant.zeros)
