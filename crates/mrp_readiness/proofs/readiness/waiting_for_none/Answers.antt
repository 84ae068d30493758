use Rattle.std.proofs.Common.{◌≡◌, ℕ, ◌+◌, List, length, ap, sym, ◌∙◌, subst, arith}
use Rattle.mrp_readiness.specs.Chosen.{Chosen}
use Rattle.mrp_readiness.proofs.Listing.{WaitForNone, WaitForNone-more, WaitForNone-same}
use Rattle.mrp_readiness.proofs.readiness.waiting_for_none.Goals as goal
use Rattle.mrp_readiness.proofs.readiness.waiting_for_none.Goals.{then-count-eq0, else-count-eq0}

pub loop-x-preserved : goal.loop-x-preserved
loop-x-preserved c =
    let i : ℕ = c.loop-x.x in
    let waits = c.args.waits.now in
    elim c.if-count-eq0.branch [
      | then-count-eq0 w ↦ record {
        numbers = ap (λ (s : Chosen). s.numbers) w.ready-is ∙ w.insert.ensures.numbers ∙ c.loop-x.invariant.numbers;
        gone = ap (λ (s : Chosen). s.gone) w.ready-is ∙ w.insert.ensures.gone ∙ c.loop-x.invariant.gone;
        free = subst (λ (places : List ℕ). WaitForNone places waits (i + 1)) (sym (ap (λ (s : Chosen). s.places) w.ready-is ∙ w.insert.ensures.added))
            (WaitForNone-more c.loop-x.ready.places waits i c.loop-x.invariant.free w.if-count-eq0.true);
      }
      | else-count-eq0 w ↦ record {
        numbers = ap (λ (s : Chosen). s.numbers) w.ready-is ∙ c.loop-x.invariant.numbers;
        gone = ap (λ (s : Chosen). s.gone) w.ready-is ∙ c.loop-x.invariant.gone;
        free = subst (λ (places : List ℕ). WaitForNone places waits (i + 1)) (sym (ap (λ (s : Chosen). s.places) w.ready-is))
            (WaitForNone-same c.loop-x.ready.places waits i c.loop-x.invariant.free w.if-count-eq0.false);
      }
    ]

pub returns-clause-exact : goal.returns-clause-exact
returns-clause-exact c =
    let end : c.loop-x.x ≡ length c.args.waits.now = omega arith in
    subst (λ (n : ℕ). WaitForNone c.loop-x.ready.places c.args.waits.now n) end c.loop-x.invariant.free
