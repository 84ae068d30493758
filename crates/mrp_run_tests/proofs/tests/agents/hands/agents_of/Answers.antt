use Rattle.std.proofs.Common.{◌≡◌, ◌+◌, ◌++◌, ◌∷◌, [], length, ap, subst, sym, ◌∙◌, arith, length-append}
use Rattle.mrp_master_data.specs.Table.{Table}
use Rattle.mrp_loops.specs.Sized.{IsSized}
use Rattle.mrp_world.proofs.Makes as make
use Rattle.mrp_agent.specs.InNetwork.{ShowsAgent}
use Rattle.mrp_run_tests.specs.Hands.{AreAlone}
use Rattle.mrp_run_tests.proofs.Handing as hand
use Rattle.mrp_run_tests.proofs.tests.agents.hands.agents_of.Goals as goal

pub loop-p-preserved : goal.loop-p-preserved
loop-p-preserved c =
    let grown = c.in_ok-push.ensures.items in
    let size : length (c.loop-p.agents.items ++ c.in_ok-agent.agent ∷ []) ≡ c.loop-p.p + 1 =
    omega (arith, c.loop-p.invariant.size, length-append c.loop-p.agents.items (c.in_ok-agent.agent ∷ [])) in
    record {
      size = ap length grown ∙ size;
      each = make.plants_more ShowsAgent _ _ _ _ _ c.loop-p.invariant.size grown c.loop-p.invariant.each
          (c.in_ok-agent.ensures.opens _ _ (subst IsSized (sym c.network-network.ensures.value) c.network-network.ensures.sized)
          (omega (arith, c.loop-p-test.true, c.plants-p-end.ensures)) c.in_ok-view.ensures);
    }

pub returns : goal.returns
returns c =
    let is = c.network-network.ensures.value in
    subst (λ (N : Table). AreAlone N c.loop-p.agents.items) is
    (hand.opened _ _ (subst IsSized (sym is) c.network-network.ensures.sized)
    (omega (arith, c.loop-p.invariant.size, c.loop-p-test.false, c.loop-p.auto.p-end, c.plants-p-end.ensures))
    c.loop-p.invariant.each)
