use Rattle.std.proofs.Common.{ap, sym}
use Rattle.mrp_net.specs.declared.lane.Lane.{Lane}
use Rattle.mrp_world.proofs.Steps as step
use Rattle.mrp_agent.specs.InNetwork.{ShowsAgent}
use Rattle.mrp_run_tests.proofs.Handing as hand
use Rattle.mrp_run_tests.proofs.tests.agents.hands.send.Goals as goal

pub send-requires : goal.send-requires
send-requires c = let known = step.sender_within _ _ c.lane.ensures.plants in
    record {
      lane = step.may_send ShowsAgent _ _ _ _ _ _ (hand.somewhere c.requires.alone.run) c.requires.lane known
          (ap (λ (lane : Lane). lane.sender.0) (sym c.lane.ensures.value));
    }

pub returns-in-Some-clause-some : goal.returns-in-Some-clause-some
returns-in-Some-clause-some c = let known = step.sender_within _ _ c.lane.ensures.plants in
    hand.sent _ _ _ _ _ _ _ c.requires.lane known (ap (λ (lane : Lane). lane.sender.0) (sym c.lane.ensures.value)) c.requires.alone c.in-Some.ensures.next
    c.in-Some.ensures.sent
