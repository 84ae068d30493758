use Rattle.std.proofs.Common.{ap, sym}
use Rattle.mrp_net.specs.declared.lane.Lane.{Lane}
use Rattle.mrp_world.proofs.Looks as look
use Rattle.mrp_world.proofs.Steps as step
use Rattle.mrp_agent.specs.InNetwork.{ShowsAgent}
use Rattle.mrp_run_tests.proofs.Handing as hand
use Rattle.mrp_run_tests.proofs.tests.agents.hands.next_out.Goals as goal

pub next_out-requires : goal.next_out-requires
next_out-requires c = record {
  lane = look.may_ask ShowsAgent _ _ _ _ _ _ (hand.somewhere c.requires.alone.run) c.requires.lane (step.sender_within _ _ c.lane.ensures.plants)
      (ap (λ (lane : Lane). lane.sender.0) (sym c.lane.ensures.value)) c.index-agents-sender.is;
}
