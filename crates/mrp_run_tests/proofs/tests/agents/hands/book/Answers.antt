use Rattle.std.proofs.Common.{ap, sym}
use Rattle.mrp_net.specs.declared.lane.Lane.{Lane}
use Rattle.mrp_world.proofs.Steps as step
use Rattle.mrp_agent.specs.InNetwork.{ShowsAgent}
use Rattle.mrp_run_tests.proofs.Handing as hand
use Rattle.mrp_run_tests.proofs.tests.agents.hands.book.Goals as goal

pub book-requires : goal.book-requires
book-requires c = let known = step.receiver_within _ _ c.lane.ensures.plants in
    record {
      lane = step.may_receive ShowsAgent _ _ _ _ _ _ (hand.somewhere c.requires.handed.run) c.requires.lane known
          (ap (λ (lane : Lane). lane.receiver.0) (sym c.lane.ensures.value));
    }

pub returns-in-Ok-clause-alone : goal.returns-in-Ok-clause-alone
returns-in-Ok-clause-alone c = let known = step.receiver_within _ _ c.lane.ensures.plants in
    hand.booked _ _ _ _ _ _ _ c.requires.lane known (ap (λ (lane : Lane). lane.receiver.0) (sym c.lane.ensures.value)) c.requires.handed c.in-Ok.ensures.booked

pub returns-in-Err-clause-booked : goal.returns-in-Err-clause-booked
returns-in-Err-clause-booked c = let known = step.receiver_within _ _ c.lane.ensures.plants in
    absurd (hand.not_refused _ _ _ _ _ _ c.requires.lane known (ap (λ (lane : Lane). lane.receiver.0) (sym c.lane.ensures.value)) c.requires.handed
    c.in-Err.ensures.refused)

pub returns-in-Err-clause-alone : goal.returns-in-Err-clause-alone
returns-in-Err-clause-alone c = let known = step.receiver_within _ _ c.lane.ensures.plants in
    absurd (hand.not_refused _ _ _ _ _ _ c.requires.lane known (ap (λ (lane : Lane). lane.receiver.0) (sym c.lane.ensures.value)) c.requires.handed
    c.in-Err.ensures.refused)
