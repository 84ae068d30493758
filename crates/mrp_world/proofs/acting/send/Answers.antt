use Rattle.std.proofs.Common.{set, refl, ap, sym, ◌∙◌, arith}
use Rattle.std.proofs.lemmas.Bool.{ltb-true, ltb-false}
use Rattle.std.proofs.lemmas.List.{set-get_or}
use Rattle.mrp_net.specs.declared.lane.Lane.{Lane}
use Rattle.mrp_world.proofs.Steps as step
use Rattle.mrp_world.proofs.acting.send.Goals as goal

pub lane-requires : goal.lane-requires
lane-requires g c = c.requires.lane

pub bounds-boxes-lane : goal.bounds-boxes-lane
bounds-boxes-lane g c = omega (arith, c.requires.lane, c.requires.shown.2.held.all)

pub bounds-plants-sender : goal.bounds-plants-sender
bounds-plants-sender g c = omega (arith, step.sender_within _ _ c.lane.ensures.plants, c.requires.shown.2.shown.all)

pub send-requires : goal.send-requires
send-requires g c = let known = step.sender_within _ _ c.lane.ensures.plants in
    record { lane = step.may_send _ _ _ _ _ _ _ c.requires.shown c.requires.lane known (ap (λ (lane : Lane). lane.sender.0) (sym c.lane.ensures.value)) }

pub returns-then-not-has_room : goal.returns-then-not-has_room
returns-then-not-has_room g c = record {
  holds = step.full_leads_nowhere _ _ _ _ _ _ c.requires.lane (step.box_is _ _ _ _ _ _ c.requires.shown c.requires.lane)
      (ltb-false _ _ (sym c.has_room.ensures ∙ c.if-not-has_room.true));
  same_plants = refl;
  same_boxes = set-get_or c.args.boxes.now c.args.lane.0 _;
}

pub returns-in-Some : goal.returns-in-Some
returns-in-Some g c = let known = step.sender_within _ _ c.lane.ensures.plants in
    step.send_leads _ g.met.P.Plant.stays _ _ _ _ _ _ _ _ _ _ c.requires.lane known (ap (λ (lane : Lane). lane.sender.0) (sym c.lane.ensures.value))
    (step.box_is _ _ _ _ _ _ c.requires.shown c.requires.lane) (ltb-true _ _ (sym c.has_room.ensures ∙ c.if-not-has_room.false)) c.push.ensures
    c.in-Some.ensures.next c.in-Some.ensures.sent

pub returns-in-None : goal.returns-in-None
returns-in-None g c = let known = step.sender_within _ _ c.lane.ensures.plants in record {
  holds = step.none_leads_nowhere _ _ _ _ _ _ _ c.requires.lane known (ap (λ (lane : Lane). lane.sender.0) (sym c.lane.ensures.value)) c.in-None.ensures.none;
  same_plants = ap (set c.args.plants.now c.lane.result.sender.0) c.in-None.ensures.unchanged ∙ set-get_or c.args.plants.now c.lane.result.sender.0 _;
  same_boxes = set-get_or c.args.boxes.now c.args.lane.0 _;
}
