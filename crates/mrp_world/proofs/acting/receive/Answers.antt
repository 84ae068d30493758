use Rattle.std.proofs.Common.{set, refl, ap, sym, ◌∙◌, arith}
use Rattle.std.proofs.lemmas.List.{set-get_or}
use Rattle.mrp_net.specs.declared.lane.Lane.{Lane}
use Rattle.mrp_world.proofs.Steps as step
use Rattle.mrp_world.proofs.acting.receive.Goals as goal

pub lane-requires : goal.lane-requires
lane-requires g c = c.requires.lane

pub bounds-boxes-lane : goal.bounds-boxes-lane
bounds-boxes-lane g c = omega (arith, c.requires.lane, c.requires.shown.2.held.all)

pub bounds-plants-receiver : goal.bounds-plants-receiver
bounds-plants-receiver g c = omega (arith, step.receiver_within _ _ c.lane.ensures.plants, c.requires.shown.2.shown.all)

pub book-requires : goal.book-requires
book-requires g c = let known = step.receiver_within _ _ c.lane.ensures.plants in
    record { lane = step.may_receive _ _ _ _ _ _ _ c.requires.shown c.requires.lane known (ap (λ (lane : Lane). lane.receiver.0) (sym c.lane.ensures.value)) }

pub returns-in-Ok : goal.returns-in-Ok
returns-in-Ok g c = let known = step.receiver_within _ _ c.lane.ensures.plants in
    step.receive_leads _ g.met.P.Plant.stays _ _ _ _ _ _ _ _ _ _ c.requires.lane known (ap (λ (lane : Lane). lane.receiver.0) (sym c.lane.ensures.value))
    (step.box_is _ _ _ _ _ _ c.requires.shown c.requires.lane) (sym c.first.ensures ∙ c.in-Some.is) c.drop_first.ensures c.in-Ok.ensures.booked

pub returns-in-Err : goal.returns-in-Err
returns-in-Err g c = let known = step.receiver_within _ _ c.lane.ensures.plants in record {
  holds = step.refused_leads_nowhere _ _ _ _ _ _ _ _ _ c.requires.lane known (ap (λ (lane : Lane). lane.receiver.0) (sym c.lane.ensures.value))
      (step.box_is _ _ _ _ _ _ c.requires.shown c.requires.lane) (sym c.first.ensures ∙ c.in-Some.is) c.in-Err.ensures.refused;
  same_plants = ap (set c.args.plants.now c.lane.result.receiver.0) c.in-Err.ensures.unchanged ∙ set-get_or c.args.plants.now c.lane.result.receiver.0 _;
  same_boxes = set-get_or c.args.boxes.now c.args.lane.0 _;
}

pub returns-in_default : goal.returns-in_default
returns-in_default g c = record {
  holds = step.empty_leads_nowhere _ _ _ _ _ _ (step.box_is _ _ _ _ _ _ c.requires.shown c.requires.lane) (sym c.first.ensures ∙ c.in_default.is);
  same_plants = refl;
  same_boxes = set-get_or c.args.boxes.now c.args.lane.0 _;
}
