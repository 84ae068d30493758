use Rattle.std.proofs.Common.{ap, sym, ◌∙◌}
use Rattle.std.proofs.lemmas.Bool.{ltb-true, ltb-false}
use Rattle.mrp_net.specs.declared.lane.Lane.{Lane}
use Rattle.mrp_world.proofs.Looks as look
use Rattle.mrp_world.proofs.Steps as step
use Rattle.mrp_world.proofs.looking.moving.Goals as goal

pub returns-in-Some-clause-some : goal.returns-in-Some-clause-some
returns-in-Some-clause-some g c =
    look.waiting_may _ _ _ _ _ _ _ c.requires.lane (c.index-boxes-lane.is ∙ step.box_is _ _ _ _ _ _ c.requires.shown c.requires.lane)
    (sym c.first.ensures ∙ c.in-Some.is)

pub returns-then-not-has_room-clause-none : goal.returns-then-not-has_room-clause-none
returns-then-not-has_room-clause-none g c =
    look.full_rests _ _ _ _ _ _ c.requires.lane (c.index-boxes-lane.is ∙ step.box_is _ _ _ _ _ _ c.requires.shown c.requires.lane)
    (sym c.first.ensures ∙ c.in_default.is) (ltb-false _ _ (sym c.has_room.ensures ∙ c.if-not-has_room.true))

pub next_out-requires : goal.next_out-requires
next_out-requires g c = record {
  lane = look.may_ask _ _ _ _ _ _ _ c.requires.shown c.requires.lane (step.sender_within _ _ c.lane.ensures.plants)
      (ap (λ (lane : Lane). lane.sender.0) (sym c.lane.ensures.value)) c.index-plants-sender.is;
}

pub returns-in-Some-next_out-clause-some : goal.returns-in-Some-next_out-clause-some
returns-in-Some-next_out-clause-some g c =
    look.next_may _ _ _ _ _ _ _ _ _ c.requires.lane (step.sender_within _ _ c.lane.ensures.plants)
    (ap (λ (lane : Lane). lane.sender.0) (sym c.lane.ensures.value))
    (c.index-boxes-lane.is ∙ step.box_is _ _ _ _ _ _ c.requires.shown c.requires.lane) (ltb-true _ _ (sym c.has_room.ensures ∙ c.if-not-has_room.false))
    c.index-plants-sender.is c.in-Some-next_out.ensures.next

pub returns-in-None-clause-none : goal.returns-in-None-clause-none
returns-in-None-clause-none g c =
    look.lane_rests _ _ _ _ _ _ _ _ c.requires.lane (step.sender_within _ _ c.lane.ensures.plants)
    (ap (λ (lane : Lane). lane.sender.0) (sym c.lane.ensures.value))
    (c.index-boxes-lane.is ∙ step.box_is _ _ _ _ _ _ c.requires.shown c.requires.lane)
    (sym c.first.ensures ∙ c.in_default.is) c.index-plants-sender.is c.in-None.ensures.none
