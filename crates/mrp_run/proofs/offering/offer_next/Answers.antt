use Rattle.std.proofs.Common.{[], ◌∷◌, ◌++◌, refl, sym, ap, ◌∙◌}
use Rattle.mrp_lane.specs.Ends.{End}
use Rattle.mrp_run.specs.declared.plant.Plant.{Plant}
use Rattle.mrp_run.specs.Steps.{clock}
use Rattle.mrp_run.proofs.Keeping.{one_after_another}
use Rattle.mrp_run.proofs.Offered.{given_is_next, goes_out, refused_kept, sent_kept}
use Rattle.mrp_run.proofs.offering.offer_next.Goals as goal

pub next_at-requires : goal.next_at-requires
next_at-requires g c =
    let p = c.has_room.new.plant in
    record { outgoing = goes_out p.agent p.sends.items p.takes.items c.has_room.ensures.work c.args.k c.has_room.ensures.lane }

pub offer_at-requires : goal.offer_at-requires
offer_at-requires g c =
    let p = c.has_room.new.plant in
    record {
      stamp = refl;
      legal = given_is_next p.agent p.sends.items p.takes.items c.args.k c.index_mut.result.now c.in-Some.next.entry c.has_room.ensures.lane
          c.index_mut.ensures.value c.has_room.ensures.work c.in-Some.ensures.given;
    }

pub returns-in-Err : goal.returns-in-Err
returns-in-Err g c =
    let o = c.args.plant.now in
    let p = c.has_room.new.plant in
    record {
      kept = one_after_another o.agent o.sends.items o.takes.items p.agent p.sends.items p.takes.items _ _ _ c.has_room.ensures.kept
          (refused_kept p.agent p.sends.items p.takes.items c.args.k c.index_mut.result.now c.offer_at.new.end c.index_mut.ensures.value
          c.offer_at.ensures.name c.in-Err.ensures.unchanged c.in-Err.ensures.unstamped);
    }

pub sent_at-requires-clause-outgoing : goal.sent_at-requires-clause-outgoing
sent_at-requires-clause-outgoing g c =
    let p = c.has_room.new.plant in
    goes_out p.agent p.sends.items p.takes.items c.has_room.ensures.work c.args.k c.has_room.ensures.lane

pub sent_at-requires-clause-given : goal.sent_at-requires-clause-given
sent_at-requires-clause-given g c = sym c.next_at.ensures.exact ∙ c.in-Some.is

pub returns : goal.returns
returns g c =
    let o = c.args.plant.now in
    let p = c.has_room.new.plant in
    let end : End = c.index_mut.result.now in
    let stamped = c.in_default-offer_at.ensures.stamped ∙ ap (λ (P : Plant). end.stamps ++ clock P ∷ []) c.of-before.ensures in
    record {
      kept = one_after_another o.agent o.sends.items o.takes.items p.agent p.sends.items p.takes.items _ _ _ c.has_room.ensures.kept
          (sent_kept p.agent p.sends.items p.takes.items c.args.k c.index_mut.result.now c.in-Some.next.entry c.has_room.ensures.lane
          c.index_mut.ensures.value c.offer_at.new.end c.offer_at.ensures.name c.in_default-offer_at.ensures.sent stamped c.in-Some.ensures.given
          c.sent_at.new.self c.sent_at.ensures.view c.sent_at.ensures.appended);
    }
