use Rattle.std.proofs.Common.{◌∷◌, [], length, ap, sym, ◌∙◌, subst, arith, All, length-append}
use Rattle.std.proofs.lemmas.List.{length-replicate}
use Rattle.std.proofs.lemmas.Result.{err_from_is_err_and}
use Rattle.mrp_netting.specs.PlanRows.{PlanRows}
use Rattle.mrp_crew.specs.Rooms.{IsRoom}
use Rattle.mrp_crew.proofs.Fronts.{All-pushed}
use Rattle.mrp_crew.proofs.rooms.refill.Goals as goal

pub loop-preserved : goal.loop-preserved
loop-preserved c = record {
  rooms = All-pushed (IsRoom c.args.horizon) c.loop.rooms.items c.push.new.self.items c.in_ok-room.room c.in_ok-push.ensures.items c.loop.invariant.rooms
      (ap (λ (p : PlanRows). length p.gross) c.in_ok-room.ensures ∙ length-replicate c.args.horizon 0);
  size = omega (arith, ap length c.in_ok-push.ensures.items, length-append c.loop.rooms.items (c.in_ok-room.room ∷ []), c.loop.invariant.size);
}

pub loop-init : goal.loop-init
loop-init c = record { rooms = c.requires.rooms; size = omega (arith, c.len-counter.ensures, c.args.rooms.now.ok.0) }

pub returns-in_err-room-clause-rooms : goal.returns-in_err-room-clause-rooms
returns-in_err-room-clause-rooms c = c.loop.invariant.rooms

pub returns-in_err-room-clause-enough : goal.returns-in_err-room-clause-enough
returns-in_err-room-clause-enough c =
    let p = err_from_is_err_and c.from_residual.result c.from_residual.ensures.1 in
    rw p.1 tt

pub returns-in_err-push-clause-rooms : goal.returns-in_err-push-clause-rooms
returns-in_err-push-clause-rooms c = subst (All (IsRoom c.args.horizon)) (sym c.in_err-push.ensures.items) c.loop.invariant.rooms

pub returns-in_err-push-clause-enough : goal.returns-in_err-push-clause-enough
returns-in_err-push-clause-enough c =
    let p = err_from_is_err_and c.from_residual-in_err-push.result c.from_residual-in_err-push.ensures.1 in
    rw p.1 tt

pub returns-clause-rooms : goal.returns-clause-rooms
returns-clause-rooms c = c.loop.invariant.rooms

pub returns-clause-enough : goal.returns-clause-enough
returns-clause-enough c = omega (arith, c.loop.invariant.size, c.loop-test.false)
