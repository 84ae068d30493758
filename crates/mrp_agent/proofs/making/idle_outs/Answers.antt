use Rattle.std.proofs.Common.{ℕ, subst, List, [], arith, refl, sym}
use Rattle.mrp_agent.specs.Making.{IsIdleOut, AreIdleOuts}
use Rattle.mrp_agent.proofs.Made.{idle_more}
use Rattle.std.proofs.lemmas.List.{take_all}
use Rattle.mrp_plant_view.specs.declared.view.OutgoingLane.{OutgoingLane}
use Rattle.mrp_record.specs.Cursor.{OutFigures}
use Rattle.mrp_agent.proofs.making.idle_outs.Goals as goal

pub loop-lane-preserved : goal.loop-lane-preserved
loop-lane-preserved c =
    let idle = subst (λ (n : ℕ). IsIdleOut c.lane-item.result.kind n c.in_ok-idle_out.field-0) c.len.ensures c.in_ok-idle_out.ensures in
    idle_more c.args.lanes.now c.loop-lane.lane-index c.lane-item.result c.loop-lane.outs.items _ _ c.loop-lane-test.true c.lane-item.is c.loop-lane.invariant
    idle c.in_ok-push.ensures.items

pub loop-lane-init : goal.loop-lane-init
loop-lane-init c = subst (λ (z : List OutFigures). AreIdleOuts [] z) (sym c.new-outs.ensures.items)
    (record { size = refl; idle = λ k within. absurd (omega arith) })

pub returns : goal.returns
returns c =
    subst (λ (z : List OutgoingLane). AreIdleOuts z c.loop-lane.outs.items)
    (take_all c.loop-lane.lane-index c.args.lanes.now c.loop-lane-test.false) c.loop-lane.invariant
