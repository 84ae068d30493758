use Rattle.std.proofs.Common.{arith}
use Rattle.mrp_run.proofs.Keeping.{nothing_done, one_after_another, same_lanes, still_works}
use Rattle.mrp_run.proofs.moving.move_records.Goals as goal

pub look_at-requires-clause-work : goal.look_at-requires-clause-work
look_at-requires-clause-work g c =
    let p = c.args.plant.now in
    let q = c.loop-k.plant in
    still_works p.agent p.sends.items p.takes.items q.agent q.sends.items q.takes.items c.loop-k.invariant c.requires.work

pub look_at-requires-clause-lane : goal.look_at-requires-clause-lane
look_at-requires-clause-lane g c =
    omega (arith, same_lanes c.args.lanes c.args.plant.now c.loop-k.plant c.loop-k.invariant, c.loop-k-test.true, c.lane_count-k-end.ensures)

pub loop-k-preserved : goal.loop-k-preserved
loop-k-preserved g c =
    let p = c.args.plant.now in
    let q = c.loop-k.plant in
    let r = c.look_at.new.plant in
    one_after_another p.agent p.sends.items p.takes.items q.agent q.sends.items q.takes.items r.agent r.sends.items r.takes.items c.loop-k.invariant
    c.look_at.ensures.kept

pub loop-k-init : goal.loop-k-init
loop-k-init g c = nothing_done c.args.plant.now.agent c.args.plant.now.sends.items c.args.plant.now.takes.items

pub returns : goal.returns
returns g c = record { kept = c.loop-k.invariant }
