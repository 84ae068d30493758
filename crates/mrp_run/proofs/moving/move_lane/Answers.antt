use Rattle.std.proofs.Common.{sym, subst, arith}
use Rattle.mrp_run.specs.declared.plant.Plant.{Plant}
use Rattle.mrp_run.specs.Steps.{KeepsPlant}
use Rattle.mrp_run.proofs.Keeping.{keeps_on, nothing_done, same_lanes, works_on}
use Rattle.mrp_run.proofs.moving.move_lane.Goals as goal
use Rattle.mrp_run.proofs.moving.move_lane.Goals.{in-None, in-Some+then-not-move_next}

pub loop-init : goal.loop-init
loop-init g c = nothing_done c.args.plant.now.agent c.args.plant.now.sends.items c.args.plant.now.takes.items

pub move_next-requires-clause-work : goal.move_next-requires-clause-work
move_next-requires-clause-work g c = works_on c.args.plant.now c.loop.plant c.loop.invariant c.requires.work

pub move_next-requires-clause-lane : goal.move_next-requires-clause-lane
move_next-requires-clause-lane g c = omega (arith, same_lanes c.args.lanes c.args.plant.now c.loop.plant c.loop.invariant, c.requires.lane)

pub loop-preserved : goal.loop-preserved
loop-preserved g c = keeps_on c.args.plant.now c.loop.plant c.move_next.new.plant c.loop.invariant c.move_next.ensures.kept

pub returns : goal.returns
returns g c = record {
  kept = elim c.match-next.branch [
    | in-None w ↦ subst (λ (P : Plant). KeepsPlant c.args.plant.now P) (sym w.plant-is) c.loop.invariant
    | in-Some+then-not-move_next w ↦ subst (λ (P : Plant). KeepsPlant c.args.plant.now P) (sym w.plant-is)
        (keeps_on c.args.plant.now c.loop.plant w.move_next.new.plant c.loop.invariant w.move_next.ensures.kept)
  ];
}
