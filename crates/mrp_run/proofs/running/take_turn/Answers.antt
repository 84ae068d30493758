use Rattle.std.proofs.Common.{sym, ap, ◌∙◌}
use Rattle.mrp_plant_view.specs.View.{PlantRows}
use Rattle.mrp_crew.specs.Shut.{WasShutToWorker}
use Rattle.mrp_run.proofs.CrewFaults.{crew_is_of}
use Rattle.mrp_run.specs.declared.plant.Plant.{Plant}
use Rattle.mrp_run.proofs.Keeping.{can_plan, keeps_on, planned_kept, still_works, works_on}
use Rattle.mrp_run.proofs.running.take_turn.Goals as goal

pub move_records-booked-requires : goal.move_records-booked-requires
move_records-booked-requires g c = record { work = c.requires.work }

pub plan_ready-requires-clause-plannable : goal.plan_ready-requires-clause-plannable
plan_ready-requires-clause-plannable g c κs within =
    let p = c.move_records-booked.new.plant in
    can_plan p.agent p.sends.items p.takes.items (works_on c.args.plant.now p c.move_records-booked.ensures.kept c.requires.work)

pub plan_ready-requires-clause-horizon : goal.plan_ready-requires-clause-horizon
plan_ready-requires-clause-horizon g c κs within =
    c.requires.horizon ∙ sym (ap (λ (V : PlantRows). V.horizon) c.move_records-booked.ensures.kept.view)

pub move_records-sent-requires : goal.move_records-sent-requires
move_records-sent-requires g c =
    let p = c.move_records-booked.new.plant in
    let xs = c.plan_ready.ensures.planned in
    record {
      work = still_works p.agent p.sends.items p.takes.items c.plan_ready.new.agent p.sends.items p.takes.items
          (planned_kept p.agent p.sends.items p.takes.items c.plan_ready.new.agent xs.0 xs.1)
          (works_on c.args.plant.now p c.move_records-booked.ensures.kept c.requires.work);
    }

pub returns-in-Err-clause-crew : goal.returns-in-Err-clause-crew
returns-in-Err-clause-crew g c = c.plan_ready.ensures.crew

pub returns-in-Err-clause-kept : goal.returns-in-Err-clause-kept
returns-in-Err-clause-kept g c =
    let p = c.move_records-booked.new.plant in
    let xs = c.plan_ready.ensures.planned in
    keeps_on c.args.plant.now p (record { agent = c.plan_ready.new.agent; sends = p.sends; takes = p.takes }) c.move_records-booked.ensures.kept
    (planned_kept p.agent p.sends.items p.takes.items c.plan_ready.new.agent xs.0 xs.1)

pub returns-in-Err-clause-fault : goal.returns-in-Err-clause-fault
returns-in-Err-clause-fault g c =
    crew_is_of (WasShutToWorker g.G.Gate.worker_shut c.args.crew.now.workers) c.args.number c.in-Err.fault c.of_crew.result c.of_crew.ensures
    c.in-Err.ensures.shut

pub returns-clause-crew : goal.returns-clause-crew
returns-clause-crew g c = c.plan_ready.ensures.crew

pub returns-clause-kept : goal.returns-clause-kept
returns-clause-kept g c =
    let p = c.move_records-booked.new.plant in
    let q : Plant = record { agent = c.plan_ready.new.agent; sends = p.sends; takes = p.takes } in
    let xs = c.plan_ready.ensures.planned in
    keeps_on c.args.plant.now q c.move_records-sent.new.plant
    (keeps_on c.args.plant.now p q c.move_records-booked.ensures.kept (planned_kept p.agent p.sends.items p.takes.items c.plan_ready.new.agent xs.0 xs.1))
    c.move_records-sent.ensures.kept

pub returns-in-Err-clause-by_crew : goal.returns-in-Err-clause-by_crew
returns-in-Err-clause-by_crew g c = (c.in-Err.fault, c.of_crew.ensures)
