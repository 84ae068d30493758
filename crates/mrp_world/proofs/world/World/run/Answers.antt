use Rattle.std.proofs.Common.{◌≡◌, ◌-◌, ◌≤◌, ℕ, List, subst, sym, arith}
use Rattle.std.proofs.lemmas.List.{take_all}
use Rattle.mrp_master_data.specs.Table.{Table}
use Rattle.mrp_protocol.specs.declared.event.Event.{Event}
use Rattle.mrp_protocol.specs.Progress.{steps_left}
use Rattle.mrp_world.specs.Enabled.{CountsEnabled}
use Rattle.mrp_world.specs.Moves.{Runs}
use Rattle.mrp_world.proofs.Enabling.{run_counts}
use Rattle.mrp_world.proofs.Worlds as world
use Rattle.mrp_world.proofs.world.World.run.Goals as goal

pub loop-event-preserved : goal.loop-event-preserved
loop-event-preserved g c = let e = c.apply-enabled.ensures in
    let fewer : c.apply-enabled.new.self.left ≤ c.loop-event.self.left = world.no_more_left _ _ _ e.step e.unchanged in record {
      runs = world.runs_next _ _ _ _ _ _ _ c.loop-event-test.true c.loop-event.invariant.runs
          (world.runs_one _ _ _ _ _ e.leads e.nowhere e.unchanged e.network e.capacity);
      left = omega (arith, fewer, c.loop-event.invariant.left);
    }

pub returns-clause-runs : goal.returns-clause-runs
returns-clause-runs g c =
    subst (λ (events : List Event). Runs g.P.Plant.shows c.args.self.now events c.loop-event.self)
    (take_all c.loop-event.event-index c.args.events.now c.loop-event-test.false) c.loop-event.invariant.runs

pub loop-event-init : goal.loop-event-init
loop-event-init g c = record { runs = world.runs_none _ _; left = omega arith }

pub returns-clause-count : goal.returns-clause-count
returns-clause-count g c = omega (arith, c.steps_left-before.ensures.value, c.steps_left.ensures.value, c.loop-event.invariant.left)

pub overflow_sub-result : goal.overflow_sub-result
overflow_sub-result g c = omega (arith, c.steps_left-before.ensures.value, c.steps_left.ensures.value, c.loop-event.invariant.left)

pub returns-clause-enabled : goal.returns-clause-enabled
returns-clause-enabled g c s shown =
    let N : Table = c.args.self.now.network in
    let capacity : ℕ = c.args.self.now.capacity in
    let all : Runs g.P.Plant.shows c.args.self.now c.args.events.now c.loop-event.self =
    subst (λ (events : List Event). Runs g.P.Plant.shows c.args.self.now events c.loop-event.self)
    (take_all c.loop-event.event-index c.args.events.now c.loop-event-test.false) c.loop-event.invariant.runs in
    let t = all.runs s shown in
    let count : c.steps_left-before.result - c.steps_left.result ≡ steps_left N s - steps_left N t.0 =
    world.fallen g.P.Plant.shows c.args.self.now c.loop-event.self s t.0 shown t.2 all.network _ _ c.steps_left-before.ensures.value
    c.steps_left.ensures.value in (
      t.0,
      subst (λ (n : ℕ). CountsEnabled N capacity s c.args.events.now n t.0) (sym count)
          (run_counts N capacity s t.0 c.args.events.now shown.parts.reached t.1),
      t.2,
    )
