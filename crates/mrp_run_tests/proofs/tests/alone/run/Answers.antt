use Rattle.std.proofs.Common.{[], List, sym, subst}
use Rattle.mrp_lane.specs.Ends.{End}
use Rattle.mrp_run.specs.Plant.{IsAtWork}
use Rattle.mrp_run_tests.proofs.tests.alone.run.Goals as goal

pub run_plant-requires-clause-work : goal.run_plant-requires-clause-work
run_plant-requires-clause-work g c = λ κs met.
    subst (λ (s : List End). IsAtWork c.in_ok-agent.agent s c.new-takes.result.items) (sym c.new-sends.ensures.items)
    (subst (λ (t : List End). IsAtWork c.in_ok-agent.agent [] t) (sym c.new-takes.ensures.items) c.in_ok-agent.ensures.work)

pub run_plant-requires-clause-rule : goal.run_plant-requires-clause-rule
run_plant-requires-clause-rule g c = λ κs met fault of. tt
