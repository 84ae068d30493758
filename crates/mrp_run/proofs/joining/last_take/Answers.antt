use Rattle.std.proofs.Common.{get_or}
use Rattle.std.proofs.lemmas.List.{get_or_default}
use Rattle.mrp_agent.proofs.Gathers.{nothing_left}
use Rattle.mrp_run.specs.declared.plant.Plant.{Plant}
use Rattle.mrp_run.proofs.Paired.{takes_popped}
use Rattle.mrp_run.proofs.Ran.{take_left, was_there}
use Rattle.mrp_run.proofs.joining.last_take.Goals as goal

pub returns : goal.returns
returns c =
    let P : Plant = get_or c.args.plants.now c.args.receiver.0 c.index-plants-receiver.result in
    let is = get_or_default c.args.plants.now c.args.receiver.0 c.index-plants-receiver.result P c.requires.there in
    record {
      last = λ N ns ts n owner ended.
          takes_popped N ns ts n c.args.plants.now c.args.receiver.0 P c.pop.new.self c.pop.result c.requires.there is c.pop.ensures.items
          (nothing_left P.takes c.pop.new.self c.pop.result _ c.pop.ensures.cases) owner ended;
      there = was_there (λ (P : Plant). P.takes.items) c.args.plants.now c.args.receiver.0 P c.pop.new.self.items c.pop.result c.requires.there is c.pop.ensures.items;
      left = take_left c.args.plants.now c.args.receiver.0 P c.pop.new.self c.pop.result c.requires.there is c.pop.ensures.items;
    }
