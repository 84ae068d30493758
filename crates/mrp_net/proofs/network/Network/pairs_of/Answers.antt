use Rattle.std.proofs.Common.{length, arith, ◌∙◌}
use Rattle.mrp_master_data.specs.declared.numbers.PairNo.{PairNo}
use Rattle.mrp_master_data.specs.Table.{IsPair}
use Rattle.mrp_net.specs.Plants.{pair_numbers, plant_of}
use Rattle.mrp_net.proofs.OfPlants.{pairs_have_plants, pairs_are_there, group_none, group_of, pairs_read}
use Rattle.mrp_net.proofs.network.Network.pairs_of.Goals as goal

pub returns-then-plant-plants-clause-value : goal.returns-then-plant-plants-clause-value
returns-then-plant-plants-clause-value c =
    let N = c.args.self.now in
    group_none (plant_of N) (length N.plants) c.args.plant.0 (pair_numbers (length N.pairs)) (pairs_have_plants N c.pairs-pairs.ensures.table) (omega (arith, c.if-plant-plants.true, c.plants.ensures))

pub get-requires-clause-rises : goal.get-requires-clause-rises
get-requires-clause-rises c =
    let are = pairs_read _ c.args.self.now c.self.inside.plants.pairs.rows.items c.self.inside.plants.pairs.starts.items c.args.plant.0
    c.self.view_is c.self.invariant.plants.pairs (omega (arith, c.if-plant-plants.false, c.plants.ensures)) in
    are.rises

pub get-requires-clause-within : goal.get-requires-clause-within
get-requires-clause-within c =
    let are = pairs_read _ c.args.self.now c.self.inside.plants.pairs.rows.items c.self.inside.plants.pairs.starts.items c.args.plant.0
    c.self.view_is c.self.invariant.plants.pairs (omega (arith, c.if-plant-plants.false, c.plants.ensures)) in
    are.within

pub returns-clause-value : goal.returns-clause-value
returns-clause-value c =
    let are = pairs_read _ c.args.self.now c.self.inside.plants.pairs.rows.items c.self.inside.plants.pairs.starts.items c.args.plant.0
    c.self.view_is c.self.invariant.plants.pairs (omega (arith, c.if-plant-plants.false, c.plants.ensures)) in
    c.get.ensures ∙ are.value

pub returns-clause-pairs : goal.returns-clause-pairs
returns-clause-pairs c =
    let N = c.args.self.now in
    let are = pairs_read _ c.args.self.now c.self.inside.plants.pairs.rows.items c.self.inside.plants.pairs.starts.items c.args.plant.0
    c.self.view_is c.self.invariant.plants.pairs (omega (arith, c.if-plant-plants.false, c.plants.ensures)) in
    group_of (λ (x : PairNo). IsPair N x.0) (plant_of N) c.args.plant.0 (pair_numbers (length N.pairs)) c.get.result.now (pairs_are_there N) (c.get.ensures ∙ are.value)
