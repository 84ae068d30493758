use Rattle.std.proofs.Common.{◌≡◌, ◌<◌, length, ap, sym, arith}
use Rattle.mrp_master_data.specs.declared.rows.PairRow.{PairRow}
use Rattle.mrp_net.specs.Sums.{pair_at}
use Rattle.mrp_agent.proofs.Gathers as gather
use Rattle.mrp_agent.proofs.gathering.take_last.Goals as goal

pub returns-clause-plan : goal.returns-clause-plan
returns-clause-plan c =
    let N = c.args.network.now in
    let owner : (pair_at N c.args.x.0).plant.0 ≡ c.pair.result.plant.0 = ap (λ (row : PairRow). row.plant.0) (sym c.pair.ensures) in
    let within : c.pair.result.plant.0 < length c.args.given.now =
    omega (arith, gather.owner_within N c.requires.sized c.args.x.0 c.requires.pair, owner, c.requires.given.all) in
    (gather.taken_last N c.args.given.now c.args.x.0 c.pair.result.plant.0 c.index-given-plant.result c.pop.new.self c.pop.result _ c.requires.given owner
    within c.index-given-plant.is c.pop.ensures.items c.pop.ensures.cases).1

pub returns-clause-given : goal.returns-clause-given
returns-clause-given c =
    let N = c.args.network.now in
    let owner : (pair_at N c.args.x.0).plant.0 ≡ c.pair.result.plant.0 = ap (λ (row : PairRow). row.plant.0) (sym c.pair.ensures) in
    let within : c.pair.result.plant.0 < length c.args.given.now =
    omega (arith, gather.owner_within N c.requires.sized c.args.x.0 c.requires.pair, owner, c.requires.given.all) in
    gather.have_after N c.args.given.now c.args.x.0 c.pair.result.plant.0 c.pop.new.self c.requires.given owner within
    (gather.taken_last N c.args.given.now c.args.x.0 c.pair.result.plant.0 c.index-given-plant.result c.pop.new.self c.pop.result _ c.requires.given owner
    within c.index-given-plant.is c.pop.ensures.items c.pop.ensures.cases).0
