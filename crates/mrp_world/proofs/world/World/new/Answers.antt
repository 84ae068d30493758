use Rattle.mrp_world.proofs.Makes as make
use Rattle.mrp_world.proofs.world.World.new.Goals as goal

pub invariant_of-result : goal.invariant_of-result
invariant_of-result g c = let net = c.network-network.ensures in
    make.is_world _ _ _ _ _ _ _ net.value net.sized c.in_ok-plants.ensures c.in_ok-boxes.ensures c.in_ok-left.ensures c.requires.capacity.0

pub returns-clause-opens : goal.returns-clause-opens
returns-clause-opens g c = let net = c.network-network.ensures in
    make.world_opens _ _ _ _ _ _ _ net.value net.sized c.in_ok-plants.ensures c.in_ok-boxes.ensures c.in_ok-left.ensures
