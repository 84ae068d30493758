use Rattle.std.proofs.Common.{refl}
use Rattle.mrp_world.proofs.Drives as drive
use Rattle.mrp_world.proofs.Worlds as world
use Rattle.mrp_world.proofs.world.World.driven.Goals as goal

pub drive_on-requires : goal.drive_on-requires
drive_on-requires g c = let net = c.network-network.ensures in
    record { shown = drive.opens_somewhere _ _ _ _ _ _ net.value net.sized c.in_ok-plants.ensures c.in_ok-boxes.ensures }

pub invariant_of-result : goal.invariant_of-result
invariant_of-result g c = let net = c.network-network.ensures in
    drive.new_is_driven _ _ _ _ _ _ net.value net.sized c.in_ok-plants.ensures c.in_ok-boxes.ensures _ _ c.requires.capacity.0 c.drive_on.ensures.runs
    c.drive_on.ensures.rests

pub returns-clause-shows : goal.returns-clause-shows
returns-clause-shows g c = let net = c.network-network.ensures in
    let is = drive.new_is_driven _ _ _ _ _ _ net.value net.sized c.in_ok-plants.ensures c.in_ok-boxes.ensures _ _ c.requires.capacity.0
    c.drive_on.ensures.runs c.drive_on.ensures.rests in
    (is.state, is.shown)

pub returns-clause-finished : goal.returns-clause-finished
returns-clause-finished g c s shown = world.none_left_is_finished _ _ s shown refl
