use Rattle.std.proofs.lemmas.Option.{IfSome_then}
use Rattle.mrp_protocol.specs.State.{IsEnabled}
use Rattle.mrp_world.proofs.Looks as look
use Rattle.mrp_world.proofs.Worlds as world
use Rattle.mrp_world.proofs.world.World.enabled.Goals as goal

pub returns-clause-some : goal.returns-clause-some
returns-clause-some g c = IfSome_then c.look.result c.look.ensures.some
    (λ event. world.world_says g.P.Plant.shows _ _ _ _ _ _ _ _ c.as_slice.ensures.value c.as_slice-2.ensures.value c.self.view_is
    (λ N capacity s. IsEnabled N capacity s event))

pub returns-clause-none : goal.returns-clause-none
returns-clause-none g c = look.none_more _ _ _
    (world.world_finished g.P.Plant.shows _ _ _ _ _ _ _ _ c.as_slice.ensures.value c.as_slice-2.ensures.value c.self.view_is c.self.invariant)
    c.look.ensures.none

pub returns-clause-left : goal.returns-clause-left
returns-clause-left g c = look.none_more _ _ _
    (world.world_left g.P.Plant.shows _ _ _ _ _ _ _ _ c.as_slice.ensures.value c.as_slice-2.ensures.value c.self.view_is c.self.invariant)
    c.look.ensures.none
