use Rattle.std.proofs.Common.{length, ap, sym, ◌∙◌}
use Rattle.mrp_master_data.specs.Table.{Table}
use Rattle.mrp_net.specs.Plan.{plan_of}
use Rattle.mrp_loops.proofs.OnePlan.{one_plan}
use Rattle.mrp_world.proofs.Worlds as world
use Rattle.mrp_world.proofs.world.World.into_plan.Goals as goal

pub plans_by_plant-requires : goal.plans_by_plant-requires
plans_by_plant-requires g c = record {
  finished = world.finished_somewhere g.P.Plant.shows _ c.self.invariant
      (ap (λ w. w.left) c.self.view_is ∙ c.requires.finished);
}

pub gather-requires-2 : goal.gather-requires-2
gather-requires-2 g c =
    let sized = c.self.invariant.shown.parts.sized in
    ap length c.in_ok-pairs.ensures ∙ (one_plan c.self.inside.network.now sized.table sized.loop_free).fits.size
    ∙ ap (λ (N : Table). length N.pairs) (ap (λ w. w.network) c.self.view_is ∙ sym c.requires.network)

pub returns : goal.returns
returns g c = c.gather-2.ensures ∙ c.in_ok-pairs.ensures ∙ ap plan_of (ap (λ w. w.network) c.self.view_is ∙ sym c.requires.network)
