use Rattle.std.proofs.Common.{◌≡◌, true, false, ap, sym}
use Rattle.std.proofs.lemmas.Option.{IfSome_then}
use Rattle.mrp_master_data.specs.declared.rows.PairRow.{PairRow}
use Rattle.mrp_net.specs.Plan.{plan_of, rows_at}
use Rattle.mrp_world.proofs.Looks as look
use Rattle.mrp_world.proofs.Worlds as world
use Rattle.mrp_world.proofs.world.World.planned.Given as given
use Rattle.mrp_world.proofs.world.World.planned.Goals as goal
use Rattle.mrp_world.proofs.world.World.planned.Goals.{After-index}

-- the plant that is asked is the pair's
asked : (g : given.Over) (c : After-index g)
    → world.Asked g.P.Plant.shows c.self.inside.network.now c.self.inside.capacity c.self.inside.plants.items c.self.inside.boxes.items c.self.inside.left
    c.args.self.now c.args.x.0 c.pair.result.plant.0 c.index.result.now
asked g c = record {
  same = c.self.view_is;
  is = c.self.invariant;
  pair = c.requires.pair;
  owner = ap (λ (row : PairRow). row.plant.0) (sym c.pair.ensures);
  at = c.index.ensures;
}

pub planned-requires : goal.planned-requires
planned-requires g c = record { pair = world.asked_has (asked g c) }

pub returns-clause-kept : goal.returns-clause-kept
returns-clause-kept g c = IfSome_then c.planned.result c.planned.ensures.kept
    (λ plan. world.asked_there (asked g (goal.at.returns-clause-kept g c).After-index) (λ plant. plan.now ≡ g.P.Plant.kept plant c.args.x.0))

pub returns-clause-planned : goal.returns-clause-planned
returns-clause-planned g c = IfSome_then c.planned.result c.planned.ensures.planned
    (λ plan. world.asked_says (asked g (goal.at.returns-clause-planned g c).After-index) (λ N s. s.planned c.args.x.0 ≡ true))

pub returns-clause-plan : goal.returns-clause-plan
returns-clause-plan g c = IfSome_then c.planned.result c.planned.ensures.plan
    (λ plan. world.asked_always (asked g (goal.at.returns-clause-plan g c).After-index) (λ N. plan.now ≡ rows_at (plan_of N) c.args.x.0))

pub returns-clause-none : goal.returns-clause-none
returns-clause-none g c = look.none_more _ _ _
    (world.asked_says (asked g (goal.at.returns-clause-none g c).After-index) (λ N s. s.planned c.args.x.0 ≡ false)) c.planned.ensures.none

pub returns-clause-finished : goal.returns-clause-finished
returns-clause-finished g c = world.has_plan (asked g (goal.at.returns-clause-finished g c).After-index) _
    (look.none_more _ _ _ (world.asked_says (asked g (goal.at.returns-clause-finished g c).After-index) (λ N s. s.planned c.args.x.0 ≡ false))
    c.planned.ensures.none)
