use Rattle.std.proofs.Common.{◌≡◌, Vec, Global}
use Rattle.std.proofs.lemmas.Result.{IfOk-weaker}
use Rattle.mrp_book.specs.declared.figure.LaneFigure.{LaneFigure}
use Rattle.mrp_world.specs.Figures.{figures_in}
use Rattle.mrp_world.proofs.Lasting as last
use Rattle.mrp_world.proofs.Worlds as world
use Rattle.mrp_world.proofs.world.World.figures.Goals as goal

pub returns-clause-figures : goal.returns-clause-figures
returns-clause-figures g c = IfOk-weaker _ _ _
    (λ (figures : Vec LaneFigure Global) says. world.world_says g.P.Plant.shows _ _ _ _ _ _ _ _ c.as_slice.ensures.value
    c.as_slice-2.ensures.value c.self.view_is (λ N capacity s. figures.items ≡ figures_in N s) says)
    c.figures.ensures

pub returns-clause-lanes : goal.returns-clause-lanes
returns-clause-lanes g c = IfOk-weaker _ _ _
    (λ (figures : Vec LaneFigure Global) says. last.shown_are_of_lanes g.P.Plant.shows _ _ c.self.view_is c.self.invariant figures.items
    (world.world_says g.P.Plant.shows _ _ _ _ _ _ _ _ c.as_slice.ensures.value
    c.as_slice-2.ensures.value c.self.view_is (λ N capacity s. figures.items ≡ figures_in N s) says))
    c.figures.ensures

pub returns-clause-last : goal.returns-clause-last
returns-clause-last g c = IfOk-weaker _ _ _
    (λ (figures : Vec LaneFigure Global) says. last.shown_are_last g.P.Plant.shows _ _ c.self.view_is c.self.invariant figures.items
    (world.world_says g.P.Plant.shows _ _ _ _ _ _ _ _ c.as_slice.ensures.value
    c.as_slice-2.ensures.value c.self.view_is (λ N capacity s. figures.items ≡ figures_in N s) says))
    c.figures.ensures
