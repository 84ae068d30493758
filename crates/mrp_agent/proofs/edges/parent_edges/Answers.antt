use Rattle.std.proofs.Common.{refl, ◌∙◌, ap, map}
use Rattle.mrp_agent.specs.Kept.{parent_edge}
use Rattle.mrp_agent.proofs.Made.{map_more}
use Rattle.std.proofs.lemmas.List.{take_all}
use Rattle.mrp_agent.proofs.edges.parent_edges.Goals as goal

pub loop-edge-preserved : goal.loop-edge-preserved
loop-edge-preserved c =
    map_more (parent_edge c.args.view.now) c.args.edges.now c.loop-edge.edge-index _ _ _ _ _ c.loop-edge-test.true refl c.parent_edge.ensures
    c.loop-edge.invariant c.in_ok-push.ensures.items

pub loop-edge-init : goal.loop-edge-init
loop-edge-init c = c.new-parents.ensures.items

pub parent_edge-requires-clause-edge : goal.parent_edge-requires-clause-edge
parent_edge-requires-clause-edge c = c.requires.edges c.loop-edge.edge-index _ c.loop-edge-test.true

pub returns : goal.returns
returns c = c.loop-edge.invariant ∙ ap (map (parent_edge c.args.view.now)) (take_all c.loop-edge.edge-index c.args.edges.now c.loop-edge-test.false)
