-- The world: at each moment of its run a plant's agent works in the network.
use Rattle.std.proofs.Common.{ℕ, sym, subst}
use Rattle.mrp_plant_view.specs.Seen.{IsView}
use Rattle.mrp_plant_view.specs.View.{PlantRows}
use Rattle.mrp_protocol.proofs.Ordering.{lanes_keep_order}
use Rattle.mrp_agent.specs.Kept.{HasSmallOpenings}
use Rattle.mrp_agent.specs.State.{AgentState}
use Rattle.mrp_agent.proofs.Viewing.{views_can_be_planned}
use Rattle.mrp_agent.specs.InNetwork.{ShowsAgent, WorksIn}
use Rattle.mrp_world.specs.Moments.{Moment, IsAt, IsSeen}

-- what came to it on each lane is a legal beginning
pub works_in : (A : AgentState) (m : Moment) (p : ℕ) → IsAt ShowsAgent m p A → WorksIn m.network p m.state A
works_in A m p at = record {
  shown = at.shown;
  legal = λ l within receiver. (lanes_keep_order m.network m.capacity m.state at.reached l within).taken;
}

-- ---- the agent of what a plant sees

pub seen_enough : (V : PlantRows) → IsSeen V → IsView V
seen_enough V (N, p, sized, known, is) = subst IsView (sym is) (views_can_be_planned N sized p).0

pub seen_opens_small : (V : PlantRows) → IsSeen V → HasSmallOpenings V
seen_opens_small V (N, p, sized, known, is) = subst HasSmallOpenings (sym is) (views_can_be_planned N sized p).1
