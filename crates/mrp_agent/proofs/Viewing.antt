-- The agent: what a plant of a sized network sees is all that its agent needs to begin.
use Rattle.std.proofs.Common.{ℕ, ◌≤◌, get_or}
use Rattle.std.specs.List.{filter}
use Rattle.std.proofs.lemmas.List.Elements.{All-map, Contains-get_or}
use Rattle.mrp_qty.specs.declared.quantity.TheConstants.{MOST}
use Rattle.mrp_master_data.specs.Table.{Table}
use Rattle.mrp_net.specs.Lanes.{lane_at, lane_items}
use Rattle.mrp_plant_view.specs.declared.view.IncomingItem.{IncomingItem}
use Rattle.mrp_plant_view.specs.View.{comes_to, incoming_item, incoming_lane, lane_numbers, plant_rows}
use Rattle.mrp_plant_view.proofs.Views.{views_say_enough}
use Rattle.mrp_loops.specs.Sized.{IsSized}
use Rattle.mrp_protocol.proofs.Small.{openings_are_small}
use Rattle.mrp_agent.specs.Kept.{HasSmallItems, HasSmallOpenings}
use Rattle.mrp_agent.specs.Laws.{ViewsCanBePlanned}

small_lane : (N : Table) → IsSized N → (l : ℕ) → HasSmallItems (incoming_lane N l)
small_lane N sized l =
    All-map (λ (i : IncomingItem). i.opening ≤ MOST) (incoming_item N (lane_at N l)) (lane_items N (lane_at N l))
    (λ k d within. openings_are_small N sized (lane_at N l) (get_or (lane_items N (lane_at N l)) k d) (Contains-get_or (lane_items N (lane_at N l)) k d within))

small_openings : (N : Table) → IsSized N → (plant : ℕ) → HasSmallOpenings (plant_rows N plant)
small_openings N sized plant =
    All-map HasSmallItems (incoming_lane N) (filter (comes_to N plant) (lane_numbers N))
    (λ k d within. small_lane N sized (get_or (filter (comes_to N plant) (lane_numbers N)) k d))

pub views_can_be_planned : ViewsCanBePlanned
views_can_be_planned N sized plant = (views_say_enough N sized.table plant, small_openings N sized plant)
