-- The world's plants and lanes: those of a plant stand in what its agent sees, and no others do.
use Rattle.std.proofs.Common.{◌≡◌, ℕ, length, sym, subst, Contains}
use Rattle.std.specs.List.{filter}
use Rattle.mrp_master_data.specs.Table.{Table}
use Rattle.mrp_master_data.specs.declared.numbers.PairNo.{PairNo}
use Rattle.mrp_net.specs.Lanes.{lanes, lane_at}
use Rattle.mrp_net.proofs.Members.{Contains-from_in, In-map}
use Rattle.mrp_plant_view.specs.Seen as seen
use Rattle.mrp_plant_view.specs.View.{PlantRows, comes_to, goes_from, lane_numbers, incoming_lane, incoming_lanes, outgoing_lane, outgoing_lanes, plant_rows}
use Rattle.mrp_plant_view.proofs.Seeing.{is_own, owned_there}
use Rattle.mrp_agent.specs.OwnPart.{IsIn, IsOut, IsOwn}

-- ---- its lanes are seen

pub out_there : (N : Table) (p l : ℕ) → IsOut N p l → Contains (outgoing_lanes N p) (outgoing_lane N l)
out_there N p l out =
    Contains-from_in (outgoing_lanes N p) (outgoing_lane N l)
    (In-map (outgoing_lane N) (filter (goes_from N p) (lane_numbers N)) l (owned_there (length (lanes N)) (λ k. (lane_at N k).sender.0) p l out.lane out.plant))

pub in_there : (N : Table) (p l : ℕ) → IsIn N p l → Contains (incoming_lanes N p) (incoming_lane N l)
in_there N p l in_ =
    Contains-from_in (incoming_lanes N p) (incoming_lane N l)
    (In-map (incoming_lane N) (filter (comes_to N p) (lane_numbers N)) l
    (owned_there (length (lanes N)) (λ k. (lane_at N k).receiver.0) p l in_.lane in_.plant))

-- ---- its pairs are seen

pub own_seen : (V : PlantRows) (N : Table) (p : ℕ) (x : PairNo) → V ≡ plant_rows N p → IsOwn N p x.0 → seen.IsOwnPair V x
own_seen V N p x view own = subst (λ (z : PlantRows). seen.IsOwnPair z x) (sym view) (is_own N p x own.pair own.at_plant)
