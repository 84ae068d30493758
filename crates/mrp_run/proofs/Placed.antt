-- The run by threads: for a plant in its thread, the ends of its lanes and the lanes that it sees are both in lane
-- order, so a lane has the place of its end.
use Rattle.std.proofs.Common.{◌≡◌, ℕ, ◌<◌, List, length, get_or, sym, ap, ◌∙◌, arith}
use Rattle.std.proofs.lemmas.List.{get_or-map, length-map}
use Rattle.mrp_master_data.specs.Table.{Table}
use Rattle.mrp_plant_view.specs.View.{PlantRows, incoming_lane, outgoing_lane, plant_rows}
use Rattle.mrp_record.specs.declared.record.Record.{Record}
use Rattle.mrp_lane.specs.Ends.{End}
use Rattle.mrp_agent.specs.State.{incoming_at, no_incoming, no_outgoing, outgoing_at}
use Rattle.mrp_run.specs.Plant.{AreEnds, lanes_from, lanes_to}
use Rattle.mrp_run.proofs.Held.{all_lanes, lane_is}

-- a lane that goes out is seen at the place of its end
module _ (N : Table) (p : ℕ) (V : PlantRows) (view : V ≡ plant_rows N p) (sent : ℕ → List Record) (s : List End) (are : AreEnds N (lanes_from N p) sent s)
    (k : ℕ) (within : k < length s) where
  inside_from : k < length (lanes_from N p)
  inside_from = omega (arith, within, all_lanes N (lanes_from N p) sent s are)

  pub out_within : k < length V.outgoing
  out_within =
      let as_many : length V.outgoing ≡ length (lanes_from N p) =
      ap (λ (z : PlantRows). length z.outgoing) view ∙ length-map (lanes_from N p) (outgoing_lane N) in
      omega (arith, inside_from, as_many)

  pub out_is : (d : End) → outgoing_at V k ≡ outgoing_lane N (get_or s k d).name.lane
  out_is d =
      let l : ℕ = (get_or s k d).name.lane in
      ap (λ (z : PlantRows). outgoing_at z k) view ∙ get_or-map (outgoing_lane N) (lanes_from N p) k l no_outgoing inside_from
      ∙ ap (outgoing_lane N) (sym (lane_is N (lanes_from N p) sent s are k d l within))

-- and one that comes in
module _ (N : Table) (p : ℕ) (V : PlantRows) (view : V ≡ plant_rows N p) (taken : ℕ → List Record) (t : List End) (are : AreEnds N (lanes_to N p) taken t)
    (k : ℕ) (within : k < length t) where
  inside_to : k < length (lanes_to N p)
  inside_to = omega (arith, within, all_lanes N (lanes_to N p) taken t are)

  pub in_within : k < length V.incoming
  in_within =
      let as_many : length V.incoming ≡ length (lanes_to N p) =
      ap (λ (z : PlantRows). length z.incoming) view ∙ length-map (lanes_to N p) (incoming_lane N) in
      omega (arith, inside_to, as_many)

  pub in_is : (d : End) → incoming_at V k ≡ incoming_lane N (get_or t k d).name.lane
  in_is d =
      let l : ℕ = (get_or t k d).name.lane in
      ap (λ (z : PlantRows). incoming_at z k) view ∙ get_or-map (incoming_lane N) (lanes_to N p) k l no_incoming inside_to
      ∙ ap (incoming_lane N) (sym (lane_is N (lanes_to N p) taken t are k d l within))
