-- The agent: the lanes of its plant have a place in what it sees.
use Rattle.std.proofs.Common.{◌≡◌, ℕ, ◌<◌, ◌==◌, length, refl, sym, ap, ◌∙◌, subst, All, Contains}
use Rattle.std.specs.List.{filter}
use Rattle.std.proofs.lemmas.Bool.{eqb-true, eq-eqb}
use Rattle.std.proofs.lemmas.List.Elements.{All-map}
use Rattle.std.proofs.lemmas.List.Sums.{passes_at_first}
use Rattle.mrp_master_data.specs.Table.{Table}
use Rattle.mrp_plant_view.specs.declared.view.IncomingLane.{IncomingLane}
use Rattle.mrp_plant_view.specs.declared.view.OutgoingLane.{OutgoingLane}
use Rattle.mrp_plant_view.specs.View.{PlantRows, comes_to, incoming_lane, incoming_lanes, lane_numbers, outgoing_lane, outgoing_lanes, plant_rows}
use Rattle.mrp_agent.specs.State.{incoming_at, incoming_place, outgoing_at, outgoing_place, no_incoming, no_outgoing}
use Rattle.mrp_agent.proofs.Looking.{place_found}

-- the place of a lane that goes out
pub record IsPlaced (V : PlantRows) (l : ℕ) : Type 0 where
  pub within : outgoing_place V l < length V.outgoing
  pub number : (outgoing_at V (outgoing_place V l)).number.0 ≡ l

pub out_placed : (V : PlantRows) (N : Table) (p l : ℕ) → V ≡ plant_rows N p → Contains (outgoing_lanes N p) (outgoing_lane N l) → IsPlaced V l
out_placed V N p l view own =
    let there : Contains V.outgoing (outgoing_lane N l) = subst (λ (z : PlantRows). Contains z.outgoing (outgoing_lane N l)) (sym view) own in
    let within = place_found (λ (lane : OutgoingLane). lane.number.0 == l) V.outgoing (outgoing_lane N l) there (eq-eqb l l refl) in
    record {
      within = within;
      number = eqb-true (outgoing_at V (outgoing_place V l)).number.0 l
          (passes_at_first (λ (lane : OutgoingLane). lane.number.0 == l) V.outgoing no_outgoing within);
    }

-- and of one that comes in, which is seen as it is
pub in_number : (V : PlantRows) (l : ℕ) → incoming_place V l < length V.incoming → (incoming_at V (incoming_place V l)).number.0 ≡ l
in_number V l within =
    eqb-true (incoming_at V (incoming_place V l)).number.0 l (passes_at_first (λ (lane : IncomingLane). lane.number.0 == l) V.incoming no_incoming within)

pub record IsTakenAt (V : PlantRows) (N : Table) (l : ℕ) : Type 0 where
  pub within : incoming_place V l < length V.incoming
  pub is : incoming_at V (incoming_place V l) ≡ incoming_lane N l

incoming_are_seen : (N : Table) (p : ℕ) → All (λ lane. lane ≡ incoming_lane N lane.number.0) (incoming_lanes N p)
incoming_are_seen N p =
    All-map (λ (lane : IncomingLane). lane ≡ incoming_lane N lane.number.0) (incoming_lane N) (filter (comes_to N p) (lane_numbers N)) (λ k d within. refl)

pub in_placed : (V : PlantRows) (N : Table) (p l : ℕ) → V ≡ plant_rows N p → Contains (incoming_lanes N p) (incoming_lane N l) → IsTakenAt V N l
in_placed V N p l view own =
    let there : Contains V.incoming (incoming_lane N l) = subst (λ (z : PlantRows). Contains z.incoming (incoming_lane N l)) (sym view) own in
    let within : incoming_place V l < length V.incoming = place_found (λ (lane : IncomingLane). lane.number.0 == l) V.incoming (incoming_lane N l) there
    (eq-eqb l l refl) in
    let seen_all : All (λ lane. lane ≡ incoming_lane N lane.number.0) V.incoming =
    subst (λ (z : PlantRows). All (λ lane. lane ≡ incoming_lane N lane.number.0) z.incoming) (sym view) (incoming_are_seen N p) in
    record { within = within; is = seen_all (incoming_place V l) no_incoming within ∙ ap (incoming_lane N) (in_number V l within) }
