-- Tests of runs, crews and a plant alone: a new agent of a plant of a sized network can be planned for, and where
-- there are no lanes it is at work without ends.
use Rattle.std.proofs.Common.{◌≡◌, ℕ, List, [], length, sym, ap, subst}
use Rattle.std.specs.List.{filter, range_with_len}
use Rattle.std.proofs.lemmas.List.Elements.{All-nil}
use Rattle.mrp_master_data.specs.Table.{Table}
use Rattle.mrp_net.specs.Lanes.{lane_at, lanes}
use Rattle.mrp_plant_view.specs.Seen.{IsView}
use Rattle.mrp_plant_view.specs.View.{comes_to, goes_from, plant_rows}
use Rattle.mrp_loops.specs.Sized.{IsSized}
use Rattle.mrp_record.proofs.Beginnings.{empty_is_a_beginning}
use Rattle.mrp_protocol.specs.Loads.{loads}
use Rattle.mrp_protocol.specs.State.{opening_state}
use Rattle.mrp_history.proofs.Passing.{IsUnused, opening_is_explained}
use Rattle.mrp_agent.specs.InNetwork.{WorksIn}
use Rattle.mrp_agent.specs.Shows.{ShowsHistory}
use Rattle.mrp_agent.specs.State.{AgentState}
use Rattle.mrp_agent.proofs.Viewing.{views_can_be_planned}
use Rattle.mrp_crew.specs.Planning.{IsPlannable}
use Rattle.mrp_lane.specs.Ends.{End}
use Rattle.mrp_run.specs.Plant.{AreEnds, IsAtWork}

opening_works : (N : Table) → IsSized N → (plant : ℕ) (A : AgentState) → A.view ≡ plant_rows N plant
    → ShowsHistory A opening_state.sent opening_state.taken opening_state.planned → WorksIn N plant opening_state A
opening_works N sized plant A view shows = record {
  shown = record { view = view; enough = subst IsView (sym view) (views_can_be_planned N sized plant).0; history = shows };
  legal = λ l within receiver. empty_is_a_beginning (loads N (lane_at N l));
}

pub opening_is_plannable : (N : Table) → IsSized N → (plant : ℕ) (A : AgentState) → A.view ≡ plant_rows N plant
    → ShowsHistory A opening_state.sent opening_state.taken opening_state.planned → IsPlannable A
opening_is_plannable N sized plant A view shows =
    record { network = N; sized = sized; plant = plant; state = opening_state; works = opening_works N sized plant A view shows }

-- no ends are those of no lanes
no_ends : (N : Table) (numbers : List ℕ) → numbers ≡ [] → AreEnds N numbers (λ _. []) []
no_ends N numbers none = record {
  network = All-nil (λ (e : End). e.name.network ≡ N);
  lanes = sym none;
  lists = All-nil (λ (e : End). e.list ≡ []);
}

pub opening_is_at_work : (N : Table) → IsSized N → (plant : ℕ) (A : AgentState) → length (lanes N) ≡ 0 → A.view ≡ plant_rows N plant
    → ShowsHistory A opening_state.sent opening_state.taken opening_state.planned → IsAtWork A [] []
opening_is_at_work N sized plant A none view shows = (
  N,
  plant,
  record {
    sized = sized;
    state = opening_state;
    works = opening_works N sized plant A view shows;
    sends_are = no_ends N _ (ap (λ (n : ℕ). filter (goes_from N plant) (range_with_len 0 n)) none);
    takes_are = no_ends N _ (ap (λ (n : ℕ). filter (comes_to N plant) (range_with_len 0 n)) none);
    explained = opening_is_explained N plant [] [] (All-nil IsUnused) (All-nil IsUnused);
  },
)
