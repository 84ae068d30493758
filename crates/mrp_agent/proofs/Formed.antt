-- The agent: what is legal on a lane that comes in is in the form by which the agent books it.
use Rattle.std.proofs.Common.{◌≡◌, ℕ, Bool, List, sym, ap, ◌∙◌, subst}
use Rattle.mrp_master_data.specs.Table.{Table, horizon}
use Rattle.mrp_net.specs.Lanes.{lane_at}
use Rattle.mrp_net.proofs.Routing.{map-map}
use Rattle.mrp_net.specs.LaneLaws.{is_schedule}
use Rattle.mrp_plant_view.specs.declared.view.IncomingLane.{IncomingLane}
use Rattle.mrp_plant_view.specs.View.{PlantRows, incoming_lane, plant_rows}
use Rattle.mrp_loops.specs.Sized.{IsSized}
use Rattle.mrp_record.specs.declared.record.Record.{Record}
use Rattle.mrp_record.specs.Form.{FormItem, LaneForm, IsInForm}
use Rattle.mrp_record.specs.Text.{IsBeginning}
use Rattle.mrp_book.specs.Figures.{book_form_item}
use Rattle.mrp_protocol.specs.LoadLaws.{lane_form}
use Rattle.mrp_protocol.specs.Loads.{loads}
use Rattle.mrp_protocol.specs.Seen.{seen_form}
use Rattle.mrp_protocol.proofs.Sending.{forms_are_seen}
use Rattle.mrp_protocol.proofs.Small.{legal_is_in_form}
use Rattle.mrp_agent.specs.Shows.{book_item, form_of}
use Rattle.mrp_agent.specs.State.{incoming_at}

abbrev form_with : ℕ → Bool → List FormItem → LaneForm
form_with periods rising items = record { rising = rising; horizon = periods; items = items }

-- the form of a lane by what its receiver sees
form_is : (V : PlantRows) (lane : IncomingLane) → seen_form V.horizon lane ≡ form_of V lane
form_is V lane = ap (form_with V.horizon (is_schedule lane.kind)) (sym (map-map book_form_item book_item lane.items))

-- it is the form by which the lane's receiver books, wherever it sees the lane
pub form_seen : (N : Table) (p : ℕ) (V : PlantRows) → V ≡ plant_rows N p → (l k : ℕ) → incoming_at V k ≡ incoming_lane N l
    → lane_form N (lane_at N l) ≡ form_of V (incoming_at V k)
form_seen N p V view l k is =
    let periods : horizon N ≡ V.horizon = sym (ap (λ (z : PlantRows). z.horizon) view) in
    forms_are_seen N l ∙ ap (λ (h : ℕ). seen_form h (incoming_lane N l)) periods ∙ form_is V (incoming_lane N l) ∙ ap (form_of V) (sym is)

pub legal_at : (N : Table) → IsSized N → (p : ℕ) (V : PlantRows) → V ≡ plant_rows N p → (l k : ℕ) → incoming_at V k ≡ incoming_lane N l
    → (records : List Record) → IsBeginning (loads N (lane_at N l)) records → IsInForm (form_of V (incoming_at V k)) records
legal_at N sized p V view l k is records legal =
    subst (λ (form : LaneForm). IsInForm form records) (form_seen N p V view l k is) (legal_is_in_form N sized (lane_at N l) records legal)
