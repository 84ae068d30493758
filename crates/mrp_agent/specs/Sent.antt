-- The agent: what calls of its sending and booking promise of a lane at a place, for every history that it shows.
use Rattle.std.specs.Prelude.{◌≡◌, ℕ, Bool, List, [], ◌∷◌, ◌++◌, Some}
use Rattle.mrp_plant_view.specs.View.{PlantRows}
use Rattle.mrp_record.specs.declared.record.Record.{Record}
use Rattle.mrp_record.specs.Form.{IsInForm}
use Rattle.mrp_book.specs.declared.fault.BookFault.{BookFault}
use Rattle.mrp_book.specs.Faults.{first_fault}
use Rattle.mrp_book.specs.Figures.{figures}
use Rattle.mrp_protocol.specs.State.{changed}
use Rattle.mrp_agent.specs.State.{AgentState, incoming_at, outgoing_at}
use Rattle.mrp_agent.specs.Sending.{ContinuesSent, NothingContinues, IsWithin64}
use Rattle.mrp_agent.specs.Shows.{ShowsHistory, form_of}

-- the record that is given continues what was sent
abbrev pub GivenIsLegal : AgentState → ℕ → Record → Type 0
GivenIsLegal A k r =
    (sent taken : ℕ → List Record) (planned : ℕ → Bool) → ShowsHistory A sent taken planned → IsWithin64 A taken k
    → ContinuesSent A sent taken k r

-- where none is given none does
abbrev pub NoneCanBeSent : AgentState → ℕ → Type 0
NoneCanBeSent A k = (sent taken : ℕ → List Record) (planned : ℕ → Bool) → ShowsHistory A sent taken planned
    → NothingContinues A sent taken k

-- the lane's sent list with one more record
abbrev pub with_sent : AgentState → (ℕ → List Record) → ℕ → Record → ℕ → List Record
with_sent A sent k r = changed sent (outgoing_at A.view k).number.0 (sent (outgoing_at A.view k).number.0 ++ r ∷ [])

-- the record is appended to what was sent on the lane, and nothing else has changed
abbrev pub IsAppended : AgentState → AgentState → ℕ → Record → Type 0
IsAppended old new k r =
    (sent taken : ℕ → List Record) (planned : ℕ → Bool) → ShowsHistory old sent taken planned
    → IsWithin64 old taken k → ShowsHistory new (with_sent old sent k r) taken planned

-- the lane's taken list with one more record
abbrev pub with_taken : PlantRows → (ℕ → List Record) → ℕ → Record → ℕ → List Record
with_taken V taken k r = changed taken (incoming_at V k).number.0 (taken (incoming_at V k).number.0 ++ r ∷ [])

-- after this list of the lane at a place the record has this fault first, and with it the list isn't in form
abbrev pub IsRefused : PlantRows → ℕ → List Record → Record → BookFault → Type 0
IsRefused V k list r fault = (first_fault (figures (form_of V (incoming_at V k)) list) r ≡ Some fault)
    × (IsInForm (form_of V (incoming_at V k)) (list ++ r ∷ []) → ⊥)
