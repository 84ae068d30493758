-- The world, event by event: a plant's agent books what continues a lane's form, so the first record
-- of a mailbox, and nothing else.
use Rattle.std.proofs.Common.{◌≡◌, ℕ, ◌<◌, Bool, Some, List, [], ◌∷◌, ◌++◌, length, sym, ap, ◌∙◌, subst, append_assoc}
use Rattle.mrp_master_data.specs.Table.{Table}
use Rattle.mrp_net.specs.declared.lane.Lane.{Lane}
use Rattle.mrp_net.specs.Lanes.{lane_at}
use Rattle.mrp_plant_view.specs.declared.view.IncomingLane.{IncomingLane}
use Rattle.mrp_plant_view.specs.Seen.{IsView}
use Rattle.mrp_plant_view.specs.View.{plant_rows}
use Rattle.mrp_record.specs.declared.record.Record.{Record}
use Rattle.mrp_record.specs.Form.{IsInForm, LaneForm}
use Rattle.mrp_record.specs.Text.{IsBeginning}
use Rattle.mrp_record.proofs.Beginnings.{fronts_are_beginnings}
use Rattle.mrp_book.specs.declared.fault.BookFault.{BookFault}
use Rattle.mrp_book.specs.Faults.{first_fault}
use Rattle.mrp_book.specs.Figures as book
use Rattle.mrp_book.specs.Figures.{figures}
use Rattle.mrp_book.specs.Meanings.{first_had}
use Rattle.mrp_book.proofs.Meaning.{faults_are_first}
use Rattle.mrp_protocol.specs.LoadLaws.{lane_form}
use Rattle.mrp_protocol.specs.Loads.{loads}
use Rattle.mrp_protocol.specs.State.{CanTake, after_take, changed}
use Rattle.mrp_protocol.proofs.Ordering.{lanes_keep_order}
use Rattle.mrp_agent.specs.Shows.{ShowsHistory, BooksShow, form_of}
use Rattle.mrp_agent.specs.State.{AgentState, book_at, incoming_at, incoming_place}
use Rattle.mrp_agent.proofs.Formed.{form_seen, legal_at}
use Rattle.mrp_agent.proofs.Placed.{in_placed}
use Rattle.mrp_agent.proofs.Sent.{changed_there}
use Rattle.mrp_agent.specs.InNetwork.{ShowsAgent}
use Rattle.mrp_world.specs.Moments.{Moment, IsAt, Receives}
use Rattle.mrp_agent.specs.OwnPart.{IsIn}
use Rattle.mrp_world.proofs.AgentPlaces.{in_there}

-- the form by which an agent books what comes over a lane
abbrev pub form_on : AgentState → ℕ → LaneForm
form_on A l = form_of A.view (incoming_at A.view (incoming_place A.view l))

-- ---- what can be taken is in form

next_in_form : (A : AgentState) (l : ℕ) (r : Record) (m : Moment) (p : ℕ) → IsAt ShowsAgent m p A → IsIn m.network p l → CanTake m.network m.state l r
    → IsInForm (form_on A l) (m.state.taken l ++ r ∷ [])
next_in_form A l r m p at comes can =
    let N : Table = m.network in
    let lane : Lane = lane_at N l in
    let all : IsBeginning (loads N lane) ((m.state.taken l ++ r ∷ []) ++ can.rest) =
    subst (IsBeginning (loads N lane)) (can.next ∙ sym (append_assoc (m.state.taken l) (r ∷ []) can.rest))
    (lanes_keep_order N m.capacity m.state at.reached l comes.lane).sent in
    let front = fronts_are_beginnings (loads N lane) (m.state.taken l ++ r ∷ []) can.rest all in
    legal_at N at.sized p A.view at.shown.view l (incoming_place A.view l) (in_placed A.view N p l at.shown.view (in_there N p l comes)).is
    (m.state.taken l ++ r ∷ []) front

-- ---- the form by which it books

module _ (A : AgentState) (l : ℕ) (N : Table) (p : ℕ) (view : A.view ≡ plant_rows N p) (comes : IsIn N p l) where
  -- it is the lane's
  form_is : lane_form N (lane_at N l) ≡ form_on A l
  form_is = form_seen N p A.view view l (incoming_place A.view l) (in_placed A.view N p l view (in_there N p l comes)).is

  -- its book shows what was taken on the lane
  book_shows : (taken : ℕ → List Record) → BooksShow A taken → book.BookShows (form_on A l) (book_at A (incoming_place A.view l)) (taken l)
  book_shows taken books =
      let k : ℕ = incoming_place A.view l in
      let place = in_placed A.view N p l view (in_there N p l comes) in
      let number : (incoming_at A.view k).number.0 ≡ l = ap (λ (lane : IncomingLane). lane.number.0) place.is in
      subst (λ (n : ℕ). book.BookShows (form_of A.view (incoming_at A.view k)) (book_at A k) (taken n)) number (books k place.within)

-- ---- what its calls answer

module _ (A B : AgentState) (l : ℕ) (r : Record) (same : B.view ≡ A.view)
    (booked : (sent taken : ℕ → List Record) (planned : ℕ → Bool) → ShowsHistory A sent taken planned
    → ShowsHistory B sent (changed taken l (taken l ++ r ∷ [])) planned)
    (m : Moment) (p : ℕ) (at : IsAt ShowsAgent m p A) (comes : IsIn m.network p l) where
  pub booked_shows : ShowsAgent m.network p (after_take m.state l r) B
  booked_shows = record {
    view = same ∙ at.shown.view;
    enough = subst IsView (sym same) at.shown.enough;
    history = booked m.state.sent m.state.taken m.state.planned at.shown.history;
  }

  -- what is booked continues the lane's form
  pub booked_fits : IsInForm (lane_form m.network (lane_at m.network l)) (m.state.taken l ++ r ∷ [])
  booked_fits =
      let records : List Record = m.state.taken l ++ r ∷ [] in
      let view = same ∙ at.shown.view in
      let shown = booked_shows.history in
      subst (λ (F : LaneForm). IsInForm F records) (sym (form_is B l m.network p view comes))
      (subst (IsInForm (form_on B l)) (changed_there m.state.taken l records)
      (book_shows B l m.network p view comes (changed m.state.taken l records) shown.books).in_form)

module _ (A : AgentState) (l : ℕ) (r : Record) (fault : BookFault)
    (refused : (taken : ℕ → List Record) → BooksShow A taken
    → (first_fault (figures (form_on A l) (taken l)) r ≡ Some fault) × (IsInForm (form_on A l) (taken l ++ r ∷ []) → ⊥))
    (m : Moment) (p : ℕ) (at : IsAt ShowsAgent m p A) (comes : IsIn m.network p l) where
  -- it refuses for the first fault of what it books by
  pub refused_first : first_had (lane_form m.network (lane_at m.network l)) (m.state.taken l) r ≡ Some fault
  refused_first =
      let records : List Record = m.state.taken l in
      let shown = book_shows A l m.network p at.shown.view comes m.state.taken at.shown.history.books in
      ap (λ (form : LaneForm). first_had form records r) (form_is A l m.network p at.shown.view comes)
      ∙ sym (faults_are_first (form_on A l) records shown.in_form r) ∙ (refused m.state.taken at.shown.history.books).0

  -- and what isn't in form
  pub refused_is_not_first : ¬ CanTake m.network m.state l r
  refused_is_not_first can = (refused m.state.taken at.shown.history.books).1 (next_in_form A l r m p at comes can)

pub in_within : (A : AgentState) (l : ℕ) → Receives ShowsAgent A l → incoming_place A.view l < length A.view.incoming
in_within A l (m, p, at, comes) = (in_placed A.view m.network p l at.shown.view (in_there m.network p l comes)).within
