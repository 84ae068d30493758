-- The run by threads: a plant at work in its thread books what its end of a lane took.
use Rattle.std.proofs.Common.{◌≡◌, ℕ, ◌<◌, Bool, List, [], ◌∷◌, ◌++◌, length, get_or, set, refl, sym, ap, ◌∙◌, subst}
use Rattle.std.proofs.lemmas.List.{map-set}
use Rattle.std.proofs.Math.Seq.{map-set_same}
use Rattle.mrp_master_data.specs.Table.{Table}
use Rattle.mrp_net.specs.Lanes.{lane_at}
use Rattle.mrp_plant_view.specs.Seen.{IsView}
use Rattle.mrp_plant_view.specs.declared.view.IncomingLane.{IncomingLane}
use Rattle.mrp_plant_view.specs.View.{comes_to, incoming_lane}
use Rattle.mrp_record.specs.declared.record.Record.{Record}
use Rattle.mrp_record.specs.Form.{IsInForm}
use Rattle.mrp_record.specs.Text.{IsBeginning}
use Rattle.mrp_protocol.specs.Loads.{loads}
use Rattle.mrp_protocol.specs.State.{after_take, changed}
use Rattle.mrp_protocol.proofs.Keeping.{changed_by}
use Rattle.mrp_history.specs.Stamps.{IsExplained, Passage}
use Rattle.mrp_history.proofs.Passing.{taken_is_explained}
use Rattle.mrp_lane.specs.Ends.{End, Name, HasLegalList, IsStampedOnce}
use Rattle.mrp_agent.specs.Shows.{ShowsHistory, BooksShow, form_of}
use Rattle.mrp_agent.specs.State.{AgentState, incoming_at}
use Rattle.mrp_agent.specs.Sent.{with_taken}
use Rattle.mrp_agent.proofs.Formed.{legal_at}
use Rattle.mrp_run.specs.Plant.{AtWork, IsAtWork, Kept, lanes_to, passage, passages}
use Rattle.mrp_run.proofs.Held.{is_longer, lanes_rise, list_is, list_was, one_more, put_back}
use Rattle.mrp_run.proofs.Keeping.{nothing_done}
use Rattle.mrp_run.proofs.Placed.{in_is, in_within}

-- ---- the record that was taken

-- its lane comes in
pub comes_in : (A : AgentState) (s t : List End) → IsAtWork A s t → (k : ℕ) → k < length t → k < length A.view.incoming
comes_in A s t (N, p, w) k within = in_within N p A.view w.works.shown.view w.state.taken t w.takes_are k within

-- the end y is taken from, and it is e then
module _ (A : AgentState) (s t : List End) (k : ℕ) (y e : End) (r : Record) (within : k < length t) (at : y ≡ get_or t k y)
    (name_kept : e.name ≡ y.name) (list_grown : e.list ≡ y.list ++ r ∷ []) (legal : HasLegalList e) where
  name : e.name ≡ (get_or t k y).name
  name = name_kept ∙ ap (λ (z : End). z.name) at

  list : e.list ≡ (get_or t k y).list ++ r ∷ []
  list = list_grown ∙ ap (λ (z : End). z.list ++ r ∷ []) at

  -- its lane has the place of the end among those that come in
  placed : (N : Table) (p : ℕ) (w : AtWork N p A s t) → incoming_at A.view k ≡ incoming_lane N e.name.lane
  placed N p w =
      in_is N p A.view w.works.shown.view w.state.taken t w.takes_are k within y ∙ ap (λ (n : Name). incoming_lane N n.lane) (sym name)

  number : (N : Table) (p : ℕ) (w : AtWork N p A s t) → (incoming_at A.view k).number.0 ≡ e.name.lane
  number N p w = ap (λ (z : IncomingLane). z.number.0) (placed N p w)

  -- what was taken with the record is a legal beginning in the network
  legal_there : (N : Table) (p : ℕ) (w : AtWork N p A s t) → IsBeginning (loads N (lane_at N e.name.lane)) (w.state.taken e.name.lane ++ r ∷ [])
  legal_there N p w =
      let network : e.name.network ≡ N = ap (λ (n : Name). n.network) name ∙ w.takes_are.network k y within in
      let is : e.list ≡ w.state.taken e.name.lane ++ r ∷ [] =
      list_is N (lanes_to N p) (lanes_rise N (comes_to N p)) w.state.taken t w.takes_are k y e r within name list in
      subst (λ (z : List Record). IsBeginning (loads N (lane_at N e.name.lane)) z) is
      (subst (λ (M : Table). IsBeginning (loads M (lane_at M e.name.lane)) e.list) network legal)

  -- no book refuses it
  pub not_refused : IsAtWork A s t
      → ((taken : ℕ → List Record) → BooksShow A taken
      → IsInForm (form_of A.view (incoming_at A.view k)) (taken (incoming_at A.view k).number.0 ++ r ∷ []) → ⊥) → ⊥
  not_refused (N, p, w) refused =
      let form : IsInForm (form_of A.view (incoming_at A.view k)) (w.state.taken e.name.lane ++ r ∷ []) =
      legal_at N w.sized p A.view w.works.shown.view e.name.lane k (placed N p w) (w.state.taken e.name.lane ++ r ∷ []) (legal_there N p w) in
      refused w.state.taken w.works.shown.history.books
      (subst (λ (n : ℕ). IsInForm (form_of A.view (incoming_at A.view k)) (w.state.taken n ++ r ∷ [])) (sym (number N p w)) form)

  -- its history goes on with the record, which has some stamp
  explained : (N : Table) (p : ℕ) (w : AtWork N p A s t) → IsStampedOnce (get_or t k y).stamps e.stamps
      → IsExplained N p (after_take w.state e.name.lane r) (passages s) (passages (set t k e))
  explained N p w (stamp, stamps) =
      let rises = lanes_rise N (comes_to N p) in
      let more = is_longer N (lanes_to N p) rises w.state.taken t w.takes_are k y e r within name list stamp stamps in
      let was = list_was N (lanes_to N p) rises w.state.taken t w.takes_are k y e r within name list in
      subst (λ (z : List Passage). IsExplained N p (after_take w.state e.name.lane r) (passages s) z)
      (sym (map-set passage t k e))
      (taken_is_explained N p w.state (passages s) (passages t) w.explained k (passage y) (passage e) r stamp more was)

  pub booked_kept : IsStampedOnce y.stamps e.stamps → (B : AgentState) → B.view ≡ A.view
      → ((sent taken : ℕ → List Record) (planned : ℕ → Bool) → ShowsHistory A sent taken planned
      → ShowsHistory B sent (with_taken A.view taken k r) planned)
      → Kept A s t B s (set t k e)
  booked_kept stamped B view booked = record {
    view = view;
    sends = refl;
    takes = map-set_same (λ (z : End). z.name) t k e y name;
    works = λ N p w. record {
      sized = w.sized;
      state = after_take w.state e.name.lane r;
      works = record {
        shown = record {
          view = view ∙ w.works.shown.view;
          enough = subst IsView (sym view) w.works.shown.enough;
          history = subst (λ (n : ℕ). ShowsHistory B w.state.sent (changed w.state.taken n (w.state.taken n ++ r ∷ [])) w.state.planned) (number N p w)
              (booked w.state.sent w.state.taken w.state.planned w.works.shown.history);
        };
        legal = λ n there receiver.
            changed_by (λ (z : List Record). IsBeginning (loads N (lane_at N n)) z) w.state.taken e.name.lane (w.state.taken e.name.lane ++ r ∷ []) n
            (λ here. subst (λ (j : ℕ). IsBeginning (loads N (lane_at N j)) (w.state.taken e.name.lane ++ r ∷ [])) (sym here) (legal_there N p w))
            (w.works.legal n there receiver);
      };
      sends_are = w.sends_are;
      takes_are = one_more N (lanes_to N p) (lanes_rise N (comes_to N p)) w.state.taken t w.takes_are k y e r within name list;
      explained = explained N p w (subst (λ (z : End). IsStampedOnce z.stamps e.stamps) at stamped);
    };
  }

-- ---- nothing to take

pub none_kept : (A : AgentState) (s t : List End) (k : ℕ) (y e : End) → y ≡ get_or t k y → e.name ≡ y.name → e.list ≡ y.list → e.stamps ≡ y.stamps
    → Kept A s t A s (set t k e)
none_kept A s t k y e at name list stamps =
    subst (λ (z : List End). Kept A s t A s z) (sym (put_back t k y e at name list stamps)) (nothing_done A s t)
