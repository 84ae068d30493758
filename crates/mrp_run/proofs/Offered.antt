-- The run by threads: a plant at work in its thread sends the record that its agent has next.
use Rattle.std.proofs.Common.{◌≡◌, ℕ, ◌<◌, List, [], ◌∷◌, ◌++◌, length, get_or, set, refl, sym, ap, ◌∙◌, subst}
use Rattle.std.proofs.lemmas.List.{map-set}
use Rattle.std.proofs.Math.Seq.{map-set_same}
use Rattle.mrp_master_data.specs.Table.{Table}
use Rattle.mrp_net.specs.Lanes.{lane_at}
use Rattle.mrp_plant_view.specs.Seen.{IsView}
use Rattle.mrp_plant_view.specs.declared.view.OutgoingLane.{OutgoingLane}
use Rattle.mrp_plant_view.specs.View.{goes_from}
use Rattle.mrp_record.specs.declared.record.Record.{Record}
use Rattle.mrp_record.specs.Entries.{content}
use Rattle.mrp_record.specs.Text.{IsBeginning}
use Rattle.mrp_protocol.specs.Loads.{loads}
use Rattle.mrp_protocol.specs.State.{IsDecided, after_send, changed}
use Rattle.mrp_history.specs.Stamps.{IsExplained, Passage}
use Rattle.mrp_history.proofs.Passing.{sent_is_explained}
use Rattle.mrp_lane.specs.Ends.{End, Name, IsNextRecord}
use Rattle.mrp_agent.specs.Sending.{ContinuesSent, IsWithin64}
use Rattle.mrp_agent.specs.Sent.{GivenIsLegal, IsAppended}
use Rattle.mrp_agent.specs.Shows.{ShowsHistory}
use Rattle.mrp_agent.specs.State.{AgentState, outgoing_at}
use Rattle.mrp_agent.proofs.Network.{sent_is_legal, sent_is_within_64}
use Rattle.mrp_run.specs.Plant.{AtWork, IsAtWork, Kept, clock_at, lanes_from, passage, passages}
use Rattle.mrp_run.proofs.Given.{given_is_decided}
use Rattle.mrp_run.proofs.Held.{is_longer, lanes_rise, list_was, one_more, put_back}
use Rattle.mrp_run.proofs.Keeping.{nothing_done}
use Rattle.mrp_run.proofs.Placed.{out_is, out_within}

-- its lane has the place of the end among those that go out
placed : (A : AgentState) (s t : List End) (N : Table) (p : ℕ) (w : AtWork N p A s t) (k : ℕ) → k < length s → k < length A.view.outgoing
placed A s t N p w k within = out_within N p A.view w.works.shown.view w.state.sent s w.sends_are k within

pub goes_out : (A : AgentState) (s t : List End) → IsAtWork A s t → (k : ℕ) → k < length s → k < length A.view.outgoing
goes_out A s t (N, p, w) k within = placed A s t N p w k within

-- the record is offered at the end y
module _ (A : AgentState) (s t : List End) (k : ℕ) (y : End) (r : Record) (within : k < length s) (at : y ≡ get_or s k y) where
  number : (N : Table) (p : ℕ) (w : AtWork N p A s t) → (outgoing_at A.view k).number.0 ≡ (get_or s k y).name.lane
  number N p w = ap (λ (z : OutgoingLane). z.number.0) (out_is N p A.view w.works.shown.view w.state.sent s w.sends_are k within y)

  -- what the agent gives continues what was sent
  continues : (N : Table) (p : ℕ) (w : AtWork N p A s t) → GivenIsLegal A k r → ContinuesSent A w.state.sent w.state.taken k r
  continues N p w given =
      given w.state.sent w.state.taken w.state.planned w.works.shown.history
      (sent_is_within_64 N w.sized p w.state A w.works k (placed A s t N p w k within))

  -- so it continues what went through the end
  pub given_is_next : IsAtWork A s t → GivenIsLegal A k r → IsNextRecord y r
  given_is_next (N, p, w) given =
      let e : End = get_or s k y in
      let n : ℕ = e.name.lane in
      let begins = sent_is_legal N w.sized p w.state A w.works k (placed A s t N p w k within) r (continues N p w given) in
      let on_lane : IsBeginning (loads N (lane_at N n)) (w.state.sent n ++ r ∷ []) =
      subst (λ (z : ℕ). IsBeginning (loads N (lane_at N z)) (w.state.sent z ++ r ∷ [])) (number N p w) begins in
      let next : IsNextRecord e r =
      subst (λ (M : Table). IsBeginning (loads M (lane_at M n)) (e.list ++ r ∷ [])) (sym (w.sends_are.network k y within))
      (subst (λ (z : List Record). IsBeginning (loads N (lane_at N n)) (z ++ r ∷ [])) (sym (w.sends_are.lists k y within)) on_lane) in
      subst (λ (z : End). IsNextRecord z r) (sym at) next

  -- it is of an item that may be sent
  decided : (N : Table) (p : ℕ) (w : AtWork N p A s t) → GivenIsLegal A k r
      → IsDecided N w.state.planned (lane_at N (get_or s k y).name.lane) (content r)
  decided N p w given =
      subst (λ (z : ℕ). IsDecided N w.state.planned (lane_at N z) (content r)) (number N p w)
      (given_is_decided N w.sized p w.state A w.works k (placed A s t N p w k within) r (continues N p w given))

  -- its history goes on with the record, sent at the plant's clock
  explained : (N : Table) (p : ℕ) (w : AtWork N p A s t) (e : End) → e.name ≡ (get_or s k y).name → e.list ≡ (get_or s k y).list ++ r ∷ []
      → e.stamps ≡ (get_or s k y).stamps ++ clock_at s t ∷ [] → GivenIsLegal A k r
      → IsExplained N p (after_send w.state e.name.lane r) (passages (set s k e)) (passages t)
  explained N p w e name list stamps given =
      let rises = lanes_rise N (goes_from N p) in
      let more = is_longer N (lanes_from N p) rises w.state.sent s w.sends_are k y e r within name list (clock_at s t) stamps in
      let was = list_was N (lanes_from N p) rises w.state.sent s w.sends_are k y e r within name list in
      let may : IsDecided N w.state.planned (lane_at N e.name.lane) (content r) =
      subst (λ (z : Name). IsDecided N w.state.planned (lane_at N z.lane) (content r)) (sym name) (decided N p w given) in
      subst (λ (z : List Passage). IsExplained N p (after_send w.state e.name.lane r) z (passages t))
      (sym (map-set passage s k e))
      (sent_is_explained N p w.state (passages s) (passages t) w.explained k (passage y) (passage e) r more was may)

  -- once it is sent the plant is at work with it
  pub sent_kept : (e : End) → e.name ≡ y.name → e.list ≡ y.list ++ r ∷ [] → e.stamps ≡ y.stamps ++ clock_at s t ∷ [] → GivenIsLegal A k r
      → (B : AgentState) → B.view ≡ A.view → IsAppended A B k r → Kept A s t B (set s k e) t
  sent_kept e name_kept list_grown stamped given B view appended =
      let name : e.name ≡ (get_or s k y).name = name_kept ∙ ap (λ (z : End). z.name) at in
      let list : e.list ≡ (get_or s k y).list ++ r ∷ [] = list_grown ∙ ap (λ (z : End). z.list ++ r ∷ []) at in
      let stamps : e.stamps ≡ (get_or s k y).stamps ++ clock_at s t ∷ [] = stamped ∙ ap (λ (z : End). z.stamps ++ clock_at s t ∷ []) at in
      record {
        view = view;
        sends = map-set_same (λ (z : End). z.name) s k e y name;
        takes = refl;
        works = λ N p w.
            let bounded : IsWithin64 A w.state.taken k = sent_is_within_64 N w.sized p w.state A w.works k (placed A s t N p w k within) in
            record {
              sized = w.sized;
              state = after_send w.state e.name.lane r;
              works = record {
                shown = record {
                  view = view ∙ w.works.shown.view;
                  enough = subst IsView (sym view) w.works.shown.enough;
                  history = subst (λ (z : ℕ). ShowsHistory B (changed w.state.sent z (w.state.sent z ++ r ∷ [])) w.state.taken w.state.planned)
                      (number N p w ∙ sym (ap (λ (n : Name). n.lane) name))
                      (appended w.state.sent w.state.taken w.state.planned w.works.shown.history bounded);
                };
                legal = w.works.legal;
              };
              sends_are = one_more N (lanes_from N p) (lanes_rise N (goes_from N p)) w.state.sent s w.sends_are k y e r within name list;
              takes_are = w.takes_are;
              explained = explained N p w e name list stamps given;
            };
      }

-- ---- no room

pub refused_kept : (A : AgentState) (s t : List End) (k : ℕ) (y e : End) → y ≡ get_or s k y → e.name ≡ y.name → e.list ≡ y.list → e.stamps ≡ y.stamps
    → Kept A s t A (set s k e) t
refused_kept A s t k y e at name list stamps =
    subst (λ (z : List End). Kept A s t A z t) (sym (put_back s k y e at name list stamps)) (nothing_done A s t)
