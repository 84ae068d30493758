-- The world, event by event: what a plant's agent sends next is the next record of its lane.
use Rattle.std.proofs.Common.{◌≡◌, ℕ, ◌<◌, Bool, true, List, [], ◌∷◌, ◌++◌, length, get_or, refl, sym, ap, ◌∙◌, subst, arith, All}
use Rattle.std.proofs.lemmas.Bool.{eqb-true, false≢true}
use Rattle.std.proofs.lemmas.List.{get_or-map, length-map}
use Rattle.mrp_netting.specs.PlanRows.{PlanRows}
use Rattle.mrp_master_data.specs.declared.numbers.ItemNo.{ItemNo}
use Rattle.mrp_master_data.specs.Table.{Table, IsTable}
use Rattle.mrp_net.specs.declared.lane.Lane.{Lane}
use Rattle.mrp_net.specs.declared.lane.LaneKind.{LaneKind}
use Rattle.mrp_net.specs.declared.lane.LaneKind.TheVariants.{Despatch, Schedule}
use Rattle.mrp_net.specs.Lanes.{lane_at, lane_items, pair_on}
use Rattle.mrp_net.proofs.Behind.{items_have_sources}
use Rattle.mrp_plant_view.specs.declared.view.Call.{Call}
use Rattle.mrp_plant_view.specs.declared.view.OutgoingLane.{OutgoingLane}
use Rattle.mrp_plant_view.specs.Loads as view
use Rattle.mrp_plant_view.specs.Seen.{IsView}
use Rattle.mrp_plant_view.specs.View.{PlantRows, outgoing_item, outgoing_lane}
use Rattle.mrp_plant_view.proofs.Calling.{call_seen}
use Rattle.mrp_record.specs.declared.record.Record.{Record}
use Rattle.mrp_record.specs.Entries.{Entry, LineOf, EndOf, ResetOf, Closing, content}
use Rattle.mrp_record.specs.Text.{IsBeginning}
use Rattle.mrp_protocol.specs.Loads.{loads}
use Rattle.mrp_protocol.specs.State.{State, IsDecided, after_send, changed}
use Rattle.mrp_record.specs.CursorLaws.{IsQueued, MaySend}
use Rattle.mrp_protocol.specs.Goods.{goods_by, IsSendable}
use Rattle.mrp_agent.specs.Sending.{ContinuesSent, goods_at}
use Rattle.mrp_agent.specs.Sent.{GivenIsLegal, NoneCanBeSent, IsAppended}
use Rattle.mrp_agent.specs.Shows.{ShowsHistory}
use Rattle.mrp_agent.specs.State.{AgentState, outgoing_at, outgoing_place, out_at, plans_of, no_outgoing}
use Rattle.mrp_agent.proofs.Left.{lanes_are_seen}
use Rattle.mrp_agent.proofs.Network.{agrees_at, sent_is_within_64, nothing_legal_is_left}
use Rattle.mrp_agent.proofs.Placed.{out_placed}
use Rattle.mrp_agent.specs.InNetwork.{ShowsAgent, WorksIn}
use Rattle.mrp_world.specs.Moments.{Moment, IsAt, IsNext, SendsLane}
use Rattle.mrp_agent.specs.OwnPart.{IsOut}
use Rattle.mrp_world.proofs.AgentPlaces.{out_there}
use Rattle.mrp_world.proofs.AgentWorks.{works_in}

-- ---- what may be sent is decided

goods_item : (kind : LaneKind) (V : PlantRows) (taken : ℕ → List Record) (plans : ℕ → PlanRows) (l : ℕ) (i : view.OutgoingLoad)
    → (goods_by kind V taken plans l i).item ≡ i.item.0
goods_item Despatch V taken plans l i = refl
goods_item Schedule V taken plans l i = refl

-- the item at a place that may be sent
sendable_decided : (N : Table) → IsTable N → (planned : ℕ → Bool) (l place : ℕ) → IsSendable planned (outgoing_lane N l) place
    → (item : ItemNo) → (view.load_at (outgoing_lane N l).items place).item ≡ item → (lane_at N l).kind ≡ Schedule
    → planned (pair_on N (lane_at N l) item) ≡ true
sendable_decided N is planned l place sendable item same kind =
    let lane : Lane = lane_at N l in
    let items : List ItemNo = lane_items N lane in
    let within : place < length items = omega (arith, sendable.within, length-map items (outgoing_item N lane)) in
    let read : view.load_at (outgoing_lane N l).items place ≡ outgoing_item N lane (get_or items place item) =
    get_or-map (outgoing_item N lane) items place item view.no_load within in
    let there : get_or items place item ≡ item = sym (ap (λ (i : view.OutgoingLoad). i.item) read) ∙ same in
    let has = items_have_sources N is lane item (place, within, there) in
    ap planned (sym has.taker) ∙ ap (λ (c : Call). planned c.customer.0) (sym (call_seen N lane item kind))
    ∙ sym (ap (λ (i : view.OutgoingLoad). planned (view.call_of i).customer.0) (read ∙ ap (outgoing_item N lane) there)) ∙ sendable.decided kind

module _ (N : Table) (is : IsTable N) (p : ℕ) (s : State) (A : AgentState) (w : WorksIn N p s A)
    (k l : ℕ) (within : k < length A.view.outgoing) (number : (outgoing_at A.view k).number.0 ≡ l) where
  lane_is : outgoing_at A.view k ≡ outgoing_lane N l
  lane_is =
      let S : PlantRows → Type 0 = λ V. All (λ z. z ≡ outgoing_lane N z.number.0) V.outgoing in
      let seen : S A.view = subst S (sym w.shown.view) (lanes_are_seen N p) in
      seen k no_outgoing within ∙ ap (outgoing_lane N) number

  queued_decided : (i : ℕ) → IsQueued (goods_at A s.taken k) (out_at A k) i → (item : ItemNo) → i ≡ item.0 → (lane_at N l).kind ≡ Schedule
      → s.planned (pair_on N (lane_at N l) item) ≡ true
  queued_decided i q item same kind =
      let lane : OutgoingLane = outgoing_at A.view k in
      let sendable : IsSendable s.planned (outgoing_lane N l) q.place =
      subst (λ (z : OutgoingLane). IsSendable s.planned z q.place) lane_is (((w.shown.history.outs k within).queued q.place).0 q.there) in
      let its : (view.load_at (outgoing_lane N l).items q.place).item.0 ≡ item.0 =
      ap (λ (z : OutgoingLane). (view.load_at z.items q.place).item.0) (sym lane_is)
      ∙ sym (goods_item lane.kind A.view s.taken (plans_of A) lane.number.0 (view.load_at lane.items q.place)) ∙ q.is ∙ same in
      sendable_decided N is s.planned l q.place sendable item (ap (λ (n : ℕ). let z : ItemNo = record { 0 = n } in z) its) kind

  may_decided : (e : Entry) → MaySend (goods_at A s.taken k) (out_at A k) e → IsDecided N s.planned (lane_at N l) e
  may_decided (LineOf i period quantity cumulative) may item of kind = queued_decided i may item (eqb-true i item.0 of) kind
  may_decided (EndOf i lines cumulative) may item of kind = queued_decided i may item (eqb-true i item.0 of) kind
  may_decided (ResetOf i closed) may item of kind = queued_decided i may item (eqb-true i item.0 of) kind
  may_decided Closing may item of kind = absurd (false≢true of)

-- ---- at a moment

pub given_is_next : (A : AgentState) (l : ℕ) (r : Record) → GivenIsLegal A (outgoing_place A.view l) r
    → (m : Moment) (p : ℕ) → IsAt ShowsAgent m p A → IsOut m.network p l → IsNext m l r
given_is_next A l r given m p at out =
    let N : Table = m.network in
    let k : ℕ = outgoing_place A.view l in
    let w = works_in A m p at in
    let place = out_placed A.view N p l at.shown.view (out_there N p l out) in
    let n : ℕ = (outgoing_at A.view k).number.0 in
    let bounded = sent_is_within_64 N at.sized p m.state A w k place.within in
    let continues : ContinuesSent A m.state.sent m.state.taken k r = given m.state.sent m.state.taken m.state.planned at.shown.history bounded in
    let both = continues (loads N (lane_at N n)) (agrees_at N at.sized p m.state A w k place.within) in
    record {
      legal = subst (λ (z : ℕ). IsBeginning (loads N (lane_at N z)) (m.state.sent z ++ r ∷ [])) place.number both.0;
      decided = may_decided N at.sized.table p m.state A w k l place.within place.number (content r) both.1;
    }

pub none_is_next : (A : AgentState) (l : ℕ) → NoneCanBeSent A (outgoing_place A.view l)
    → (m : Moment) (p : ℕ) → IsAt ShowsAgent m p A → IsOut m.network p l → (r : Record) → ¬ IsNext m l r
none_is_next A l none m p at out r = λ next.
    let N : Table = m.network in
    let k : ℕ = outgoing_place A.view l in
    let w = works_in A m p at in
    let place = out_placed A.view N p l at.shown.view (out_there N p l out) in
    let decided = subst (λ (z : ℕ). IsDecided N m.state.planned (lane_at N z) (content r)) (sym place.number) next.decided in
    let legal = subst (λ (z : ℕ). IsBeginning (loads N (lane_at N z)) (m.state.sent z ++ r ∷ [])) (sym place.number) next.legal in
    nothing_legal_is_left N at.sized p m.state A w k place.within
    (none m.state.sent m.state.taken m.state.planned at.shown.history) r decided legal

pub sent_shows : (A B : AgentState) (l : ℕ) (r : Record) → B.view ≡ A.view → IsAppended A B (outgoing_place A.view l) r
    → (m : Moment) (p : ℕ) → IsAt ShowsAgent m p A → IsOut m.network p l → ShowsAgent m.network p (after_send m.state l r) B
sent_shows A B l r same appended m p at out =
    let k : ℕ = outgoing_place A.view l in
    let w = works_in A m p at in
    let place = out_placed A.view m.network p l at.shown.view (out_there m.network p l out) in
    let bounded = sent_is_within_64 m.network at.sized p m.state A w k place.within in
    record {
      view = same ∙ at.shown.view;
      enough = subst IsView (sym same) at.shown.enough;
      history = subst (λ (z : ℕ). ShowsHistory B (changed m.state.sent z (m.state.sent z ++ r ∷ [])) m.state.taken m.state.planned) place.number
          (appended m.state.sent m.state.taken m.state.planned at.shown.history bounded);
    }

pub out_within : (A : AgentState) (l : ℕ) → SendsLane ShowsAgent A l → outgoing_place A.view l < length A.view.outgoing
out_within A l (m, p, at, out) = (out_placed A.view m.network p l at.shown.view (out_there m.network p l out)).within
