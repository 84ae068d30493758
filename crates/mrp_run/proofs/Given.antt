-- The run by threads: what a plant's agent gives to send in its thread is of an item that may be sent, and the pairs
-- that it has planned are ready.
use Rattle.std.proofs.Common.{◌≡◌, ℕ, ◌<◌, Bool, true, Some, List, length, get_or, sym, ap, subst, ◌∙◌, arith}
use Rattle.std.specs.List.{All, Contains}
use Rattle.std.proofs.lemmas.Bool.{eqb-true, false≢true}
use Rattle.std.proofs.lemmas.List.{get_or-map, length-map}
use Rattle.std.proofs.lemmas.List.Elements.{Contains-get_or}
use Rattle.std.proofs.lemmas.Option.{slice_get-get_or}
use Rattle.mrp_master_data.specs.declared.numbers.ItemNo.{ItemNo}
use Rattle.mrp_master_data.specs.Table.{Table, IsTable}
use Rattle.mrp_net.specs.declared.lane.Lane.{Lane}
use Rattle.mrp_net.specs.declared.lane.LaneKind.TheVariants.{Schedule}
use Rattle.mrp_net.specs.Lanes.{lane_at, lane_items, pair_on}
use Rattle.mrp_net.proofs.Behind.{items_have_sources}
use Rattle.mrp_plant_view.specs.declared.view.Call.{Call}
use Rattle.mrp_plant_view.specs.declared.view.OutgoingLane.{OutgoingLane}
use Rattle.mrp_plant_view.specs.Loads as view
use Rattle.mrp_plant_view.specs.View.{PlantRows, outgoing_item, outgoing_lane}
use Rattle.mrp_plant_view.proofs.Calling.{call_seen}
use Rattle.mrp_loops.specs.Sized.{IsSized}
use Rattle.mrp_record.specs.declared.record.Record.{Record}
use Rattle.mrp_record.specs.Entries.{Entry, LineOf, EndOf, ResetOf, Closing, content, is_of}
use Rattle.mrp_record.specs.Text.{Load}
use Rattle.mrp_protocol.specs.Loads.{load_of, loads}
use Rattle.mrp_protocol.specs.State.{State, IsDecided}
use Rattle.mrp_history.specs.History.{PlannedAreReady}
use Rattle.mrp_record.specs.Cursor as cursor
use Rattle.mrp_record.specs.Cursor.{Goods, OutFigures}
use Rattle.mrp_record.specs.CursorLaws.{IsQueued, MaySend}
use Rattle.mrp_protocol.specs.Goods.{IsSendable}
use Rattle.mrp_protocol.specs.LocalLaws.{HasGoods, IsPairAt}
use Rattle.mrp_protocol.proofs.LocalPlanned.{own}
use Rattle.mrp_protocol.proofs.Seeing.{ready_over_network}
use Rattle.mrp_agent.specs.InNetwork.{WorksIn}
use Rattle.mrp_agent.specs.Sending.{ContinuesSent, goods_at}
use Rattle.mrp_agent.specs.State.{AgentState, outgoing_at, out_at, plans_of, no_outgoing}
use Rattle.mrp_agent.proofs.Left.{lanes_are_seen}
use Rattle.mrp_agent.proofs.Network.{agrees_at, has_goods, works}

-- ---- what is given

-- a record that may be sent is of a queued item
queued_of : (goods : ℕ → Goods) (o : OutFigures) (item : ℕ) (e : Entry) → is_of item e ≡ true → MaySend goods o e → IsQueued goods o item
queued_of goods o item (LineOf i period quantity cumulative) of q = subst (IsQueued goods o) (eqb-true i item of) q
queued_of goods o item (EndOf i lines cumulative) of q = subst (IsQueued goods o) (eqb-true i item of) q
queued_of goods o item (ResetOf i closed) of q = subst (IsQueued goods o) (eqb-true i item of) q
queued_of goods o item Closing of q = absurd (false≢true of)

module _ (N : Table) (table : IsTable N) (planned : ℕ → Bool) (l : ℕ) (goods : ℕ → Goods) (o : OutFigures) (has : HasGoods N planned (outgoing_lane N l) goods)
    (queued : (place : ℕ) → Contains o.queue place → IsSendable planned (outgoing_lane N l) place) where
  abbrev lane : Lane
  lane = lane_at N l

  abbrev items : List ItemNo
  items = lane_items N lane

  -- a queued item is decided
  item_is_decided : (item : ItemNo) → IsQueued goods o item.0 → lane.kind ≡ Schedule → planned (pair_on N lane item) ≡ true
  item_is_decided item q kind =
      let sendable = queued q.place q.there in
      let within : q.place < length items = omega (arith, sendable.within, length-map items (outgoing_item N lane)) in
      let own_item : ItemNo = get_or items q.place item in
      let there : Contains items own_item = Contains-get_or items q.place item within in
      let load : Load = load_of N lane own_item in
      let read : get_or (loads N lane) q.place load ≡ load = get_or-map (load_of N lane) items q.place item load within in
      let some : Some load ≡ Some (cursor.goods_load (goods q.place)) =
      ap (λ (z : Load). Some z) (sym read) ∙ sym (slice_get-get_or (loads N lane) q.place load (omega (arith, within, length-map items (load_of N lane))))
      ∙ has.each q.place sendable in
      let loaded : load ≡ cursor.goods_load (goods q.place) = cc some in
      let same : own_item.0 ≡ item.0 = ap (λ (z : Load). z.item) loaded ∙ q.is in
      let seen : view.load_at (outgoing_lane N l).items q.place ≡ outgoing_item N lane own_item =
      get_or-map (outgoing_item N lane) items q.place item view.no_load within in
      let source = items_have_sources N table lane own_item there in
      let customer : (view.call_of (view.load_at (outgoing_lane N l).items q.place)).customer.0 ≡ pair_on N lane own_item =
      ap (λ (i : view.OutgoingLoad). (view.call_of i).customer.0) seen ∙ ap (λ (c : Call). c.customer.0) (call_seen N lane own_item kind) ∙ source.taker in
      subst (λ (z : ℕ). planned (pair_on N lane (record { 0 = z })) ≡ true) same (ap planned (sym customer) ∙ sendable.decided kind)

  pub given_may_be_decided : (e : Entry) → MaySend goods o e → IsDecided N planned lane e
  given_may_be_decided e may item of kind = item_is_decided item (queued_of goods o item.0 e of may) kind

-- what an agent gives to send on a lane is of an item that may be sent
pub given_is_decided : (N : Table) → IsSized N → (plant : ℕ) (s : State) (A : AgentState) → WorksIn N plant s A
    → (k : ℕ) → k < length A.view.outgoing → (r : Record) → ContinuesSent A s.sent s.taken k r
    → IsDecided N s.planned (lane_at N (outgoing_at A.view k).number.0) (content r)
given_is_decided N sized plant s A w k within r continues =
    let lane : OutgoingLane = outgoing_at A.view k in
    let l : ℕ = lane.number.0 in
    let S : PlantRows → Type 0 = λ V. All (λ z. z ≡ outgoing_lane N z.number.0) V.outgoing in
    let seen : S A.view = subst S (sym w.shown.view) (lanes_are_seen N plant) in
    let is : lane ≡ outgoing_lane N l = seen k no_outgoing within in
    let has : HasGoods N s.planned (outgoing_lane N l) (goods_at A s.taken k) =
    subst (λ (z : OutgoingLane). HasGoods N s.planned z (goods_at A s.taken k)) is (has_goods N sized plant s A w k within) in
    let queued : (place : ℕ) → Contains (out_at A k).queue place → IsSendable s.planned (outgoing_lane N l) place =
    subst (λ (z : OutgoingLane). (place : ℕ) → Contains (out_at A k).queue place → IsSendable s.planned z place) is
    (λ place there. ((w.shown.history.outs k within).queued place).0 there) in
    given_may_be_decided N sized.table s.planned l (goods_at A s.taken k) (out_at A k) has queued (content r)
    (continues (loads N (lane_at N l)) (agrees_at N sized plant s A w k within)).1

-- ---- what is planned

-- each pair that the agent has planned is ready, by its own plans
pub planned_is_ready : (N : Table) → IsSized N → (plant : ℕ) (s : State) (A : AgentState) → WorksIn N plant s A
    → PlannedAreReady N plant s
planned_is_ready N sized plant s A w x pair at done =
    let local = works N plant s A w in
    let here : IsPairAt N plant x = record { pair = pair; at_plant = at } in
    ready_over_network N sized.table plant s.planned s.taken x here
    (own N sized.table sized.loop_free plant s.taken local.legal s.planned (plans_of A) local.local x here done).ready
