-- The agent: a record that the events let its plant send is one that its queue lets it send.
use Rattle.std.proofs.Common.{◌≡◌, ℕ, ◌<◌, Bool, true, Some, List, [], ◌∷◌, ◌++◌, ◌⊎◌, inl, inr, length, get_or, refl, sym, ap, ◌∙◌, subst, arith}
use Rattle.std.specs.List.{All, Contains, filter}
use Rattle.std.specs.List.Sorted.{IsPermutation}
use Rattle.std.proofs.lemmas.Bool.{eq-eqb, eqb-true}
use Rattle.std.proofs.lemmas.List.{get_or-map, length-map}
use Rattle.std.proofs.lemmas.List.Elements.{All-map}
use Rattle.std.proofs.lemmas.Option.{slice_get-get_or}
use Rattle.mrp_master_data.specs.declared.numbers.ItemNo.{ItemNo}
use Rattle.mrp_master_data.specs.Table.{Table, IsTable}
use Rattle.mrp_net.specs.declared.lane.Lane.{Lane}
use Rattle.mrp_net.specs.declared.lane.LaneKind.TheVariants.{Schedule}
use Rattle.mrp_net.specs.Lanes.{lane_at, lane_items, pair_on}
use Rattle.mrp_net.proofs.Behind.{items_have_sources}
use Rattle.mrp_net.proofs.Members.{In, In-append_right}
use Rattle.mrp_plant_view.specs.declared.view.Call.{Call}
use Rattle.mrp_plant_view.specs.declared.view.OutgoingLane.{OutgoingLane}
use Rattle.mrp_plant_view.specs.Loads as view
use Rattle.mrp_plant_view.specs.View.{goes_from, lane_numbers, outgoing_item, outgoing_lane, outgoing_lanes}
use Rattle.mrp_plant_view.proofs.Calling.{call_seen}
use Rattle.mrp_record.specs.declared.record.Record.{Record}
use Rattle.mrp_record.specs.Entries.{Entry, LineOf, EndOf, ResetOf, Closing, content, contents, is_of}
use Rattle.mrp_record.specs.Text.{Load, IsBeginning, text_of}
use Rattle.mrp_record.proofs.Beginnings.{contents_parts}
use Rattle.mrp_record.proofs.Own.{AllOf, AllOf-block}
use Rattle.mrp_record.proofs.Standing.{IsWithin, stands}
use Rattle.mrp_protocol.specs.Loads.{loads, load_of}
use Rattle.mrp_protocol.specs.State.{IsDecided}
use Rattle.mrp_protocol.proofs.Going.{AllOf_at, item_of_load, from_order}
use Rattle.mrp_record.specs.Cursor as cursor
use Rattle.mrp_record.specs.Cursor.{OutFigures, Goods}
use Rattle.mrp_record.specs.CursorLaws.{IsQueued, MaySend}
use Rattle.mrp_protocol.specs.Goods.{IsSendable}
use Rattle.mrp_protocol.specs.LocalLaws.{HasGoods}

-- ---- what a record is of

-- the item of a lane that a record is of
record IsOfItem (N : Table) (lane : Lane) (e : Entry) : Type 0 where
  item : ItemNo
  there : Contains (lane_items N lane) item
  of : is_of item.0 e ≡ true

-- a record that continues a legal beginning closes the lane or is of one of its items
continues_of : (N : Table) (lane : Lane) (sent : List Record) (r : Record) → IsBeginning (loads N lane) (sent ++ r ∷ [])
    → (content r ≡ Closing) ⊎ IsOfItem N lane (content r)
continues_of N lane sent r begins =
    let order : List Load = begins.text.order in
    let rest : List Entry = begins.rest in
    let whole : contents sent ++ content r ∷ rest ≡ text_of order = sym (contents_parts sent (r ∷ []) rest) ∙ begins.text.is in
    elim (stands order (contents sent) (content r ∷ rest) whole) [
      | inl w ↦ inr (in_block order begins.text.once w)
      | inr g ↦ elim g [
        | inl c ↦ let closing : content r ≡ Closing = cc (c.rest_is) in inl closing
        | inr a ↦ absurd (some_rest (content r) rest a.rest_is)
      ]
    ]
  where
    some_rest : (e : Entry) (es : List Entry) → e ∷ es ≡ [] → ⊥
    some_rest e es h = cc

    in_block : (order : List Load) → IsPermutation (loads N lane) order → IsWithin order (contents sent) (content r ∷ begins.rest) → IsOfItem N lane (content r)
    in_block order once w =
        let same : content r ≡ w.next = cc (w.rest_is) in
        let of : AllOf w.load.item (w.part ++ w.next ∷ w.more) = subst (AllOf w.load.item) w.block_is (AllOf-block w.load) in
        let its : is_of w.load.item (content r) ≡ true = ap (is_of w.load.item) same ∙ AllOf_at w.load.item w.part w.more w.next of w.load.item
        ∙ eq-eqb w.load.item w.load.item refl in
        let among : In order w.load = subst (λ (z : List Load). In z w.load) (sym w.order_is) (In-append_right w.done (w.load ∷ w.todo) w.load (inl refl)) in
        let at = item_of_load N lane w.load (from_order N lane order once w.load among) in
        record { item = at.0; there = at.1; of = ap (λ (z : Load). is_of z.item (content r)) at.2 ∙ its }

may_be_sent : (goods : ℕ → Goods) (o : OutFigures) (item : ℕ) (e : Entry) → is_of item e ≡ true → IsQueued goods o item → MaySend goods o e
may_be_sent goods o item (LineOf i period quantity cumulative) of q = subst (IsQueued goods o) (sym (eqb-true i item of)) q
may_be_sent goods o item (EndOf i lines cumulative) of q = subst (IsQueued goods o) (sym (eqb-true i item of)) q
may_be_sent goods o item (ResetOf i closed) of q = subst (IsQueued goods o) (sym (eqb-true i item of)) q
may_be_sent goods o item Closing of q = tt

closing_may : (goods : ℕ → Goods) (o : OutFigures) (e : Entry) → e ≡ Closing → MaySend goods o e
closing_may goods o e is = subst (MaySend goods o) (sym is) tt

-- ---- lanes that a plant sends

-- each is a lane of the network as its sender sees it
pub lanes_are_seen : (N : Table) (plant : ℕ) → All (λ lane. lane ≡ outgoing_lane N lane.number.0) (outgoing_lanes N plant)
lanes_are_seen N plant = All-map (λ (lane : OutgoingLane). lane ≡ outgoing_lane N lane.number.0) (outgoing_lane N) (filter (goes_from N plant) (lane_numbers N))
    (λ k d h. refl)

module _ (N : Table) (is : IsTable N) (planned : ℕ → Bool) (l : ℕ) where
  -- an item that is decided may be sent
  decided_is_sendable : (item : ItemNo) (there : Contains (lane_items N (lane_at N l)) item)
      → ((lane_at N l).kind ≡ Schedule → planned (pair_on N (lane_at N l) item) ≡ true)
      → IsSendable planned (outgoing_lane N l) there.0
  decided_is_sendable item there decided =
      let lane : Lane = lane_at N l in
      let items : List ItemNo = lane_items N lane in
      let has = items_have_sources N is lane item there in
      let read : view.load_at (outgoing_lane N l).items there.0 ≡ outgoing_item N lane item =
      get_or-map (outgoing_item N lane) items there.0 item view.no_load there.1 ∙ ap (outgoing_item N lane) there.2 in
      record {
        within = omega (arith, there.1, length-map items (outgoing_item N lane));
        decided = λ kind.
            ap (λ (i : view.OutgoingLoad). planned (view.call_of i).customer.0) read ∙ ap (λ (c : Call). planned c.customer.0) (call_seen N lane item kind)
            ∙ ap planned has.taker ∙ decided kind;
      }

  module _ (goods : ℕ → Goods) (o : OutFigures) (has : HasGoods N planned (outgoing_lane N l) goods)
      (queued : (place : ℕ) → IsSendable planned (outgoing_lane N l) place → Contains o.queue place) where
    item_is_queued : (item : ItemNo) → Contains (lane_items N (lane_at N l)) item
        → ((lane_at N l).kind ≡ Schedule → planned (pair_on N (lane_at N l) item) ≡ true) → IsQueued goods o item.0
    item_is_queued item there decided =
        let lane : Lane = lane_at N l in
        let items : List ItemNo = lane_items N lane in
        let sendable = decided_is_sendable item there decided in
        let inside : there.0 < length (loads N lane) = omega (arith, there.1, length-map items (load_of N lane)) in
        let read : get_or (loads N lane) there.0 (load_of N lane item) ≡ load_of N lane item =
        get_or-map (load_of N lane) items there.0 item (load_of N lane item) there.1 ∙ ap (load_of N lane) there.2 in
        let some : Some (load_of N lane item) ≡ Some (cursor.goods_load (goods there.0)) =
        ap (λ (z : Load). Some z) (sym read) ∙ sym (slice_get-get_or (loads N lane) there.0 (load_of N lane item) inside) ∙ has.each there.0 sendable in
        let same : load_of N lane item ≡ cursor.goods_load (goods there.0) = cc some in
        record { place = there.0; there = queued there.0 sendable; is = sym (ap (λ (z : Load). z.item) same) }

    pub decided_may_be_sent : (sent : List Record) (r : Record) → IsDecided N planned (lane_at N l) (content r)
        → IsBeginning (loads N (lane_at N l)) (sent ++ r ∷ []) → MaySend goods o (content r)
    decided_may_be_sent sent r decided begins =
        elim (continues_of N (lane_at N l) sent r begins) [
          | inl closing ↦ closing_may goods o (content r) closing
          | inr at ↦ may_be_sent goods o at.item.0 (content r) at.of (item_is_queued at.item at.there (decided at.item at.of))
        ]
