-- The agent: what the cursors of its lanes show after it has planned a pair.
use Rattle.std.proofs.Common.{◌≡◌, ◌↔◌, ℕ, zero, suc, ◌-◌, ◌<◌, eqb, Bool, true, false, Option, Some, None, List, [], ◌∷◌, inl, inr, length, get_or, map}
use Rattle.std.proofs.Common.{slice_index, refl, sym, ap, ◌∙◌, subst, arith}
use Rattle.std.specs.List.{Contains}
use Rattle.std.proofs.lemmas.Bool.{cases_eq, both_ways, eq-eqb, eqb-true}
use Rattle.std.proofs.lemmas.List.{get_or-map, length-map}
use Rattle.std.proofs.lemmas.List.Elements.{Contains-append_left, Contains-append_right, Contains-append_cases}
use Rattle.std.proofs.lemmas.List.Quantifiers.{position-Some}
use Rattle.mrp_netting.specs.PlanRows.{PlanRows}
use Rattle.mrp_master_data.specs.declared.numbers.ItemNo.{ItemNo}
use Rattle.mrp_master_data.specs.declared.numbers.PairNo.{PairNo}
use Rattle.mrp_net.specs.declared.lane.LaneKind.{LaneKind}
use Rattle.mrp_net.specs.declared.lane.LaneKind.TheVariants.{Despatch, Schedule}
use Rattle.mrp_plant_view.specs.declared.view.OutgoingLane.{OutgoingLane}
use Rattle.mrp_plant_view.specs.declared.view.PlantPair.{PlantPair}
use Rattle.mrp_plant_view.specs.Loads.{OutgoingLoad, call_of, load_at, no_load}
use Rattle.mrp_plant_view.specs.Seen.{IsView, IsOwnPair, IsOwnOf, IsOutgoingLane, IsScheduleLane}
use Rattle.mrp_plant_view.specs.View.{PlantRows}
use Rattle.mrp_record.specs.declared.record.Record.{Record}
use Rattle.mrp_record.specs.Cursor.{OutFigures, Goods}
use Rattle.mrp_record.specs.Shows.{ShowsSent}
use Rattle.mrp_record.proofs.Queues.{queues_show, looks_at_queued}
use Rattle.mrp_protocol.specs.State.{changed}
use Rattle.mrp_protocol.specs.Goods.{by_period_from, goods_by, goods_of, schedule_goods, share, IsSendable}
use Rattle.mrp_agent.specs.After.{place_among, queued_at, queued_by, settled_out}
use Rattle.mrp_agent.proofs.Looking.{only_place, place_found, place_known}
use Rattle.mrp_agent.proofs.Marked.{queued_size}
use Rattle.mrp_agent.proofs.Nothing.{more_planned, same_item, same_number}
use Rattle.mrp_agent.proofs.Sent.{changed_there, changed_elsewhere}

only_one : (x y : ℕ) → Contains (x ∷ []) y → y ≡ x
only_one x y (zero, within, is) = sym is
only_one x y (suc k, within, is) = absurd (omega arith)

-- goods look at the customer's plan alone
goods_same : (kind : LaneKind) (V : PlantRows) (taken : ℕ → List Record) (plans others : ℕ → PlanRows) (l : ℕ) (i : OutgoingLoad)
    → (kind ≡ Schedule → plans (call_of i).customer.0 ≡ others (call_of i).customer.0)
    → goods_by kind V taken plans l i ≡ goods_by kind V taken others l i
goods_same Despatch V taken plans others l i same = refl
goods_same Schedule V taken plans others l i same =
    ap (λ (rows : PlanRows). let g : Goods = record (schedule_goods V (taken (l - 1)) plans i) {
      from = by_period_from
          (λ t. share (call_of i) (slice_index rows.release t)) V.horizon;
    } in g) (same refl)

module _ (V : PlantRows) (view : IsView V) (lane : OutgoingLane) (is_lane : IsOutgoingLane V lane) (schedule : lane.kind ≡ Schedule → IsScheduleLane V lane)
    (p : PlantPair) (there : Contains V.pairs p)
    (planned : ℕ → Bool) (unplanned : planned p.number.0 ≡ false) (plans others : ℕ → PlanRows) (stay : (y : PairNo) → IsOwnPair V y → planned y.0 ≡ true
    → plans y.0 ≡ others y.0)
    (taken : ℕ → List Record) (old : OutFigures) (sent : List Record) (size : old.size ≡ length lane.items)
    (shows : ShowsSent (goods_of V taken plans lane) old sent)
    (queue : (j : ℕ) → Contains old.queue j ↔ IsSendable planned lane j) where
  -- the customers of a schedule lane
  own_of : lane.kind ≡ Schedule → (j : ℕ) → j < length lane.items → IsOwnOf V (call_of (load_at lane.items j)).customer (load_at lane.items j).item
  own_of kind j within = ((schedule kind).calls j no_load within).own

  -- the customer is the pair where the item is the pair's
  is_its_item : lane.kind ≡ Schedule → (j : ℕ) → j < length lane.items → (call_of (load_at lane.items j)).customer.0 ≡ p.number.0
      ↔ (load_at lane.items j).item.0 ≡ p.item.0
  is_its_item kind j within =
      let own = own_of kind j within in
      let number : own.0.number.0 ≡ (call_of (load_at lane.items j)).customer.0 = ap (λ (n : PairNo). n.0) own.2 in
      let item : own.0.item.0 ≡ (load_at lane.items j).item.0 = ap (λ (n : ItemNo). n.0) own.3 in (
        λ same. sym item ∙ ap (λ (r : PlantPair). r.item.0) (same_number V view own.0 p own.1 there (number ∙ same)),
        λ same. sym number ∙ ap (λ (r : PlantPair). r.number.0) (same_item V view own.0 p own.1 there (item ∙ same)),
      )

  -- by the plans as they are now
  now_shows : ShowsSent (goods_of V taken others lane) old sent
  now_shows =
      looks_at_queued (goods_of V taken plans lane) (goods_of V taken others lane) old sent
      (λ j among.
      let sendable = (queue j).0 among in
      goods_same lane.kind V taken plans others lane.number.0 (load_at lane.items j)
      (λ kind. let own = own_of kind j sendable.within in stay (call_of (load_at lane.items j)).customer (own.0, own.1, own.2) (sendable.decided kind)))
      shows

  abbrev Now : ℕ → Bool
  Now = changed planned p.number.0 true

  pub record Shown (o : OutFigures) : Type 0 where
    pub now_size : o.size ≡ length lane.items
    pub now_sent : ShowsSent (goods_of V taken others lane) o sent
    pub now_queued : (j : ℕ) → Contains o.queue j ↔ IsSendable (changed planned p.number.0 true) lane j

  more_sendable : (j : ℕ) → IsSendable planned lane j → IsSendable (changed planned p.number.0 true) lane j
  more_sendable j sendable = record {
    within = sendable.within;
    decided = λ kind. more_planned planned p.number.0 (call_of (load_at lane.items j)).customer.0
        (sendable.decided kind);
  }

  -- another customer was planned before
  before : (j : ℕ) → IsSendable (changed planned p.number.0 true) lane j → (lane.kind ≡ Schedule → (call_of (load_at lane.items j)).customer.0 ≡ p.number.0 → ⊥)
      → IsSendable planned lane j
  before j sendable other = record {
    within = sendable.within;
    decided = λ kind. sym (changed_elsewhere planned p.number.0 true (call_of (load_at lane.items j)).customer.0 (other kind)) ∙ sendable.decided kind;
  }

  as_before : ((j : ℕ) → j < length lane.items → lane.kind ≡ Schedule → (call_of (load_at lane.items j)).customer.0 ≡ p.number.0 → ⊥) → Shown old
  as_before none = record {
    now_size = size;
    now_sent = now_shows;
    now_queued = λ j. (
      λ among. more_sendable j ((queue j).0 among),
      λ sendable. (queue j).1 (before j sendable (none j sendable.within)),
    );
  }

  abbrev items : List ItemNo
  items = map (λ i. i.item) lane.items

  -- the place that is queued on a schedule lane
  at_place : lane.kind ≡ Schedule → (m : Option ℕ) → place_among (map (λ i. i.item) lane.items) p.item ≡ m → Shown (queued_at old m)
  at_place kind None none =
      as_before
      (λ j within _ same.
      let test : ItemNo → Bool = λ i. eqb i.0 p.item.0 in
      let item : ItemNo = (load_at lane.items j).item in
      let passes : test item ≡ true = eq-eqb item.0 p.item.0 ((is_its_item kind j within).0 same) in
      let among : Contains items item = (
        j,
        omega (arith, within, length-map lane.items (λ (i : OutgoingLoad). i.item)),
        get_or-map
            (λ (i : OutgoingLoad). i.item) lane.items j no_load item within,
      ) in
      let found = place_known test items (place_found test items item among passes) in
      cc (none, found))
  at_place kind (Some place) found =
      let test : ItemNo → Bool = λ i. eqb i.0 p.item.0 in
      let none : ItemNo = record { 0 = 0 } in
      let first = position-Some test items place none found in
      let within : place < length lane.items = omega (arith, first.0, length-map lane.items (λ (i : OutgoingLoad). i.item)) in
      let item : (load_at lane.items place).item.0 ≡ p.item.0 =
      sym (ap (λ (i : ItemNo). i.0) (get_or-map (λ (i : OutgoingLoad). i.item) lane.items place no_load none within))
      ∙ eqb-true (get_or items place none).0 p.item.0 first.1 in
      let mine : (call_of (load_at lane.items place)).customer.0 ≡ p.number.0 = (is_its_item kind place within).1 item in
      let fresh : Contains old.queue place → ⊥ = λ among. both_ways (planned p.number.0) unplanned
      (sym (ap planned mine) ∙ ((queue place).0 among).decided kind) in
      let more = queues_show (goods_of V taken others lane) old sent place now_shows (omega (arith, within, size)) fresh in
      record {
        now_size = queued_size old (Some place) ∙ size;
        now_sent = more.1;
        now_queued = λ j. (
          λ among.
              elim (Contains-append_cases old.queue (place ∷ []) j (subst (λ (z : List ℕ). Contains z j) more.0 among)) [
                | inl early ↦ more_sendable j ((queue j).0 early)
                | inr last ↦
                    subst (IsSendable (changed planned p.number.0 true) lane) (sym (only_one place j last))
                    (record { within = within; decided = λ _. ap (changed planned p.number.0 true) mine ∙ changed_there planned p.number.0 true })
              ],
          λ sendable.
              subst (λ (z : List ℕ). Contains z j) (sym more.0)
              (elim (cases_eq (call_of (load_at lane.items j)).customer.0 p.number.0) [
                | inl same ↦
                    let here : j ≡ place =
                    only_place (λ (i : OutgoingLoad). eqb i.item.0 p.item.0) lane.items j place no_load (is_lane.once p.item.0) sendable.within within
                    (eq-eqb (load_at lane.items j).item.0 p.item.0 ((is_its_item kind j sendable.within).0 same))
                    (eq-eqb (load_at lane.items place).item.0 p.item.0 item) in
                    Contains-append_right old.queue (place ∷ []) j (0, omega arith, sym here)
                | inr other ↦ Contains-append_left old.queue (place ∷ []) j ((queue j).1 (before j sendable (λ _. other)))
              ]),
        );
      }

  by_kind : (kind : LaneKind) → lane.kind ≡ kind → Shown (queued_by kind (map (λ i. i.item) lane.items) old p.item)
  by_kind Despatch kind = as_before (λ j within schedules _. cc (kind, schedules))
  by_kind Schedule kind = at_place kind (place_among (map (λ i. i.item) lane.items) p.item) refl

  pub shown_now : Shown (settled_out lane old p.item)
  shown_now = by_kind lane.kind refl
