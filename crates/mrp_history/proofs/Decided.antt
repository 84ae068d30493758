-- Histories: what a plant has sent by its history was decided before, and so it is in a state in which the pairs
-- are planned that were by then.
use Rattle.std.proofs.Common.{◌≡◌, ℕ, zero, suc, ◌+◌, ◌-◌, ◌<◌, ◌==◌, Bool, true, List, [], ◌∷◌, ◌++◌, inl, inr, length, sym, ap, subst, ◌∙◌, arith}
use Rattle.std.proofs.Common.{All, Contains}
use Rattle.std.specs.List.{flat_map}
use Rattle.std.proofs.lemmas.Bool.{eqb-true, false≢true}
use Rattle.std.proofs.lemmas.List.Elements.{All-append, All-nil, All-weaker}
use Rattle.mrp_master_data.specs.declared.numbers.ItemNo.{ItemNo}
use Rattle.mrp_master_data.specs.Table.{Table, IsTable, IsPair}
use Rattle.mrp_net.specs.declared.lane.Lane.{Lane}
use Rattle.mrp_net.specs.Lanes.{lanes, lane_at, lane_items, pair_on}
use Rattle.mrp_net.specs.Sums.{pair_at}
use Rattle.mrp_net.proofs.Behind.{items_have_sources}
use Rattle.mrp_net.proofs.Members.{In, In-append_cases, In-append_left, In-map, All-in, flat_map_only}
use Rattle.mrp_record.specs.declared.record.Record.{Record}
use Rattle.mrp_record.specs.Entries.{Entry, Closing, content, contents, is_of}
use Rattle.mrp_record.specs.Text.{Load, IsBeginning, block}
use Rattle.mrp_record.proofs.Own.{AllOf, AllOf-block}
use Rattle.mrp_protocol.specs.Loads.{loads}
use Rattle.mrp_protocol.specs.State.{State, IsDecided}
use Rattle.mrp_protocol.proofs.Going.{item_of_load, from_order}
use Rattle.mrp_protocol.proofs.Sending.{customer_by_schedule}
use Rattle.mrp_history.specs.History.{IsHistory}

-- ---- the items of what a lane carries

AllOf_in : (item : ℕ) (es : List Entry) (e : Entry) → AllOf item es → In es e → (other : ℕ) → is_of other e ≡ (item == other)
AllOf_in item [] e all there other = absurd there
AllOf_in item (x ∷ es) e all there other = elim there [
  | inl same ↦ ap (is_of other) (sym same) ∙ all.0 other
  | inr later ↦ AllOf_in item es e all.1 later other
]

-- a record of an item on a lane: the item is one of the lane's
pub item_on_lane : (N : Table) (lane : Lane) (records : List Record) → IsBeginning (loads N lane) records
    → (r : Record) → In records r → (item : ItemNo) → is_of item.0 (content r) ≡ true → Contains (lane_items N lane) item
item_on_lane N lane records legal r there item of =
    let text = legal.text in
    let e : Entry = content r in
    let among : In (contents records ++ legal.rest) e = In-append_left (contents records) legal.rest e (In-map content records r there) in
    elim (In-append_cases (flat_map block text.order) (Closing ∷ []) e (subst (λ (z : List Entry). In z e) text.is among)) [
      | inr last ↦ elim last [
        | inl closing ↦ absurd (false≢true (ap (is_of item.0) closing ∙ of))
        | inr none ↦ absurd none
      ]
      | inl blocks ↦
          let at = flat_map_only block text.order e blocks in
          let load : Load = at.0 in
          let same : load.item ≡ item.0 = eqb-true load.item item.0 (sym (AllOf_in load.item (block load) e (AllOf-block load) at.2 item.0) ∙ of) in
          let own = item_of_load N lane load (from_order N lane text.order text.once load at.1) in
          let is : own.0.0 ≡ item.0 = ap (λ (z : Load). z.item) own.2 ∙ same in
          subst (Contains (lane_items N lane)) (ap (λ (z : ℕ). let i : ItemNo = record { 0 = z } in i) is) own.1
    ]

-- ---- one history

module _ (N : Table) (p : ℕ) (history : ℕ → State) (is : IsHistory N p history) where
  -- a pair of the plant stays planned
  pub stays_planned : (x : ℕ) → IsPair N x → (pair_at N x).plant.0 ≡ p → (m k : ℕ) → (history m).planned x ≡ true → (history (k + m)).planned x ≡ true
  stays_planned x pair own m zero planned = subst (λ (n : ℕ). (history n).planned x ≡ true) (omega arith) planned
  stays_planned x pair own m (suc k) planned =
      subst (λ (n : ℕ). (history n).planned x ≡ true) (omega arith)
      ((is.goes (k + m)).stays x pair own (stays_planned x pair own m k planned))

  -- a record was of an item that might be sent at some moment before
  abbrev pub WasDecided : ℕ → ℕ → Record → Type 0
  WasDecided n l r = (m : ℕ) × (m < n) × IsDecided N (history m).planned (lane_at N l) (content r)

  pub sent_was_decided : (l : ℕ) → l < length (lanes N) → (lane_at N l).sender.0 ≡ p → (n : ℕ) → All (WasDecided n l) ((history n).sent l)
  sent_was_decided l within own zero =
      subst (λ (s : State). All (WasDecided 0 l) (s.sent l)) (sym is.begins) (All-nil (WasDecided 0 l))
  sent_was_decided l within own (suc n) =
      let step = (is.goes n).sends l within own in
      let old : All (WasDecided (suc n) l) ((history n).sent l) =
      All-weaker (WasDecided n l) (WasDecided (suc n) l) (λ r d. (d.0, omega (arith, d.1), d.2)) ((history n).sent l) (sent_was_decided l within own n) in
      let new : All (WasDecided (suc n) l) step.more =
      All-weaker (λ (r : Record). IsDecided N (history n).planned (lane_at N l) (content r)) (WasDecided (suc n) l)
      (λ r d. (n, omega arith, d)) step.more step.decided in
      subst (All (WasDecided (suc n) l)) (sym step.is) (All-append (WasDecided (suc n) l) ((history n).sent l) step.more old new)

  -- so each record that it has sent by the next moment is of an item that may be sent, where its own pairs are planned that are by now
  pub sent_is_decided : IsTable N → (n l : ℕ) → l < length (lanes N) → (lane_at N l).sender.0 ≡ p
      → IsBeginning (loads N (lane_at N l)) ((history (suc n)).sent l)
      → (planned : ℕ → Bool) → ((x : ℕ) → IsPair N x → (pair_at N x).plant.0 ≡ p → planned x ≡ (history n).planned x)
      → (r : Record) → In ((history (suc n)).sent l) r → IsDecided N planned (lane_at N l) (content r)
  sent_is_decided table n l within own legal planned same r there item of kind =
      let lane : Lane = lane_at N l in
      let x : ℕ = pair_on N lane item in
      let on = item_on_lane N lane ((history (suc n)).sent l) legal r there item of in
      let customer = (items_have_sources N table lane item on).customer in
      let at_plant : (pair_at N x).plant.0 ≡ p = customer.at_plant ∙ customer_by_schedule lane kind ∙ own in
      let was = All-in (WasDecided (suc n) l) ((history (suc n)).sent l) r (sent_was_decided l within own (suc n)) there in
      let later = stays_planned x customer.pair at_plant was.0 (n - was.0) (was.2 item of kind) in
      same x customer.pair at_plant ∙ subst (λ (k : ℕ). (history k).planned x ≡ true) (omega (arith, was.1)) later
