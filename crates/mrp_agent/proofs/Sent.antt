-- The agent: what it shows after a record was sent.
use Rattle.std.proofs.Common.{◌≡◌, ◌↔◌, ℕ, ◌<◌, eqb, Bool, cond, Option, Some, None, List, [], ◌∷◌, ◌++◌, inl, inr, length, refl, sym, ap, ◌∙◌, subst, arith}
use Rattle.std.specs.List.{Contains}
use Rattle.std.proofs.lemmas.Bool.{cases_eq, eq-eqb, ne_eqb}
use Rattle.std.proofs.lemmas.List.{get_or-set_same, get_or-set_other, length-set}
use Rattle.std.proofs.lemmas.List.Elements.{All-contains, Contains-get_or}
use Rattle.mrp_master_data.specs.declared.numbers.PairNo.{PairNo}
use Rattle.mrp_net.specs.declared.lane.LaneKind.TheVariants.{Schedule}
use Rattle.mrp_net.specs.Plan.{no_rows}
use Rattle.mrp_plant_view.specs.declared.view.OutgoingLane.{OutgoingLane}
use Rattle.mrp_plant_view.specs.declared.view.PlantPair.{PlantPair}
use Rattle.mrp_plant_view.specs.Loads.{call_of, load_at}
use Rattle.mrp_plant_view.specs.Seen.{IsView, IsOwnPair, IsOwnOf, IsScheduleLane}
use Rattle.mrp_record.specs.declared.record.Record.{Record}
use Rattle.mrp_record.specs.declared.remainder.Remainder.{Remainder}
use Rattle.mrp_record.specs.Cursor.{OutFigures}
use Rattle.mrp_record.specs.Next.{IsWhatIsLeft, stepped}
use Rattle.mrp_record.specs.Shows.{ShowsSent}
use Rattle.mrp_record.proofs.Lists.{contains_there}
use Rattle.mrp_record.proofs.Nothing.{none_is_left}
use Rattle.mrp_record.proofs.Steps.{steps_show, given_continues, steps_keep_places}
use Rattle.mrp_record.proofs.Texts.{queued_are_places}
use Rattle.mrp_protocol.specs.State.{changed}
use Rattle.mrp_protocol.specs.Goods.{IsSendable}
use Rattle.mrp_agent.specs.State.{AgentState, outgoing_at, out_at, pair_place, plans_of, no_out, no_outgoing}
use Rattle.mrp_agent.specs.After.{after_sent}
use Rattle.mrp_agent.specs.Kept.{AreCursors, HasPlanRows, HasRooms, HasTaken, Indexes, IsKept}
use Rattle.mrp_agent.specs.Sending.{left_at, next_out, goods_at, IsWithin64, ContinuesSent, NothingContinues}
use Rattle.mrp_agent.specs.Sent.{with_sent}
use Rattle.mrp_agent.specs.Shows.{OutShows, ShowsHistory}
use Rattle.mrp_agent.proofs.Leaving.{left_is_left}
use Rattle.mrp_agent.proofs.Looking.{place_found, only_place}

-- ---- values changed at one place

pub changed_there : {X : Type 0} (values : ℕ → X) (at : ℕ) (value : X) → changed values at value at ≡ value
changed_there {X} values at value = ap (λ (b : Bool). cond b value (values at)) (eq-eqb at at refl)

pub changed_elsewhere : {X : Type 0} (values : ℕ → X) (at : ℕ) (value : X) (k : ℕ) → (k ≡ at → ⊥) → changed values at value k ≡ values k
changed_elsewhere {X} values at value k other = ap (λ (b : Bool). cond b value (values k)) (ne_eqb k at other)

-- ---- a step changes neither the size nor the queue

pub stepped_size : (o : OutFigures) (left : Option Remainder) → (stepped o left).size ≡ o.size
stepped_size o left = (steps_keep_places o left).0

pub stepped_queue : (o : OutFigures) (left : Option Remainder) → (stepped o left).queue ≡ o.queue
stepped_queue o left = (steps_keep_places o left).1

-- ---- a plan that is kept has the periods

pub own_place : (A : AgentState) (x : PairNo) → IsOwnPair A.view x → pair_place A.view x.0 < length A.view.pairs
own_place A x (p, there, is) =
    place_found (λ (q : PlantPair). eqb q.number.0 x.0) A.view.pairs p there (eq-eqb p.number.0 x.0 (ap (λ (n : PairNo). n.0) is))

pub periods_kept : (A : AgentState) → HasRooms A → (x : PairNo) → IsOwnPair A.view x → HasPlanRows A.view (plans_of A x.0)
periods_kept A rooms x own = rooms.plans.periods (pair_place A.view x.0) no_rows (omega (arith, own_place A x own, rooms.plans.count))

pub own_of : (A : AgentState) (lane : OutgoingLane) (j : ℕ) → IsScheduleLane A.view lane → j < length lane.items
    → IsOwnPair A.view (call_of (load_at lane.items j)).customer
own_of A lane j sched within = by (sched.calls j _ within).own
  where
    by : IsOwnOf A.view (call_of (load_at lane.items j)).customer (load_at lane.items j).item → IsOwnPair A.view (call_of (load_at lane.items j)).customer
    by (p, there, is, item) = (p, there, is)

module _ (A : AgentState) (view : IsView A.view) (rooms : HasRooms A) where
  abbrev Lane : ℕ → OutgoingLane
  Lane k = outgoing_at A.view k

  pub lane_there : (k : ℕ) → k < length A.view.outgoing → Contains A.view.outgoing (outgoing_at A.view k)
  lane_there k within = Contains-get_or A.view.outgoing k no_outgoing within

  pub is_schedule : (k : ℕ) → k < length A.view.outgoing → (outgoing_at A.view k).kind ≡ Schedule → IsScheduleLane A.view (outgoing_at A.view k)
  is_schedule k within = All-contains (λ (z : OutgoingLane). z.kind ≡ Schedule → IsScheduleLane A.view z) A.view.outgoing (outgoing_at A.view k) view.schedules
      (lane_there k within)

  pub customer_periods : (k : ℕ) → k < length A.view.outgoing → (j : ℕ) → j < length (outgoing_at A.view k).items → (outgoing_at A.view k).kind ≡ Schedule
      → length (plans_of A (call_of (load_at (outgoing_at A.view k).items j)).customer.0).release ≡ A.view.horizon
  customer_periods k within j inside kind =
      (periods_kept A rooms (call_of (load_at (outgoing_at A.view k).items j)).customer
      (own_of A (outgoing_at A.view k) j (is_schedule k within kind) inside)).release

  -- lanes that go out have numbers of their own
  pub lanes_apart : (i k : ℕ) → i < length A.view.outgoing → k < length A.view.outgoing → (i ≡ k → ⊥)
      → (outgoing_at A.view i).number.0 ≡ (outgoing_at A.view k).number.0 → ⊥
  lanes_apart i k ini ink apart same =
      let l : ℕ = (outgoing_at A.view k).number.0 in
      apart (only_place (λ (z : OutgoingLane). eqb z.number.0 l) A.view.outgoing i k no_outgoing (view.outgoing_once l) ini ink
      (eq-eqb (outgoing_at A.view i).number.0 l same) (eq-eqb l l refl))

  module _ (sent taken : ℕ → List Record) (planned : ℕ → Bool) (shows : ShowsHistory A sent taken planned) (k : ℕ) (within : k < length A.view.outgoing) where
    pub is_left : IsWhatIsLeft (goods_at A taken k) (out_at A k) (left_at A k)
    is_left =
        let out = shows.outs k within in
        left_is_left A taken view shows.books k within
        (λ j there. let low = queued_are_places (goods_at A taken k) (out_at A k) (sent (outgoing_at A.view k).number.0) j out.shows
        (contains_there (out_at A k).queue (out_at A k).head j there) in
        omega (arith, low, out.size))
        (λ j inside kind. customer_periods k within j inside kind)

    pub given_is_legal : (r : Record) → IsWithin64 A taken k → next_out A k ≡ Some r → ContinuesSent A sent taken k r
    given_is_legal r bounded given =
        given_continues (goods_at A taken k) (out_at A k) (sent (outgoing_at A.view k).number.0) (left_at A k) r
        (shows.outs k within).shows bounded is_left given

    pub none_can_be_sent : next_out A k ≡ None → NothingContinues A sent taken k
    none_can_be_sent none =
        none_is_left (goods_at A taken k) (out_at A k) (sent (outgoing_at A.view k).number.0) (left_at A k) (shows.outs k within).shows is_left none

    -- a lane's cursor and what was sent on it, as they are afterwards
    shown_after : (r : Record) (i : ℕ) {o : OutFigures} {list : List Record} → out_at (after_sent A k) i ≡ o
        → with_sent A sent k r (outgoing_at A.view i).number.0 ≡ list
        → o.size ≡ length (outgoing_at A.view i).items → ShowsSent (goods_at A taken i) o list
        → ((j : ℕ) → Contains o.queue j ↔ IsSendable planned (outgoing_at A.view i) j)
        → OutShows (after_sent A k) (with_sent A sent k r) taken planned i
    shown_after r i {o} {list} is list_is size shows queued = record {
      size = ap (λ (z : OutFigures). z.size) is ∙ size;
      shows =
          subst (λ (z : List Record). ShowsSent (goods_at A taken i) (out_at (after_sent A k) i) z) (sym list_is)
          (subst (λ (z : OutFigures). ShowsSent (goods_at A taken i) z list) (sym is) shows);
      queued = subst (λ (z : OutFigures). (j : ℕ) → Contains z.queue j ↔ IsSendable planned (outgoing_at A.view i) j) (sym is) queued;
    }

    -- the lane itself, and the others
    here : (r : Record) → IsWithin64 A taken k → next_out A k ≡ Some r → OutShows (after_sent A k) (with_sent A sent k r) taken planned k
    here r bounded given =
        let l : ℕ = (outgoing_at A.view k).number.0 in
        let out = shows.outs k within in
        shown_after r k (get_or-set_same A.outs k (stepped (out_at A k) (left_at A k)) no_out (omega (arith, within, rooms.cursors.count)))
        (changed_there sent l (sent l ++ r ∷ []))
        (stepped_size (out_at A k) (left_at A k) ∙ out.size)
        (steps_show (goods_at A taken k) (out_at A k) (sent l) (left_at A k) r out.shows bounded is_left given)
        (subst (λ (z : List ℕ). (j : ℕ) → Contains z j ↔ IsSendable planned (outgoing_at A.view k) j)
        (sym (stepped_queue (out_at A k) (left_at A k))) out.queued)

    elsewhere : (r : Record) (i : ℕ) → i < length A.view.outgoing → (i ≡ k → ⊥) → OutShows (after_sent A k) (with_sent A sent k r) taken planned i
    elsewhere r i ini other =
        let l : ℕ = (outgoing_at A.view k).number.0 in
        let out = shows.outs i ini in
        shown_after r i (get_or-set_other A.outs k i (stepped (out_at A k) (left_at A k)) no_out other)
        (changed_elsewhere sent l (sent l ++ r ∷ []) (outgoing_at A.view i).number.0 (lanes_apart i k ini within other)) out.size out.shows out.queued

    pub sent_shows : (r : Record) → IsWithin64 A taken k → next_out A k ≡ Some r → ShowsHistory (after_sent A k) (with_sent A sent k r) taken planned
    sent_shows r bounded given = record {
      books = shows.books;
      waits = shows.waits;
      scheduled_receipts = shows.scheduled_receipts;
      outside_demand = shows.outside_demand;
      planned_are = shows.planned_are;
      local = shows.local;
      outs = λ i ini.
          elim (cases_eq i k) as (λ _. OutShows (after_sent A k) (with_sent A sent k r) taken planned i) [
            | inl e ↦ subst (λ (z : ℕ). OutShows (after_sent A k) (with_sent A sent k r) taken planned z) (sym e) (here r bounded given)
            | inr other ↦ elsewhere r i ini other
          ];
    }

-- ---- what is kept

sent_cursors : (A : AgentState) (k : ℕ) → k < length A.view.outgoing → AreCursors A.view A.outs → AreCursors A.view (after_sent A k).outs
sent_cursors A k within cursors =
    let new : OutFigures = stepped (out_at A k) (left_at A k) in
    let inside : k < length A.outs = omega (arith, within, cursors.count) in
    record {
      count = length-set A.outs k new ∙ cursors.count;
      sizes = λ i ini.
          elim (cases_eq i k) as (λ _. (out_at (after_sent A k) i).size ≡ length (outgoing_at A.view i).items) [
            | inl e ↦
                subst (λ (z : ℕ). (out_at (after_sent A k) z).size ≡ length (outgoing_at A.view z).items) (sym e)
                (ap (λ (o : OutFigures). o.size) (get_or-set_same A.outs k new no_out inside) ∙ stepped_size (out_at A k) (left_at A k)
                ∙ cursors.sizes k within)
            | inr other ↦ ap (λ (o : OutFigures). o.size) (get_or-set_other A.outs k i new no_out other) ∙ cursors.sizes i ini
          ];
    }

sent_rooms : (A : AgentState) (k : ℕ) → k < length A.view.outgoing → HasRooms A → HasRooms (after_sent A k)
sent_rooms A k within rooms =
    record {
      books = rooms.books;
      scheduled_receipts = rooms.scheduled_receipts;
      outside_demand = rooms.outside_demand;
      plans = rooms.plans;
      progress = rooms.progress;
      cursors = sent_cursors A k within rooms.cursors;
    }

pub sent_taken : (A : AgentState) (k : ℕ) → HasTaken A → HasTaken (after_sent A k)
sent_taken A k has = record { taken = has.taken; books = has.books; waits = has.waits }

pub sent_kept : (A : AgentState) (I : Indexes) (k : ℕ) → k < length A.view.outgoing → IsKept A I → IsKept (after_sent A k) I
sent_kept A I k within kept =
    record { view = kept.view; indexes = kept.indexes; rooms = sent_rooms A k within kept.rooms; taken = sent_taken A k kept.taken }
