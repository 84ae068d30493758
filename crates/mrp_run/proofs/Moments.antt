-- The run by threads: whenever each plant is at work and the two ends of each lane are in order, some events
-- have led to what the plants show.
use Rattle.std.proofs.Common.{◌≡◌, ℕ, ◌<◌, ◌≤◌, true, List, inl, inr, length, get_or, refl, sym, ap, subst, ◌∙◌, arith, length-append, Contains}
use Rattle.std.proofs.lemmas.Bool.{cases_lt, eqb-true}
use Rattle.std.proofs.lemmas.List.Elements.{All-contains}
use Rattle.mrp_master_data.specs.Table.{Table}
use Rattle.mrp_net.specs.Lanes.{lanes, lane_at}
use Rattle.mrp_net.specs.Sums.{pair_at}
use Rattle.mrp_net.proofs.Members.{Contains-from_in, In-from_contains, In-map, filter_only, range_only}
use Rattle.mrp_plant_view.specs.View.{PlantRows, comes_to, goes_from, lane_numbers, plant_pair, plant_pairs}
use Rattle.mrp_loops.specs.Sized.{IsSized}
use Rattle.mrp_record.specs.declared.record.Record.{Record}
use Rattle.mrp_record.specs.Entries.{contents, is_closed}
use Rattle.mrp_protocol.specs.State.{State, opening_state, IsFinished, IsReached}
use Rattle.mrp_history.specs.History.{HasRoom, HaveFinished, IsMerged, sent_by, taken_in}
use Rattle.mrp_history.specs.Stamps.{AreExplained, IsExplained, IsJoined}
use Rattle.mrp_history.proofs.Explained.{explained_states_merge, finished_states_merge}
use Rattle.mrp_net.proofs.OfPlants.{sender_is_there, receiver_is_there, owner_is_there}
use Rattle.mrp_protocol.specs.LocalLaws.{IsPairAt}
use Rattle.mrp_protocol.proofs.Seeing.{sees_pair}
use Rattle.mrp_lane.specs.Ends.{End}
use Rattle.mrp_agent.specs.InNetwork.{WorksIn}
use Rattle.mrp_agent.specs.State.{AgentState}
use Rattle.mrp_run.specs.Moments.{IsInOrder, IsShown, MomentsAreReached}
use Rattle.mrp_run.specs.Plant.{AreEnds, AtWork, IsClosed, AgentIsDone as HasFinishedAt, lanes_from, lanes_to, passage, passages}
use Rattle.mrp_run.proofs.Held.{lane_there}

-- ---- the lanes of ends

from_plant : (N : Table) (p l : ℕ) → Contains (lanes_from N p) l → (l < length (lanes N)) × ((lane_at N l).sender.0 ≡ p)
from_plant N p l there =
    let kept = filter_only (goes_from N p) (lane_numbers N) l (In-from_contains (lanes_from N p) l there) in
    let inside = range_only 0 (length (lanes N)) l kept.0 in
    ((omega (arith, inside.1)), eqb-true (lane_at N l).sender.0 p kept.1)

to_plant : (N : Table) (p l : ℕ) → Contains (lanes_to N p) l → (l < length (lanes N)) × ((lane_at N l).receiver.0 ≡ p)
to_plant N p l there =
    let kept = filter_only (comes_to N p) (lane_numbers N) l (In-from_contains (lanes_to N p) l there) in
    let inside = range_only 0 (length (lanes N)) l kept.0 in
    ((omega (arith, inside.1)), eqb-true (lane_at N l).receiver.0 p kept.1)

pub passage_there : (ends : List End) (e : End) → Contains ends e → Contains (passages ends) (passage e)
passage_there ends e there = Contains-from_in (passages ends) (passage e) (In-map passage ends e (In-from_contains ends e there))

-- ---- the states of plants at work

module _ (N : Table) (sized : IsSized N) (agents : ℕ → AgentState) (sends takes : ℕ → List End)
    (works : (p : ℕ) → p < length N.plants → AtWork N p (agents p) (sends p) (takes p)) where
  -- a plant stands in a state
  record Stands (p : ℕ) (s : State) : Type 0 where
    explained : IsExplained N p s (passages (sends p)) (passages (takes p))
    sends_are : AreEnds N (lanes_from N p) s.sent (sends p)
    takes_are : AreEnds N (lanes_to N p) s.taken (takes p)
    works_there : WorksIn N p s (agents p)
    all_planned : HasFinishedAt N p (agents p) (sends p) (takes p) → (x : ℕ) → IsPairAt N p x → s.planned x ≡ true

  abbrev chosen : (p : ℕ) → (s : State) × (p < length N.plants → Stands p s)
  chosen p = elim (cases_lt p (length N.plants)) [
    | inl within ↦
        let w = works p within in (
          w.state,
          (λ _. record {
            explained = w.explained;
            sends_are = w.sends_are;
            takes_are = w.takes_are;
            works_there = w.works;
            all_planned = λ finished. finished.planned w;
          }),
        )
    | inr past ↦ (opening_state, (λ within. absurd (omega arith)))
  ]

  abbrev states : ℕ → State
  states p = (chosen p).0

  stands : (p : ℕ) → p < length N.plants → Stands p (states p)
  stands p within = (chosen p).1 within

  -- what went through an end of a lane is what its plant has sent, or taken
  sent_there : (l : ℕ) → l < length (lanes N) → (e : End) → Contains (sends (lane_at N l).sender.0) e → e.name.lane ≡ l → e.list ≡ sent_by N states l
  sent_there l within e there lane =
      let p : ℕ = (lane_at N l).sender.0 in
      All-contains (λ (z : End). z.list ≡ (states p).sent z.name.lane) (sends p) e (stands p (sender_is_there N l within)).sends_are.lists there
      ∙ ap (states p).sent lane

  taken_there : (l : ℕ) → l < length (lanes N) → (e : End) → Contains (takes (lane_at N l).receiver.0) e → e.name.lane ≡ l → e.list ≡ taken_in N states l
  taken_there l within e there lane =
      let p : ℕ = (lane_at N l).receiver.0 in
      All-contains (λ (z : End). z.list ≡ (states p).taken z.name.lane) (takes p) e (stands p (receiver_is_there N l within)).takes_are.lists there
      ∙ ap (states p).taken lane

  abbrev AreJoined : Type 0
  AreJoined = (l : ℕ) → l < length (lanes N) → IsJoined N l (passages (sends (lane_at N l).sender.0)) (passages (takes (lane_at N l).receiver.0))

  are_explained : AreJoined → AreExplained N states (λ p. passages (sends p)) (λ p. passages (takes p))
  are_explained joined = record { each = λ p within. (stands p within).explained; joined = joined }

  -- ---- a state that is merged of theirs shows what they show

  shown : (s : State) → IsMerged N states s → IsShown N agents sends takes s
  shown s merged = record {
    sent = λ p within k d h.
        let at = stands p within in
        let l : ℕ = (get_or (sends p) k d).name.lane in
        let own = from_plant N p l (lane_there N (lanes_from N p) (states p).sent (sends p) at.sends_are k d h) in
        merged.sent l own.0 ∙ ap (λ (q : ℕ). (states q).sent l) own.1 ∙ sym (at.sends_are.lists k d h);
    taken = λ p within k d h.
        let at = stands p within in
        let l : ℕ = (get_or (takes p) k d).name.lane in
        let own = to_plant N p l (lane_there N (lanes_to N p) (states p).taken (takes p) at.takes_are k d h) in
        merged.taken l own.0 ∙ ap (λ (q : ℕ). (states q).taken l) own.1 ∙ sym (at.takes_are.lists k d h);
    planned = λ p within x pair.
        let at = stands p within in
        let seen : Contains (agents p).view.pairs (plant_pair N x) =
        subst (λ (V : PlantRows). Contains V.pairs (plant_pair N x)) (sym at.works_there.shown.view)
        (Contains-from_in (plant_pairs N p) (plant_pair N x) (sees_pair N p x pair)) in
        merged.planned x pair.pair ∙ ap (λ (q : ℕ). (states q).planned x) pair.at_plant ∙ at.works_there.shown.history.planned_are (plant_pair N x) seen;
  }

  -- ---- within a capacity

  module _ (capacity : ℕ) (order : (l : ℕ) → l < length (lanes N)
      → IsInOrder N capacity l (sends (lane_at N l).sender.0) (takes (lane_at N l).receiver.0)) where
    joined : AreJoined
    joined l within =
        let o = order l within in
        record {
          send = passage o.send;
          take = passage o.take;
          sends_it = passage_there (sends (lane_at N l).sender.0) o.send o.sends_it;
          takes_it = passage_there (takes (lane_at N l).receiver.0) o.take o.takes_it;
          send_lane = o.send_lane;
          take_lane = o.take_lane;
          waits = o.mailbox;
          waits_at = o.stamps.waits_at;
          lists = o.whole;
          stamps = o.stamps.whole;
          legal = o.legal;
        }

    has_room : HasRoom N capacity states
    has_room l within =
        let o = order l within in
        let sent = sent_there l within o.send o.sends_it o.send_lane in
        let taken = taken_there l within o.take o.takes_it o.take_lane in
        omega (arith, o.room, ap length sent, ap length taken, ap length o.whole, length-append o.take.list o.mailbox)

    pub moment : 1 ≤ capacity → (s : State) × IsReached N capacity s × IsShown N agents sends takes s
    moment holds =
        let m = explained_states_merge N sized.table sized.loop_free states (λ p. passages (sends p)) (λ p. passages (takes p))
        (are_explained joined) capacity holds has_room in
        (m.0, m.1, shown m.0 m.2)

  -- ---- once all are done

  pub finish : AreJoined → ((p : ℕ) → p < length N.plants → HasFinishedAt N p (agents p) (sends p) (takes p))
      → (takes_of : (l : ℕ) → l < length (lanes N) → (e : End) × Contains (takes (lane_at N l).receiver.0) e × (e.name.lane ≡ l))
      → (capacity : ℕ) → 1 ≤ capacity → (s : State) × IsReached N capacity s × IsShown N agents sends takes s × IsFinished N s
  finish joined done takes_of capacity holds =
      let finished : HaveFinished N states = record {
        closed = λ l within.
            let p : ℕ = (lane_at N l).receiver.0 in
            let e = takes_of l within in
            subst (λ (z : List Record). is_closed (contents z) ≡ true) (taken_there l within e.0 e.1 e.2)
            (All-contains IsClosed (takes p) e.0 (done p (receiver_is_there N l within)).taken e.1);
        planned = λ x pair.
            let p : ℕ = (pair_at N x).plant.0 in
            let within = owner_is_there N sized.table x pair in
            (stands p within).all_planned (done p within) x (record { pair = pair; at_plant = refl });
      } in
      let m = finished_states_merge N sized.table sized.loop_free states (λ p. passages (sends p)) (λ p. passages (takes p))
      (are_explained joined) capacity holds finished in
      (m.0, m.1, shown m.0 m.2, m.3)

pub moments_are_reached : MomentsAreReached
moments_are_reached N sized agents sends takes works capacity holds order = moment N sized agents sends takes works capacity order holds
