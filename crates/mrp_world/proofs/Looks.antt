-- The world: what is found where its next event is looked for, plant by plant and lane by lane.
use Rattle.std.proofs.Common.{◌≡◌, ℕ, ◌+◌, ◌<◌, ◌≤◌, Bool, true, false, List, ◌∷◌, ◌⊎◌, inl, inr, length, get_or, drop, slice_get, Option, None, Some, refl}
use Rattle.std.proofs.Common.{sym, ap, subst, ◌∙◌, arith}
use Rattle.std.specs.Prelude.{IfNone, MatchBool}
use Rattle.mrp_master_data.specs.Table.{Table, IsPair}
use Rattle.mrp_net.specs.Lanes.{lanes, lane_at}
use Rattle.mrp_net.specs.Sums.{pair_at}
use Rattle.mrp_record.specs.declared.record.Record.{Record}
use Rattle.mrp_protocol.specs.declared.event.Event.TheVariants.{Send, Receive, Plan}
use Rattle.mrp_protocol.specs.State.{State, CanPlan, after_send, after_take, after_plan}
use Rattle.mrp_world.specs.Moments.{Moment, IsAt, IsNext, SendsLane}
use Rattle.mrp_agent.specs.OwnPart.{IsOut, IsOwn}
use Rattle.mrp_world.specs.Showing.{Showing}
use Rattle.mrp_world.specs.Mailbox.{Held}
use Rattle.mrp_world.specs.World.{box_at}
use Rattle.mrp_world.specs.Moves.{AreAt, AreSomewhere, MayLead, LaneRests, LanesRest, PlantRests, PlantsRest, AllRests}
use Rattle.mrp_world.proofs.Steps.{SendsNext, moment, plant_is_at, may_send, first_can, first_of, can_send, owner_within, full_leads_nowhere}
use Rattle.mrp_world.proofs.Steps.{none_leads_nowhere, empty_leads_nowhere}

-- ---- the plant that is asked

asked_at : {A : Type 0} (shows : Showing A) (N : Table) (capacity : ℕ) (plants : List A) (boxes : List Held) (s : State) → AreAt shows N capacity plants boxes s
    → (p : ℕ) (plant : A) → plant ≡ get_or plants p plant → p < length N.plants → IsAt shows (moment N capacity s) p plant
asked_at shows N capacity plants boxes s at p plant is known =
    subst (λ z. IsAt shows (moment N capacity s) p z) (sym is) (plant_is_at shows N capacity plants boxes s at p plant known)

module _ {A : Type 0} (shows : Showing A) (N : Table) (plants : List A) (boxes : List Held) where
  pub may_ask : (l p : ℕ) (plant : A) → AreSomewhere shows N plants boxes → l < length (lanes N) → p < length N.plants → (lane_at N l).sender.0 ≡ p
      → plant ≡ get_or plants p plant → SendsLane shows plant l
  may_ask l p plant some within known e is =
      subst (λ z. SendsLane shows z l) (sym is) (may_send shows N plants boxes l p plant some within known e)

  -- ---- what may happen

  pub waiting_may : (l : ℕ) (old : Held) (r : Record) → l < length (lanes N) → old ≡ box_at boxes l → slice_get old.records 0 ≡ Some r
      → MayLead shows N plants boxes (Receive (record { 0 = l }))
  waiting_may l old r within same first_old capacity s at =
      let first : (box_at boxes l).records ≡ r ∷ drop 1 (box_at boxes l).records =
      first_of (box_at boxes l).records r (ap (λ (b : Held). slice_get b.records 0) (sym same) ∙ first_old) in
      (after_take s l r, (r, first_can N capacity boxes s l r (drop 1 (box_at boxes l).records) at.held within first, refl))

  pub next_may : (l p : ℕ) (plant : A) (old : Held) (r : Record) → l < length (lanes N) → p < length N.plants → (lane_at N l).sender.0 ≡ p
      → old ≡ box_at boxes l → length old.records < old.room → plant ≡ get_or plants p plant → SendsNext shows plant l r
      → MayLead shows N plants boxes (Send (record { 0 = l }))
  next_may l p plant old r within known e same has is next capacity s at =
      let room = subst (λ (b : Held). length b.records < b.room) same has in
      let is_next = next (moment N capacity s) p (asked_at shows N capacity plants boxes s at p plant is known) (record { lane = within; plant = e }) in
      (after_send s l r, (r, can_send N capacity boxes s l r at.held within is_next room, refl))

  pub ready_may : (p x : ℕ) (plant : A) → p < length plants → plant ≡ get_or plants p plant
      → ((m : Moment) (q : ℕ) → IsAt shows m q plant → CanPlan m.network m.state x) → MayLead shows N plants boxes (Plan (record { 0 = x }))
  ready_may p x plant within is can capacity s at =
      (after_plan s x, (can (moment N capacity s) p (asked_at shows N capacity plants boxes s at p plant is (omega (arith, within, at.shown.all))), refl))

  pub ready_pair : (p x : ℕ) (plant : A) → p < length plants → plant ≡ get_or plants p plant → AreSomewhere shows N plants boxes
      → ((m : Moment) (q : ℕ) → IsAt shows m q plant → IsOwn m.network q x) → IsPair N x
  ready_pair p x plant within is some own =
      let shown = asked_at shows N some.0 plants boxes some.1 some.2 p plant is (omega (arith, within, some.2.shown.all)) in
      (own (moment N some.0 some.1) p shown).pair

  -- ---- what rests

  pub full_rests : (l : ℕ) (old : Held) → l < length (lanes N) → old ≡ box_at boxes l → slice_get old.records 0 ≡ None → old.room ≤ length old.records
      → LaneRests shows N l plants boxes
  full_rests l old within same none full = record {
    sends_nothing = full_leads_nowhere shows N plants boxes l old within same full;
    receives_nothing = empty_leads_nowhere shows N plants boxes l old same none;
  }

  pub lane_rests : (l p : ℕ) (plant : A) (old : Held) → l < length (lanes N) → p < length N.plants → (lane_at N l).sender.0 ≡ p → old ≡ box_at boxes l
      → slice_get old.records 0 ≡ None → plant ≡ get_or plants p plant
      → ((m : Moment) (q : ℕ) → IsAt shows m q plant → IsOut m.network q l → (r : Record) → ¬ IsNext m l r) → LaneRests shows N l plants boxes
  lane_rests l p plant old within known e same none is nothing = record {
    sends_nothing = none_leads_nowhere shows N plants boxes l p plant within known e (λ m q at. nothing m q (subst (λ z. IsAt shows m q z) (sym is) at));
    receives_nothing = empty_leads_nowhere shows N plants boxes l old same none;
  }

  pub plant_rests : (p : ℕ) (plant : A) → p < length plants → plant ≡ get_or plants p plant
      → ((m : Moment) (q x : ℕ) → IsAt shows m q plant → IsOwn m.network q x → ¬ CanPlan m.network m.state x) → PlantRests shows N p plants boxes
  plant_rests p plant within is cannot x own capacity s at enabled =
      cannot (moment N capacity s) p x (asked_at shows N capacity plants boxes s at p plant is (omega (arith, within, at.shown.all))) own enabled.1.0

  -- all of them rest
  pub all_rests : LanesRest shows N 0 (length (lanes N)) plants boxes → PlantsRest shows N 0 (length plants) plants boxes → AllRests shows N plants boxes
  all_rests over each (Send l) capacity s at enabled = (over l.0 (omega arith) enabled.1.1.lane).sends_nothing capacity s at enabled
  all_rests over each (Receive l) capacity s at enabled = (over l.0 (omega arith) enabled.1.1.lane).receives_nothing capacity s at enabled
  all_rests over each (Plan x) capacity s at enabled =
      let within = owner_within N at.sized x.0 enabled.1.0.pair in
      each (pair_at N x.0).plant.0 (omega arith) (omega (arith, within, at.shown.all)) x.0
      (record { pair = enabled.1.0.pair; at_plant = refl }) capacity s at enabled

-- ---- what calls answer

pub none_gives : {X : Type 0} (o : Option X) (P : Type 0) → IfNone o P → o ≡ None → P
none_gives None P h e = h
none_gives (Some x) P h e = absurd (cc)

pub none_more : {X : Type 0} (o : Option X) (P Q : Type 0) → (P → Q) → IfNone o P → IfNone o Q
none_more None P Q f h = f h
none_more (Some x) P Q f h = h

pub by_answer : (answer : Bool) (P Q : Type 0) → (answer ≡ true → P) → (answer ≡ false → Q) → MatchBool answer P Q
by_answer true P Q could cannot = could refl
by_answer false P Q could cannot = cannot refl

-- the same lists by other names
pub by_names : {A : Type 0} (P : List A → List Held → List A → List Held → Type 0) (plants plants_too : List A) (boxes boxes_too : List Held)
    (new_plants new_plants_too : List A) (new_boxes new_boxes_too : List Held)
    → plants ≡ plants_too → boxes ≡ boxes_too → new_plants_too ≡ new_plants → new_boxes_too ≡ new_boxes
    → P plants boxes new_plants new_boxes → P plants_too boxes_too new_plants_too new_boxes_too
by_names {A} P plants plants_too boxes boxes_too new_plants new_plants_too new_boxes new_boxes_too same_plants same_boxes then_plants then_boxes holds =
    subst (λ (p : List A). P p boxes_too new_plants_too new_boxes_too) same_plants
    (subst (λ (b : List Held). P plants b new_plants_too new_boxes_too) same_boxes
    (subst (λ (p : List A). P plants boxes p new_boxes_too) (sym then_plants) (subst (λ (b : List Held). P plants boxes new_plants b) (sym then_boxes) holds)))

-- ---- ranges

-- what holds so far holds with one more
pub loop_more : (P : ℕ → Type 0) (from at : ℕ) → ((k : ℕ) → from ≤ k → k < at → P k) → P at → (k : ℕ) → from ≤ k → k < at + 1 → P k
loop_more P from at before here k low less = elim (up_to k at less) [
  | inl e ↦ subst P (sym e) here
  | inr under ↦ before k low under
]
  where
    up_to : (k at : ℕ) → k < at + 1 → (k ≡ at) ⊎ (k < at)
    up_to k at h = grind arith

-- what holds from a number on and below it holds everywhere
pub loop_round : (P : ℕ → Type 0) (from to : ℕ) → ((k : ℕ) → from ≤ k → k < to → P k) → ((k : ℕ) → 0 ≤ k → k < from → P k) → (k : ℕ) → 0 ≤ k → k < to → P k
loop_round P from to high low k least within = elim (or_less k from) [
  | inl less ↦ low k least less
  | inr more ↦ high k more within
]
  where
    or_less : (k from : ℕ) → (k < from) ⊎ (from ≤ k)
    or_less k from = grind arith
