-- The world: what an event does to its plants and mailboxes is a step of the run that they show.
use Rattle.std.proofs.Common.{◌≡◌, ℕ, ◌+◌, ◌<◌, ◌≤◌, ◌==◌, min, true, List, [], ◌∷◌, ◌++◌, ◌⊎◌, inl, inr, length, get_or, set, drop, slice_get, None, Some}
use Rattle.std.proofs.Common.{refl, sym, ap, subst, ◌∙◌, arith, append_assoc, length-append}
use Rattle.std.proofs.lemmas.Bool.{cases_Bool, eqb-true, eq-eqb, false≢true}
use Rattle.std.proofs.lemmas.List.{length-set, get_or-set_same, get_or-set_other, get_or_default}
use Rattle.mrp_master_data.specs.Table.{Table, IsPair}
use Rattle.mrp_net.specs.declared.lane.Lane.{Lane}
use Rattle.mrp_net.specs.declared.lane.LaneKind.{LaneKind}
use Rattle.mrp_net.specs.declared.lane.LaneKind.TheVariants.{Despatch, Schedule}
use Rattle.mrp_net.specs.Lanes.{lanes, lane_at, customer_of, supplier_of}
use Rattle.mrp_net.specs.Routes.{IsLane}
use Rattle.mrp_net.specs.Sums.{pair_at, no_pair}
use Rattle.mrp_net.specs.Texts.{longest_text}
use Rattle.mrp_loops.specs.Sized.{IsSized}
use Rattle.mrp_record.specs.declared.record.Record.{Record}
use Rattle.mrp_protocol.specs.declared.event.Event.TheVariants.{Send, Receive, Plan}
use Rattle.mrp_protocol.specs.State.{State, CanSend, CanTake, CanPlan, changed, after_send, after_take, after_plan}
use Rattle.mrp_protocol.proofs.Keeping.{reached_goes_on}
use Rattle.mrp_protocol.proofs.Small.{beginnings_are_no_longer}
use Rattle.mrp_world.specs.Moments.{Moment, IsAt, IsNext, SendsLane, Receives, Has}
use Rattle.mrp_agent.specs.OwnPart.{IsOut, IsIn, IsOwn, AgreeAt}
use Rattle.mrp_world.specs.Showing.{Showing}
use Rattle.mrp_world.specs.Mailbox.{Held}
use Rattle.mrp_world.specs.World.{nothing_held, box_at, PlantsShow}
use Rattle.mrp_world.specs.Moves.{BoxesHold, AreAt, AreSomewhere, Lead, LeadNowhere}

-- ---- one value changed

is_or_not : (k at : ℕ) → (k ≡ at) ⊎ (k ≡ at → ⊥)
is_or_not k at = elim (cases_Bool (k == at)) [
  | inl t ↦ inl (eqb-true k at t)
  | inr f ↦ inr (λ e. false≢true (sym f ∙ eq-eqb k at e))
]

changed_there : {X : Type 0} (values : ℕ → X) (at : ℕ) (value : X) → changed values at value at ≡ value
changed_there values at value = rw (eq-eqb at at refl) refl

changed_else : {X : Type 0} (values : ℕ → X) (at : ℕ) (value : X) (k : ℕ) → (k ≡ at → ⊥) → changed values at value k ≡ values k
changed_else values at value k other = elim (cases_Bool (k == at)) [
  | inl t ↦ absurd (other (eqb-true k at t))
  | inr f ↦ rw f refl
]

-- ---- plants of lanes and pairs

kind_is : (kind : LaneKind) → (kind ≡ Despatch) ⊎ (kind ≡ Schedule)
kind_is Despatch = inl refl
kind_is Schedule = inr refl

sender_is : (lane : Lane) → (customer_of lane ≡ lane.sender.0) ⊎ (supplier_of lane ≡ lane.sender.0)
sender_is lane = elim (kind_is lane.kind) [
  | inl e ↦ inr (ap (λ (k : LaneKind). elim k as (λ _. ℕ) [ Despatch ↦ lane.sender.0 | Schedule ↦ lane.receiver.0 ]) e)
  | inr e ↦ inl (ap (λ (k : LaneKind). elim k as (λ _. ℕ) [ Despatch ↦ lane.receiver.0 | Schedule ↦ lane.sender.0 ]) e)
]

receiver_is : (lane : Lane) → (customer_of lane ≡ lane.receiver.0) ⊎ (supplier_of lane ≡ lane.receiver.0)
receiver_is lane = elim (kind_is lane.kind) [
  | inl e ↦ inl (ap (λ (k : LaneKind). elim k as (λ _. ℕ) [ Despatch ↦ lane.receiver.0 | Schedule ↦ lane.sender.0 ]) e)
  | inr e ↦ inr (ap (λ (k : LaneKind). elim k as (λ _. ℕ) [ Despatch ↦ lane.sender.0 | Schedule ↦ lane.receiver.0 ]) e)
]

pub sender_within : (N : Table) (lane : Lane) → IsLane N lane → lane.sender.0 < length N.plants
sender_within N lane is = elim (sender_is lane) [
  | inl e ↦ subst (λ (p : ℕ). p < length N.plants) e is.customer
  | inr e ↦ subst (λ (p : ℕ). p < length N.plants) e is.supplier
]

pub receiver_within : (N : Table) (lane : Lane) → IsLane N lane → lane.receiver.0 < length N.plants
receiver_within N lane is = elim (receiver_is lane) [
  | inl e ↦ subst (λ (p : ℕ). p < length N.plants) e is.customer
  | inr e ↦ subst (λ (p : ℕ). p < length N.plants) e is.supplier
]

pub owner_within : (N : Table) → IsSized N → (x : ℕ) → IsPair N x → (pair_at N x).plant.0 < length N.plants
owner_within N sized x pair = (sized.table.read.pairs x no_pair pair).plant

-- ---- plants at a moment

abbrev pub moment : Table → ℕ → State → Moment
moment N capacity s = record { network = N; capacity = capacity; state = s }

pub plant_is_at : {A : Type 0} (shows : Showing A) (N : Table) (capacity : ℕ) (plants : List A) (boxes : List Held) (s : State)
    → AreAt shows N capacity plants boxes s
    → (p : ℕ) (d : A) → p < length N.plants → IsAt shows (moment N capacity s) p (get_or plants p d)
plant_is_at shows N capacity plants boxes s at p d within = record {
  sized = at.sized;
  known = within;
  reached = at.reached;
  shown = at.shown.each p d (omega (arith, at.shown.all));
}

-- ---- one plant and its part of the state changed

abbrev pub Stays : {A : Type 0} → Showing A → Type 0
Stays {A} shows = (N : Table) (p : ℕ) (s t : State) (plant : A) → shows N p s plant → AgreeAt N p s t → shows N p t plant

plants_after : {A : Type 0} (shows : Showing A) → Stays shows → (N : Table) (plants : List A) (s t : State) (at : ℕ) (new : A) → PlantsShow shows N plants s
    → at < length N.plants → shows N at t new → ((p : ℕ) → (p ≡ at → ⊥) → AgreeAt N p s t) → PlantsShow shows N (set plants at new) t
plants_after shows stays N plants s t at new shown within here others = record {
  all = length-set plants at new ∙ shown.all;
  each = λ p d h. elim (is_or_not p at) [
    | inl e ↦ subst (λ (k : ℕ). shows N k t (get_or (set plants at new) k d)) (sym e)
        (subst (shows N at t) (sym (get_or-set_same plants at new d (omega (arith, shown.all)))) here)
    | inr other ↦ subst (shows N p t) (sym (get_or-set_other plants at p new d other))
        (stays N p s t (get_or plants p d) (shown.each p d (subst (λ (n : ℕ). p < n) (length-set plants at new) h)) (others p other))
  ];
}

sent_elsewhere : (N : Table) (s : State) (l : ℕ) (r : Record) (p : ℕ) → (p ≡ (lane_at N l).sender.0 → ⊥) → AgreeAt N p s (after_send s l r)
sent_elsewhere N s l r p other = record {
  sent = λ k out. sym (changed_else s.sent l (s.sent l ++ r ∷ []) k (λ e. other (sym (out.plant) ∙ ap (λ (z : ℕ). (lane_at N z).sender.0) e)));
  taken = λ k within. refl;
  planned = λ x own. refl;
}

taken_elsewhere : (N : Table) (s : State) (l : ℕ) (r : Record) (p : ℕ) → (p ≡ (lane_at N l).receiver.0 → ⊥) → AgreeAt N p s (after_take s l r)
taken_elsewhere N s l r p other = record {
  sent = λ k out. refl;
  taken = λ k within. sym (changed_else s.taken l (s.taken l ++ r ∷ []) k (λ e. other (sym (within.plant) ∙ ap (λ (z : ℕ). (lane_at N z).receiver.0) e)));
  planned = λ x own. refl;
}

planned_elsewhere : (N : Table) (s : State) (x : ℕ) (p : ℕ) → (p ≡ (pair_at N x).plant.0 → ⊥) → AgreeAt N p s (after_plan s x)
planned_elsewhere N s x p other = record {
  sent = λ k out. refl;
  taken = λ k within. refl;
  planned = λ y own. sym (changed_else s.planned x true y (λ e. other (sym own.at_plant ∙ ap (λ (z : ℕ). (pair_at N z).plant.0) e)));
}

-- ---- one mailbox changed

module _ (N : Table) (capacity : ℕ) (boxes : List Held) (s : State) where
  boxes_set : (l : ℕ) (new : Held) (t : State) → BoxesHold N capacity boxes s → l < length (lanes N) → new.room ≡ (box_at boxes l).room
      → t.sent l ≡ t.taken l ++ new.records → ((k : ℕ) → (k ≡ l → ⊥) → (t.sent k ≡ s.sent k) × (t.taken k ≡ s.taken k))
      → BoxesHold N capacity (set boxes l new) t
  boxes_set l new t hold within room parts others =
      let here : box_at (set boxes l new) l ≡ new = get_or-set_same boxes l new nothing_held (omega (arith, hold.all)) in
      record {
        all = length-set boxes l new ∙ hold.all;
        each = λ k h. elim (is_or_not k l) [
          | inl e ↦ subst (λ (z : ℕ). t.sent z ≡ t.taken z ++ (box_at (set boxes l new) z).records) (sym e)
              (parts ∙ ap (λ (b : Held). t.taken l ++ b.records) (sym here))
          | inr other ↦ (others k other).0 ∙ hold.each k h ∙ ap (λ (z : List Record). z ++ (box_at boxes k).records) (sym ((others k other).1))
              ∙ ap (λ (b : Held). t.taken k ++ b.records) (sym (get_or-set_other boxes l k new nothing_held other))
        ];
        room = λ k h. elim (is_or_not k l) [
          | inl e ↦ subst (λ (z : ℕ). (box_at (set boxes l new) z).room ≡ min capacity (longest_text N (lane_at N z))) (sym e)
              (ap (λ (b : Held). b.room) here ∙ room ∙ hold.room l within)
          | inr other ↦ ap (λ (b : Held). b.room) (get_or-set_other boxes l k new nothing_held other) ∙ hold.room k h
        ];
      }

  boxes_after_send : (l : ℕ) (r : Record) → BoxesHold N capacity boxes s → l < length (lanes N)
      → BoxesHold N capacity (set boxes l (record { records = (box_at boxes l).records ++ r ∷ []; room = (box_at boxes l).room })) (after_send s l r)
  boxes_after_send l r hold within =
      let more : List Record = s.sent l ++ r ∷ [] in
      boxes_set l _ (after_send s l r) hold within refl
      (changed_there s.sent l more ∙ ap (λ (z : List Record). z ++ r ∷ []) (hold.each l within)
      ∙ append_assoc (s.taken l) (box_at boxes l).records (r ∷ [])) (λ k other. (changed_else s.sent l more k other, refl))

  -- what is behind the first record of a mailbox
  boxes_after_take : (l : ℕ) (r : Record) (rest : List Record) → BoxesHold N capacity boxes s → l < length (lanes N) → (box_at boxes l).records ≡ r ∷ rest
      → BoxesHold N capacity (set boxes l (record { records = rest; room = (box_at boxes l).room })) (after_take s l r)
  boxes_after_take l r rest hold within first =
      let more : List Record = s.taken l ++ r ∷ [] in
      boxes_set l _ (after_take s l r) hold within refl
      (hold.each l within ∙ ap (λ (z : List Record). s.taken l ++ z) first ∙ sym (append_assoc (s.taken l) (r ∷ []) rest)
      ∙ ap (λ (z : List Record). z ++ rest) (sym (changed_there s.taken l more))) (λ k other. (refl, changed_else s.taken l more k other))

  boxes_after_plan : (x : ℕ) → BoxesHold N capacity boxes s → BoxesHold N capacity boxes (after_plan s x)
  boxes_after_plan x hold = record { all = hold.all; each = hold.each; room = hold.room }

  -- ---- room

  -- what has been sent is what has been taken and what waits
  lengths : BoxesHold N capacity boxes s → (l : ℕ) → l < length (lanes N) → length (s.sent l) ≡ length (s.taken l) + length (box_at boxes l).records
  lengths hold l within = ap length (hold.each l within) ∙ length-append (s.taken l) (box_at boxes l).records

  pub can_send : (l : ℕ) (r : Record) → BoxesHold N capacity boxes s → l < length (lanes N) → IsNext (moment N capacity s) l r
      → length (box_at boxes l).records < (box_at boxes l).room → CanSend N capacity s l r
  can_send l r hold within next room = record {
    lane = within;
    legal = next.legal;
    decided = next.decided;
    room = omega (arith, lengths hold l within, hold.room l within);
  }

  -- where the mailbox is full no record can be sent: it holds as many as it may, or all that the lane can have
  pub full_cannot : (l : ℕ) (r : Record) → BoxesHold N capacity boxes s → l < length (lanes N) → (box_at boxes l).room ≤ length (box_at boxes l).records
      → ¬ CanSend N capacity s l r
  full_cannot l r hold within full can =
      omega (
        arith,
        lengths hold l within,
        hold.room l within,
        can.room,
        beginnings_are_no_longer N (lane_at N l)
            (s.sent l ++ r ∷ []) can.legal,
        length-append (s.sent l) (r ∷ []),
      )

pub next_of : (N : Table) (capacity : ℕ) (s : State) (l : ℕ) (r : Record) → CanSend N capacity s l r → IsNext (moment N capacity s) l r
next_of N capacity s l r can = record { legal = can.legal; decided = can.decided }

-- ---- the three events

module _ {A : Type 0} (shows : Showing A) (stays : Stays shows) (N : Table) (capacity : ℕ) (plants : List A) (boxes : List Held) (s : State) where
  pub sends : (l : ℕ) (r : Record) (new : A) → AreAt shows N capacity plants boxes s → l < length (lanes N) → (lane_at N l).sender.0 < length N.plants
      → CanSend N capacity s l r → shows N (lane_at N l).sender.0 (after_send s l r) new → AreAt shows N capacity (set plants (lane_at N l).sender.0 new)
      (set boxes l (record { records = (box_at boxes l).records ++ r ∷ []; room = (box_at boxes l).room })) (after_send s l r)
  sends l r new at within known can shown = record {
    sized = at.sized;
    reached = reached_goes_on N capacity s (after_send s l r) (Send (record { 0 = l })) at.reached (inl (r, can, refl));
    shown = plants_after shows stays N plants s (after_send s l r) (lane_at N l).sender.0 new at.shown known shown (sent_elsewhere N s l r);
    held = boxes_after_send N capacity boxes s l r at.held within;
  }

  pub takes : (l : ℕ) (r : Record) (rest : List Record) (new : A) → AreAt shows N capacity plants boxes s → l < length (lanes N)
      → (lane_at N l).receiver.0 < length N.plants → (box_at boxes l).records ≡ r ∷ rest → CanTake N s l r
      → shows N (lane_at N l).receiver.0 (after_take s l r) new → AreAt shows N capacity (set plants (lane_at N l).receiver.0 new)
      (set boxes l (record { records = rest; room = (box_at boxes l).room })) (after_take s l r)
  takes l r rest new at within known first can shown = record {
    sized = at.sized;
    reached = reached_goes_on N capacity s (after_take s l r) (Receive (record { 0 = l })) at.reached (inl (r, can, refl));
    shown = plants_after shows stays N plants s (after_take s l r) (lane_at N l).receiver.0 new at.shown known shown (taken_elsewhere N s l r);
    held = boxes_after_take N capacity boxes s l r rest at.held within first;
  }

  pub plans : (x : ℕ) (new : A) → AreAt shows N capacity plants boxes s → (pair_at N x).plant.0 < length N.plants → CanPlan N s x
      → shows N (pair_at N x).plant.0 (after_plan s x) new → AreAt shows N capacity (set plants (pair_at N x).plant.0 new) boxes (after_plan s x)
  plans x new at known can shown = record {
    sized = at.sized;
    reached = reached_goes_on N capacity s (after_plan s x) (Plan (record { 0 = x })) at.reached (inl (can, refl));
    shown = plants_after shows stays N plants s (after_plan s x) (pair_at N x).plant.0 new at.shown known shown (planned_elsewhere N s x);
    held = boxes_after_plan N capacity boxes s x at.held;
  }

-- ---- what waits first

pub first_can : (N : Table) (capacity : ℕ) (boxes : List Held) (s : State) (l : ℕ) (r : Record) (rest : List Record) → BoxesHold N capacity boxes s
    → l < length (lanes N)
    → (box_at boxes l).records ≡ r ∷ rest → CanTake N s l r
first_can N capacity boxes s l r rest hold within first =
    record { lane = within; rest = rest; next = hold.each l within ∙ ap (λ (z : List Record). s.taken l ++ z) first }

-- it is the only one that can be taken
tail : {X : Type 0} → List X → List X
tail [] = []
tail (x ∷ xs) = xs

behind : {X : Type 0} (front more rest : List X) → front ++ more ≡ front ++ rest → more ≡ rest
unfolding tail
behind [] more rest e = e
behind (x ∷ front) more rest e = behind front more rest (ap tail e)

pub can_is_first : (N : Table) (capacity : ℕ) (boxes : List Held) (s : State) (l : ℕ) (r : Record) → BoxesHold N capacity boxes s → (can : CanTake N s l r)
    → (box_at boxes l).records ≡ r ∷ can.rest
can_is_first N capacity boxes s l r hold can = behind (s.taken l) (box_at boxes l).records (r ∷ can.rest) (sym (hold.each l can.lane) ∙ can.next)

-- ---- what the calls of a plant and a mailbox give

pub first_of : {X : Type 0} (xs : List X) (x : X) → slice_get xs 0 ≡ Some x → xs ≡ x ∷ drop 1 xs
first_of [] x e = absurd (cc)
first_of (y ∷ xs) x e = ap (λ z. z ∷ xs) (some_same e)
  where
    some_same : {X : Type 0} {y x : X} → Some y ≡ Some x → y ≡ x
    some_same e = cc

none_first : {X : Type 0} (xs : List X) (x : X) (rest : List X) → slice_get xs 0 ≡ None → xs ≡ x ∷ rest → ⊥
none_first {X} xs x rest none e = some_none (sym none ∙ ap (λ (z : List X). slice_get z 0) e)
  where
    some_none : {X : Type 0} {x : X} → None ≡ Some x → ⊥
    some_none e = absurd (cc)

module _ {A : Type 0} (shows : Showing A) (N : Table) (plants : List A) (boxes : List Held) where
  -- the mailbox of a lane, at any default
  pub box_is : (l : ℕ) (d : Held) → AreSomewhere shows N plants boxes → l < length (lanes N) → get_or boxes l d ≡ box_at boxes l
  box_is l d some within = get_or_default boxes l d nothing_held (omega (arith, some.2.held.all))

  pub full_leads_nowhere : (l : ℕ) (old : Held) → l < length (lanes N) → old ≡ box_at boxes l → old.room ≤ length old.records
      → LeadNowhere shows N plants boxes (Send (record { 0 = l }))
  full_leads_nowhere l old within same full capacity s at enabled =
      full_cannot N capacity boxes s l enabled.1.0 at.held within (subst (λ (b : Held). b.room ≤ length b.records) same full) enabled.1.1

  pub none_leads_nowhere : (l p : ℕ) (d : A) → l < length (lanes N) → p < length N.plants → (lane_at N l).sender.0 ≡ p
      → ((m : Moment) (q : ℕ) → IsAt shows m q (get_or plants p d) → IsOut m.network q l → (r : Record) → ¬ IsNext m l r)
      → LeadNowhere shows N plants boxes (Send (record { 0 = l }))
  none_leads_nowhere l p d within known e none capacity s at enabled =
      none (moment N capacity s) p (plant_is_at shows N capacity plants boxes s at p d known) (record { lane = within; plant = e }) enabled.1.0
      (next_of N capacity s l enabled.1.0 enabled.1.1)

  pub empty_leads_nowhere : (l : ℕ) (old : Held) → old ≡ box_at boxes l → slice_get old.records 0 ≡ None
      → LeadNowhere shows N plants boxes (Receive (record { 0 = l }))
  empty_leads_nowhere l old same none capacity s at enabled =
      none_first (box_at boxes l).records enabled.1.0 enabled.1.1.rest (ap (λ (b : Held). slice_get b.records 0) (sym same) ∙ none)
      (can_is_first N capacity boxes s l enabled.1.0 at.held enabled.1.1)

  pub refused_leads_nowhere : (l p : ℕ) (d : A) (old : Held) (r : Record) → l < length (lanes N) → p < length N.plants → (lane_at N l).receiver.0 ≡ p
      → old ≡ box_at boxes l → slice_get old.records 0 ≡ Some r
      → ((m : Moment) (q : ℕ) → IsAt shows m q (get_or plants p d) → IsIn m.network q l → ¬ CanTake m.network m.state l r)
      → LeadNowhere shows N plants boxes (Receive (record { 0 = l }))
  refused_leads_nowhere l p d old r within known e same first_old refused capacity s at enabled =
      let rest = drop 1 (box_at boxes l).records in
      let first : (box_at boxes l).records ≡ r ∷ rest = first_of (box_at boxes l).records r (ap (λ (b : Held). slice_get b.records 0) (sym same) ∙ first_old) in
      refused (moment N capacity s) p (plant_is_at shows N capacity plants boxes s at p d known) (record { lane = within; plant = e })
      (first_can N capacity boxes s l r rest at.held within first)

  pub cannot_leads_nowhere : (x p : ℕ) (d : A) → IsPair N x → p < length N.plants → (pair_at N x).plant.0 ≡ p
      → ((m : Moment) (q : ℕ) → IsAt shows m q (get_or plants p d) → IsOwn m.network q x → ¬ CanPlan m.network m.state x)
      → LeadNowhere shows N plants boxes (Plan (record { 0 = x }))
  cannot_leads_nowhere x p d pair known e cannot capacity s at enabled =
      cannot (moment N capacity s) p (plant_is_at shows N capacity plants boxes s at p d known) (record { pair = pair; at_plant = e }) enabled.1.0

  -- ---- each plant may be called

  pub may_send : (l p : ℕ) (d : A) → AreSomewhere shows N plants boxes → l < length (lanes N) → p < length N.plants → (lane_at N l).sender.0 ≡ p
      → SendsLane shows (get_or plants p d) l
  may_send l p d some within known e =
      (moment N some.0 some.1, p, plant_is_at shows N some.0 plants boxes some.1 some.2 p d known, record { lane = within; plant = e })

  pub may_receive : (l p : ℕ) (d : A) → AreSomewhere shows N plants boxes → l < length (lanes N) → p < length N.plants → (lane_at N l).receiver.0 ≡ p
      → Receives shows (get_or plants p d) l
  may_receive l p d some within known e =
      (moment N some.0 some.1, p, plant_is_at shows N some.0 plants boxes some.1 some.2 p d known, record { lane = within; plant = e })

  pub may_plan : (x p : ℕ) (d : A) → AreSomewhere shows N plants boxes → IsPair N x → p < length N.plants → (pair_at N x).plant.0 ≡ p
      → Has shows (get_or plants p d) x
  may_plan x p d some pair known e =
      (moment N some.0 some.1, p, plant_is_at shows N some.0 plants boxes some.1 some.2 p d known, record { pair = pair; at_plant = e })

  pub owner_among : (x p : ℕ) → AreSomewhere shows N plants boxes → IsPair N x → (pair_at N x).plant.0 ≡ p → p < length plants
  owner_among x p some pair e =
      let known : (pair_at N x).plant.0 < length N.plants = owner_within N some.2.sized x pair in
      omega (arith, known, e, some.2.shown.all)

  pub owner_known : (x p : ℕ) → AreSomewhere shows N plants boxes → IsPair N x → (pair_at N x).plant.0 ≡ p → p < length N.plants
  owner_known x p some pair e = subst (λ (q : ℕ). q < length N.plants) e (owner_within N some.2.sized x pair)

abbrev pub SendsNext : {A : Type 0} → Showing A → A → ℕ → Record → Type 0
SendsNext shows plant l r = (m : Moment) (q : ℕ) → IsAt shows m q plant → IsOut m.network q l → IsNext m l r

module _ {A : Type 0} (shows : Showing A) (stays : Stays shows) (N : Table) (plants : List A) (boxes : List Held) where
  pub send_leads : (l p : ℕ) (d new : A) (old box : Held) (r : Record) → l < length (lanes N) → p < length N.plants → (lane_at N l).sender.0 ≡ p
      → old ≡ box_at boxes l → length old.records < old.room → box ≡ record { records = old.records ++ r ∷ []; room = old.room }
      → SendsNext shows (get_or plants p d) l r
      → ((m : Moment) (q : ℕ) → IsAt shows m q (get_or plants p d) → IsOut m.network q l → shows m.network q (after_send m.state l r) new)
      → Lead shows N plants boxes (Send (record { 0 = l })) (set plants p new) (set boxes l box)
  send_leads l p d new old box r within known e same has filled_old next sent capacity s at =
      let room = subst (λ (b : Held). length b.records < b.room) same has in
      let more : Held → Held = λ b. record { records = b.records ++ r ∷ []; room = b.room } in
      let filled : box ≡ more (box_at boxes l) = filled_old ∙ ap more same in
      let here = plant_is_at shows N capacity plants boxes s at p d known in
      let out : IsOut N p l = record { lane = within; plant = e } in
      let can = can_send N capacity boxes s l r at.held within (next (moment N capacity s) p here out) room in
      let shown = sent (moment N capacity s) p here out in (
        after_send s l r,
        (r, can, refl),
        subst (λ (b : Held). AreAt shows N capacity (set plants p new) (set boxes l b) (after_send s l r)) (sym filled)
            (subst (λ (q : ℕ). AreAt shows N capacity (set plants q new)
            (set boxes l (record { records = (box_at boxes l).records ++ r ∷ []; room = (box_at boxes l).room })) (after_send s l r)) e
            (sends shows stays N capacity plants boxes s l r new at within (subst (λ (q : ℕ). q < length N.plants) (sym e) known) can
            (subst (λ (q : ℕ). shows N q (after_send s l r) new) (sym e) shown))),
      )

  pub receive_leads : (l p : ℕ) (d new : A) (old box : Held) (r : Record) → l < length (lanes N) → p < length N.plants → (lane_at N l).receiver.0 ≡ p
      → old ≡ box_at boxes l → slice_get old.records 0 ≡ Some r → box ≡ record { records = drop 1 old.records; room = old.room }
      → ((m : Moment) (q : ℕ) → IsAt shows m q (get_or plants p d) → IsIn m.network q l → shows m.network q (after_take m.state l r) new)
      → Lead shows N plants boxes (Receive (record { 0 = l })) (set plants p new) (set boxes l box)
  receive_leads l p d new old box r within known e same first_old emptied_old booked capacity s at =
      let rest = drop 1 (box_at boxes l).records in
      let first : (box_at boxes l).records ≡ r ∷ rest = first_of (box_at boxes l).records r (ap (λ (b : Held). slice_get b.records 0) (sym same) ∙ first_old) in
      let less : Held → Held = λ b. record { records = drop 1 b.records; room = b.room } in
      let emptied : box ≡ less (box_at boxes l) = emptied_old ∙ ap less same in
      let here = plant_is_at shows N capacity plants boxes s at p d known in
      let can = first_can N capacity boxes s l r rest at.held within first in
      let shown = booked (moment N capacity s) p here (record { lane = within; plant = e }) in (
        after_take s l r,
        (r, can, refl),
        subst (λ (b : Held). AreAt shows N capacity (set plants p new) (set boxes l b) (after_take s l r)) (sym emptied)
            (subst (λ (q : ℕ). AreAt shows N capacity (set plants q new) (set boxes l (record { records = rest; room = (box_at boxes l).room }))
            (after_take s l r)) e
            (takes shows stays N capacity plants boxes s l r rest new at within (subst (λ (q : ℕ). q < length N.plants) (sym e) known) first can
            (subst (λ (q : ℕ). shows N q (after_take s l r) new) (sym e) shown))),
      )

  pub plan_leads : (x p : ℕ) (d new : A) → IsPair N x → p < length N.plants → (pair_at N x).plant.0 ≡ p
      → ((m : Moment) (q : ℕ) → IsAt shows m q (get_or plants p d) → IsOwn m.network q x → CanPlan m.network m.state x)
      → ((m : Moment) (q : ℕ) → IsAt shows m q (get_or plants p d) → IsOwn m.network q x → shows m.network q (after_plan m.state x) new)
      → Lead shows N plants boxes (Plan (record { 0 = x })) (set plants p new) boxes
  plan_leads x p d new pair known e can planned capacity s at =
      let here = plant_is_at shows N capacity plants boxes s at p d known in
      let own : IsOwn N p x = record { pair = pair; at_plant = e } in
      let may = can (moment N capacity s) p here own in (
        after_plan s x,
        (may, refl),
        subst (λ (q : ℕ). AreAt shows N capacity (set plants q new) boxes (after_plan s x)) e
            (plans shows stays N capacity plants boxes s x new at (subst (λ (q : ℕ). q < length N.plants) (sym e) known) may
            (subst (λ (q : ℕ). shows N q (after_plan s x) new) (sym e) (planned (moment N capacity s) p here own))),
      )
