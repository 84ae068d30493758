-- The world: what events do to it.
use Rattle.std.proofs.Common.{◌≡◌, Option, None, Some, get_or, take, ℕ, ◌+◌, ◌-◌, ◌<◌, ◌≤◌, ◌==◌, Bool, true, false, List, [], ◌∷◌, ◌++◌, inl, inr, length}
use Rattle.std.proofs.Common.{refl, sym, ap, subst, ◌∙◌, arith}
use Rattle.std.specs.Prelude.{slice_get, MatchBool, IfNone, IsSome, IsSomeAnd}
use Rattle.std.proofs.lemmas.Bool.{cases_Bool, cases_from_iff, eqb-true, eq-eqb, false≢true}
use Rattle.std.proofs.lemmas.List.{take_more}
use Rattle.std.proofs.lemmas.Option.{slice_get_read}
use Rattle.mrp_master_data.specs.Table.{Table, IsPair}
use Rattle.mrp_net.specs.Sums.{pair_at}
use Rattle.mrp_protocol.specs.declared.event.Event.{Event}
use Rattle.mrp_protocol.specs.State.{State, Step, Run, IsEnabled, IsFinished}
use Rattle.mrp_protocol.specs.Progress.{steps_left}
use Rattle.mrp_protocol.proofs.Counting.{events_are_steps, none_is_left_at_the_end}
use Rattle.mrp_protocol.proofs.Finishing.{no_schedule_sticks}
use Rattle.mrp_world.specs.Moments.{Moment, IsAt, Has}
use Rattle.mrp_agent.specs.OwnPart.{IsOwn}
use Rattle.mrp_world.specs.Showing.{Showing}
use Rattle.mrp_world.proofs.Steps.{moment, plant_is_at, owner_among, owner_known}
use Rattle.mrp_world.specs.Mailbox.{Held}
use Rattle.mrp_world.specs.World.{WorldState}
use Rattle.mrp_world.specs.Moves.{AreAt, AreSomewhere, Lead, LeadNowhere, AllRests, WorldShows, IsWorld, Runs}

abbrev pub world : {A : Type 0} → Table → ℕ → List A → List Held → ℕ → WorldState A
world N capacity plants boxes left = record { network = N; capacity = capacity; plants = plants; boxes = boxes; left = left }

pub somewhere : {A : Type 0} (shows : Showing A) (w : WorldState A) → IsWorld shows w → AreSomewhere shows w.network w.plants w.boxes
somewhere shows w is = (w.capacity, is.state, is.shown.parts)

-- ---- one event

-- what a world shows after an event
pub record Leads {A : Type 0} (shows : Showing A) (w : WorldState A) (event : Event) (new : WorldState A) (s : State) : Type 0 where
  pub next : State
  pub step : Step w.network w.capacity s event next
  pub shown : WorldShows shows new next
  pub some : new.left + 1 ≡ w.left

module _ {A : Type 0} (shows : Showing A) (N : Table) (capacity : ℕ) (plants : List A) (boxes : List Held) (left : ℕ) (event : Event) (new_plants : List A)
    (new_boxes : List Held) (leads : Lead shows N plants boxes event new_plants new_boxes) where
  leads_to : (s : State) → WorldShows shows (world N capacity plants boxes left) s
      → Leads shows (world N capacity plants boxes left) event (world N capacity new_plants new_boxes (left - 1)) s
  leads_to s shown =
      let next = leads capacity s shown.parts in
      let counted : left ≡ steps_left N s = shown.left in
      let falls : steps_left N next.0 + 1 ≡ steps_left N s = events_are_steps N capacity s next.0 event shown.parts.reached next.1 in
      record {
        next = next.0;
        step = next.1;
        shown = record { parts = next.2; left = omega (arith, counted, falls) };
        some = omega (arith, counted, falls);
      }

  pub world_leads : (w : WorldState A) → world N capacity plants boxes left ≡ w → (s : State) → WorldShows shows w s
      → (t : State) × Step w.network w.capacity s event t × WorldShows shows (world N capacity new_plants new_boxes (left - 1)) t
  world_leads w e =
      subst (λ v. (s : State) → WorldShows shows v s → (t : State) × Step v.network v.capacity s event t
      × WorldShows shows (world N capacity new_plants new_boxes (left - 1)) t) e
      (λ s shown. let x = leads_to s shown in (x.next, x.step, x.shown))

  pub world_after : IsWorld shows (world N capacity plants boxes left) → IsWorld shows (world N capacity new_plants new_boxes (left - 1))
  world_after is = let x = leads_to is.state is.shown in record { holds = is.holds; state = x.next; shown = x.shown }

  pub some_left : IsWorld shows (world N capacity plants boxes left) → 1 ≤ left
  some_left is =
      let e : (left - 1) + 1 ≡ left = (leads_to is.state is.shown).some in
      omega (arith, e)

pub world_nowhere : {A : Type 0} (shows : Showing A) (N : Table) (capacity : ℕ) (plants : List A) (boxes : List Held) (left : ℕ) (event : Event)
    (w : WorldState A)
    → world N capacity plants boxes left ≡ w → LeadNowhere shows N plants boxes event → (s : State) → WorldShows shows w s
    → ¬ IsEnabled w.network w.capacity s event
world_nowhere shows N capacity plants boxes left event w e nowhere =
    subst (λ v. (s : State) → WorldShows shows v s → ¬ IsEnabled v.network v.capacity s event) e (λ s shown. nowhere capacity s shown.parts)

-- ---- the end

pub finished_at : {A : Type 0} (shows : Showing A) (w : WorldState A) (left : ℕ) → left ≡ w.left → (s : State) → WorldShows shows w s
    → MatchBool (left == 0) (IsFinished w.network s) (¬ IsFinished w.network s)
finished_at shows w left e s shown =
    let end = none_is_left_at_the_end w.network w.capacity s shown.parts.reached in
    cases_from_iff (λ t. end.0 (sym shown.left ∙ sym e ∙ eqb-true left 0 t), λ is. eq-eqb left 0 (e ∙ shown.left ∙ end.1 is))

pub none_left_is_finished : {A : Type 0} (shows : Showing A) (w : WorldState A) (s : State) → WorldShows shows w s → w.left ≡ 0 → IsFinished w.network s
none_left_is_finished shows w s shown none = (none_is_left_at_the_end w.network w.capacity s shown.parts.reached).0 (sym shown.left ∙ none)

-- plants and mailboxes that rest have finished
pub rest_finished : {A : Type 0} (shows : Showing A) (N : Table) (capacity : ℕ) (plants : List A) (boxes : List Held) (s : State)
    → AllRests shows N plants boxes → AreAt shows N capacity plants boxes s → 1 ≤ capacity → IsFinished N s
rest_finished shows N capacity plants boxes s rests at holds =
    elim (no_schedule_sticks N at.sized.table at.sized.loop_free capacity holds s at.reached) [
      | inl finished ↦ finished
      | inr one ↦ absurd (rests one.0 capacity s at one.1)
    ]

-- ---- lists of events

pub run_append : (N : Table) (capacity : ℕ) (s t u : State) (xs ys : List Event) → Run N capacity s xs t → Run N capacity t ys u → Run N capacity s (xs ++ ys) u
run_append N capacity s t u [] ys first after = subst (λ (z : State). Run N capacity z ys u) first after
run_append N capacity s t u (x ∷ xs) ys first after = (first.0, first.1, run_append N capacity first.0 t u xs ys first.2 after)

pub runs_none : {A : Type 0} (shows : Showing A) (w : WorldState A) → Runs shows w [] w
runs_none shows w = record { network = refl; capacity = refl; runs = λ s shown. (s, refl, shown) }

pub runs_on : {A : Type 0} (shows : Showing A) (u v w : WorldState A) (xs ys : List Event) → Runs shows u xs v → Runs shows v ys w → Runs shows u (xs ++ ys) w
runs_on shows u v w xs ys first second = record {
  network = second.network ∙ first.network;
  capacity = second.capacity ∙ first.capacity;
  runs = λ s shown.
      let a = first.runs s shown in
      let b = second.runs a.0 a.2 in
      let more = subst (λ (N : Table). Run N u.capacity a.0 ys b.0) first.network (subst (λ (c : ℕ). Run v.network c a.0 ys b.0) first.capacity b.1) in
      (b.0, run_append u.network u.capacity s a.0 b.0 xs ys a.1 more, b.2);
}

pub runs_one : {A : Type 0} (shows : Showing A) (w : WorldState A) (event : Event) (new : WorldState A) (applied : Bool)
    → (applied ≡ true → (s : State) → WorldShows shows w s → (t : State) × Step w.network w.capacity s event t × WorldShows shows new t)
    → (applied ≡ false → (s : State) → WorldShows shows w s → ¬ IsEnabled w.network w.capacity s event) → (applied ≡ false → new ≡ w)
    → new.network ≡ w.network → new.capacity ≡ w.capacity → Runs shows w (event ∷ []) new
runs_one shows w event new applied leads nowhere same network capacity = record {
  network = network;
  capacity = capacity;
  runs = λ s shown. elim (cases_Bool applied) [
    | inl t ↦ let next = leads t s shown in (next.0, (next.0, inl next.1, refl), next.2)
    | inr f ↦ (s, (s, inr (nowhere f s shown, refl), refl), subst (λ v. WorldShows shows v s) (sym (same f)) shown)
  ];
}

-- ---- what plants and mailboxes say

module _ {A : Type 0} (shows : Showing A) (N : Table) (capacity : ℕ) (plants plants_too : List A) (boxes boxes_too : List Held) (left : ℕ) (w : WorldState A)
    (same_plants : plants_too ≡ plants) (same_boxes : boxes_too ≡ boxes) (e : world N capacity plants boxes left ≡ w) where
  -- what holds in each state that they show holds in each that the world shows
  pub world_says : (Says : Table → ℕ → State → Type 0) → ((c : ℕ) (s : State) → AreAt shows N c plants_too boxes_too s → Says N c s)
      → (s : State) → WorldShows shows w s → Says w.network w.capacity s
  world_says Says says =
      subst (λ (v : WorldState A). (s : State) → WorldShows shows v s → Says v.network v.capacity s) e
      (λ s shown. says capacity s (subst (λ (p : List A). AreAt shows N capacity p boxes_too s) (sym same_plants)
      (subst (λ (b : List Held). AreAt shows N capacity plants b s) (sym same_boxes) shown.parts)))

  pub world_finished : IsWorld shows (world N capacity plants boxes left) → AllRests shows N plants_too boxes_too → (s : State) → WorldShows shows w s
      → IsFinished w.network s
  world_finished is rests s shown =
      world_says (λ M c t. 1 ≤ c → IsFinished M t) (λ c t at. rest_finished shows N c plants_too boxes_too t rests at) s shown
      (subst (λ (v : WorldState A). 1 ≤ v.capacity) e is.holds)

  pub world_left : IsWorld shows (world N capacity plants boxes left) → AllRests shows N plants_too boxes_too → w.left ≡ 0
  world_left is rests =
      let own : IsWorld shows w = subst (IsWorld shows) e is in
      own.shown.left ∙ (none_is_left_at_the_end w.network w.capacity own.state own.shown.parts.reached).1 (world_finished is rests own.state own.shown)

-- ---- how many steps are left after a call

pub no_more_left : {A : Type 0} (w new : WorldState A) (applied : Bool) → (applied ≡ true → new.left + 1 ≡ w.left) → (applied ≡ false → new ≡ w)
    → new.left ≤ w.left
no_more_left {A} w new applied step same = elim (cases_Bool applied) [
  | inl t ↦ omega (arith, step t)
  | inr f ↦ omega (arith, ap (λ (v : WorldState A). v.left) (same f))
]

pub runs_next : {A : Type 0} (shows : Showing A) (old w new : WorldState A) (events : List Event) (i : ℕ) (d : Event) → i < length events
    → Runs shows old (take i events) w → Runs shows w (get_or events i d ∷ []) new → Runs shows old (take (i + 1) events) new
runs_next shows old w new events i d within before one =
    subst (λ (xs : List Event). Runs shows old xs new) (sym (take_more events i d within))
    (runs_on shows old w new (take i events) (get_or events i d ∷ []) before one)

-- the steps that a world has less are those that its states have less
pub fallen : {A : Type 0} (shows : Showing A) (w new : WorldState A) (s t : State) → WorldShows shows w s → WorldShows shows new t → new.network ≡ w.network
    → (before after : ℕ) → before ≡ w.left → after ≡ new.left → before - after ≡ steps_left w.network s - steps_left w.network t
fallen shows w new s t shown then same before after is_before is_after =
    let moved : steps_left new.network t ≡ steps_left w.network t = ap (λ (N : Table). steps_left N t) same in
    omega (arith, shown.left, then.left, moved, is_before, is_after)

-- ---- the plant of a pair

-- the plant that is asked is the one that has the pair
pub record Asked {A : Type 0} (shows : Showing A) (N : Table) (capacity : ℕ) (plants : List A) (boxes : List Held) (left : ℕ) (w : WorldState A) (x p : ℕ)
    (plant : A) : Type 0 where
  pub same : world N capacity plants boxes left ≡ w
  pub is : IsWorld shows (world N capacity plants boxes left)
  pub pair : IsPair w.network x
  pub owner : (pair_at N x).plant.0 ≡ p
  pub at : plant ≡ get_or plants p plant

-- what a plant says of the pair in each moment holds in each state that the world shows
abbrev pub AtMoments : {A : Type 0} → Showing A → A → ℕ → (Table → State → Type 0) → Type 0
AtMoments shows plant x Says = (m : Moment) (p : ℕ) → IsAt shows m p plant → IsOwn m.network p x → Says m.network m.state

module _ {A : Type 0} {shows : Showing A} {N : Table} {capacity : ℕ} {plants : List A} {boxes : List Held} {left : ℕ} {w : WorldState A} {x p : ℕ} {plant : A}
    (asked : Asked shows N capacity plants boxes left w x p plant) where
  own_pair : IsPair N x
  own_pair = subst (λ (v : WorldState A). IsPair v.network x) (sym asked.same) asked.pair

  plant_at : (s : State) → WorldShows shows (world N capacity plants boxes left) s → IsAt shows (moment N capacity s) p plant
  plant_at s shown =
      let known = owner_known shows N plants boxes x p (capacity, s, shown.parts) own_pair asked.owner in
      subst (λ z. IsAt shows (moment N capacity s) p z) (sym asked.at) (plant_is_at shows N capacity plants boxes s shown.parts p plant known)

  pub asked_has : Has shows plant x
  asked_has = (moment N capacity asked.is.state, p, plant_at asked.is.state asked.is.shown, record { pair = own_pair; at_plant = asked.owner })

  pub asked_says : (Says : Table → State → Type 0) → AtMoments shows plant x Says → (s : State) → WorldShows shows w s → Says w.network s
  asked_says Says says =
      subst (λ (v : WorldState A). (s : State) → WorldShows shows v s → Says v.network s) asked.same
      (λ s shown. says (moment N capacity s) p (plant_at s shown) (record { pair = own_pair; at_plant = asked.owner }))

  own_shown : WorldShows shows w asked.is.state
  own_shown = subst (λ (v : WorldState A). WorldShows shows v asked.is.state) asked.same asked.is.shown

  -- also what doesn't depend on the state
  pub asked_always : (Says : Table → Type 0) → AtMoments shows plant x (λ M s. Says M) → Says w.network
  asked_always Says says = asked_says (λ M s. Says M) says asked.is.state own_shown

  -- it stands at its number, so what holds of it holds of the plant of the pair
  pub asked_there : (Says : A → Type 0) → Says plant → IsSomeAnd (slice_get w.plants (pair_at w.network x).plant.0) Says
  asked_there Says says =
      let known : p < length plants =
      owner_among shows N plants boxes x p (somewhere shows (world N capacity plants boxes left) asked.is) own_pair asked.owner in
      let there : slice_get plants p ≡ Some plant = slice_get_read plants (length plants) p plant refl known asked.at in
      subst (λ (v : WorldState A). IsSomeAnd (slice_get v.plants (pair_at v.network x).plant.0) Says) asked.same
      (subst (λ (q : ℕ). IsSomeAnd (slice_get plants q) Says) (sym asked.owner) (subst (λ (o : Option A). IsSomeAnd o Says) (sym there) says))

  -- where no step is left each pair has a plan
  pub has_plan : {X : Type 0} (o : Option X) → IfNone o ((s : State) → WorldShows shows w s → s.planned x ≡ false) → w.left ≡ 0 → IsSome o
  has_plan (Some plan) none end = refl
  has_plan None none end =
      let planned : asked.is.state.planned x ≡ true = (none_left_is_finished shows w asked.is.state own_shown end).planned x asked.pair in
      absurd (false≢true (sym (none asked.is.state own_shown) ∙ planned))

-- ---- each state

pub shows_some : {A : Type 0} (shows : Showing A) (v w : WorldState A) → v ≡ w → IsWorld shows v → (s : State) × WorldShows shows w s
shows_some {A} shows v w e is = (is.state, subst (λ (z : WorldState A). WorldShows shows z is.state) e is.shown)

-- a world without steps left is finished
pub finished_somewhere : {A : Type 0} (shows : Showing A) (w : WorldState A) → IsWorld shows w → w.left ≡ 0
    → (capacity : ℕ) × (boxes : List Held) × (s : State) × AreAt shows w.network capacity w.plants boxes s × IsFinished w.network s
finished_somewhere shows w is none = (w.capacity, w.boxes, is.state, is.shown.parts, none_left_is_finished shows w is.state is.shown none)
