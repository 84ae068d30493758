-- The world: how its plants and mailboxes are driven until nothing moves.
use Rattle.std.proofs.Common.{◌≡◌, ℕ, ◌+◌, ◌≤◌, Bool, true, false, ◌||◌, List, [], ◌∷◌, ◌++◌, inl, inr, refl, sym, ap, subst, ◌∙◌, arith}
use Rattle.std.specs.Prelude.{MatchBool}
use Rattle.mrp_master_data.specs.Table.{Table}
use Rattle.mrp_loops.specs.Sized.{IsSized}
use Rattle.mrp_protocol.specs.declared.event.Event.{Event}
use Rattle.mrp_protocol.specs.Steps.{steps}
use Rattle.mrp_protocol.specs.Progress.{steps_left}
use Rattle.mrp_protocol.specs.State.{State, opening_state, Run, IsReached}
use Rattle.mrp_protocol.proofs.Counting.{runs_begin_with_steps, events_are_steps, none_is_left_at_the_end}
use Rattle.mrp_protocol.proofs.Keeping.{opening_is_reached, reached_goes_on}
use Rattle.mrp_world.specs.Driving.{LeadOn, Tried}
use Rattle.mrp_world.specs.Showing.{Showing}
use Rattle.mrp_world.specs.Mailbox.{Held}
use Rattle.mrp_world.specs.World.{PlantsShow, WorldState}
use Rattle.mrp_world.specs.Moves.{BoxesHold, AreAt, AreSomewhere, Lead, LeadNowhere, Acts, StandsStill, MayLead, AllRests, WorldShows, IsWorld, Runs}
use Rattle.mrp_world.proofs.Counts.{texts_are_few}
use Rattle.mrp_world.proofs.Makes.{is_world}
use Rattle.mrp_world.proofs.Worlds.{world, rest_finished, run_append}

-- ---- steps

-- a run leaves no more steps than there were
pub run_leaves_no_more : (N : Table) (capacity : ℕ) (s t : State) (events : List Event) → IsReached N capacity s → Run N capacity s events t
    → steps_left N t ≤ steps_left N s
run_leaves_no_more N capacity s t [] reached run = omega (arith, ap (steps_left N) run)
run_leaves_no_more N capacity s t (event ∷ events) reached run =
    let more : steps_left N t ≤ steps_left N run.0 = run_leaves_no_more N capacity run.0 t events (reached_goes_on N capacity s run.0 event reached run.1) run.2
    in
    elim run.1 [
      | inl step ↦ let falls : steps_left N run.0 + 1 ≡ steps_left N s = events_are_steps N capacity s run.0 event reached step in omega (arith, more, falls)
      | inr still ↦ let same : steps_left N run.0 ≡ steps_left N s = ap (steps_left N) still.1 in omega (arith, more, same)
    ]

-- ---- on and on

pub on_nowhere : {A : Type 0} {shows : Showing A} {N : Table} {plants : List A} {boxes : List Held} → LeadOn shows N plants boxes 0 plants boxes
on_nowhere = record { events = []; runs = λ capacity s at. (s, refl, at, omega arith) }

module _ {A : Type 0} {shows : Showing A} {N : Table} {plants new_plants : List A} {boxes new_boxes : List Held} where
  pub on_by_one : (event : Event) → Lead shows N plants boxes event new_plants new_boxes → LeadOn shows N plants boxes 1 new_plants new_boxes
  on_by_one event leads = record {
    events = event ∷ [];
    runs = λ capacity s at.
        let next = leads capacity s at in
        let falls : steps_left N next.0 + 1 ≡ steps_left N s = events_are_steps N capacity s next.0 event at.reached next.1 in
        (next.0, (next.0, inl next.1, refl), next.2, omega (arith, falls));
  }

  pub on_and_on : {m n : ℕ} {now_plants : List A} {now_boxes : List Held} → LeadOn shows N plants boxes m now_plants now_boxes
      → LeadOn shows N now_plants now_boxes n new_plants new_boxes → LeadOn shows N plants boxes (m + n) new_plants new_boxes
  on_and_on before after = record {
    events = before.events ++ after.events;
    runs = λ capacity s at.
        let now = before.runs capacity s at in
        let next = after.runs capacity now.0 now.2 in
        (next.0, run_append N capacity s now.0 next.0 before.events after.events now.1 next.1, next.2, omega (arith, now.3, next.3));
  }

  -- by so many steps, and so by none or more
  pub on_at_all : {n : ℕ} → LeadOn shows N plants boxes n new_plants new_boxes → LeadOn shows N plants boxes 0 new_plants new_boxes
  on_at_all leads = record {
    events = leads.events;
    runs = λ capacity s at. let next = leads.runs capacity s at in (next.0, next.1, next.2, omega (arith, next.3));
  }

  pub on_somewhere : {n : ℕ} → AreSomewhere shows N plants boxes → LeadOn shows N plants boxes n new_plants new_boxes
      → AreSomewhere shows N new_plants new_boxes
  on_somewhere here leads = let next = leads.runs here.0 here.1 here.2 in (here.0, next.0, next.2)

  -- no run has as many steps
  pub never_so_many : {n : ℕ} → AreSomewhere shows N plants boxes → LeadOn shows N plants boxes n new_plants new_boxes → 18446744073709551615 ≤ n → ⊥
  never_so_many here leads many =
      let s : State = here.1 in
      let reached : IsReached N here.0 s = here.2.reached in
      let fewer : steps_left N s ≤ steps_left N opening_state = run_leaves_no_more N here.0 opening_state s reached.0 (opening_is_reached N here.0) reached.1 in
      let all : steps_left N opening_state ≡ steps N = runs_begin_with_steps N in
      let next = leads.runs here.0 s here.2 in
      omega (arith, fewer, all, next.3, many, texts_are_few N here.2.sized.table)

-- ---- where nothing has changed

module _ {A : Type 0} {plants new_plants : List A} {boxes new_boxes : List Held} {Holds : Type 0} (P : List A → List Held → Type 0)
    (still : StandsStill plants boxes Holds new_plants new_boxes) where
  -- what holds of the lists holds of them still
  pub still_has : P plants boxes → P new_plants new_boxes
  still_has here =
      subst (λ (p : List A). P p new_boxes) (sym still.same_plants) (subst (λ (b : List Held). P plants b) (sym still.same_boxes) here)

  -- and has held of them
  pub still_had : P new_plants new_boxes → P plants boxes
  still_had now = subst (λ (p : List A). P p boxes) still.same_plants (subst (λ (b : List Held). P new_plants b) still.same_boxes now)

-- ---- what was tried

module _ {A : Type 0} (shows : Showing A) (N : Table) (plants : List A) (boxes : List Held) where
  -- one event
  pub tried_one : (event : Event) (acted : Bool) (new_plants : List A) (new_boxes : List Held) → Acts shows N plants boxes event acted new_plants new_boxes
      → Tried shows N plants boxes (λ p b. LeadNowhere shows N p b event) acted new_plants new_boxes
  tried_one event true new_plants new_boxes acts = on_by_one event acts
  tried_one event false new_plants new_boxes acts = acts

  -- one that may happen
  pub tried_ready : (Holds : Type 0) (event : Event) (acted : Bool) (new_plants : List A)
      → (some : List Held) × AreSomewhere shows N plants some → ((b : List Held) → MayLead shows N plants b event)
      → ((b : List Held) → Acts shows N plants b event acted new_plants b)
      → MatchBool acted (LeadOn shows N plants boxes 1 new_plants boxes) (StandsStill plants boxes Holds new_plants boxes)
  tried_ready Holds event true new_plants here may acts = on_by_one event (acts boxes)
  tried_ready Holds event false new_plants here may acts = absurd ((acts here.0).holds here.1.0 here.1.1 here.1.2 (may here.0 here.1.0 here.1.1 here.1.2))

  -- whatever was tried leads on
  pub tried_on : (Holds : Type 0) (happened : Bool) (new_plants : List A) (new_boxes : List Held)
      → MatchBool happened (LeadOn shows N plants boxes 1 new_plants new_boxes) (StandsStill plants boxes Holds new_plants new_boxes)
      → LeadOn shows N plants boxes 0 new_plants new_boxes
  tried_on Holds true new_plants new_boxes tried = on_at_all tried
  tried_on Holds false new_plants new_boxes tried = still_has (λ p b. LeadOn shows N plants boxes 0 p b) tried on_nowhere

module _ {A : Type 0} (shows : Showing A) (N : Table) (plants : List A) (boxes : List Held) (First Then All : List A → List Held → Type 0)
    (both : First plants boxes → Then plants boxes → All plants boxes) (now_plants : List A) (now_boxes : List Held) where
  -- where one rests another is tried
  pub tried_then : (happened : Bool) (new_plants : List A) (new_boxes : List Held)
      → StandsStill plants boxes (First plants boxes) now_plants now_boxes → Tried shows N now_plants now_boxes Then happened new_plants new_boxes
      → Tried shows N plants boxes All happened new_plants new_boxes
  tried_then true new_plants new_boxes still tried = still_had (λ p b. LeadOn shows N p b 1 new_plants new_boxes) still tried
  tried_then false new_plants new_boxes still tried = record {
    holds = both still.holds (still_had Then still tried.holds);
    same_plants = tried.same_plants ∙ still.same_plants;
    same_boxes = tried.same_boxes ∙ still.same_boxes;
  }

  -- another is tried in any case
  pub tried_too : (before happened : Bool) (new_plants : List A) (new_boxes : List Held)
      → Tried shows N plants boxes First before now_plants now_boxes → Tried shows N now_plants now_boxes Then happened new_plants new_boxes
      → Tried shows N plants boxes All (before || happened) new_plants new_boxes
  tried_too true happened new_plants new_boxes first tried =
      on_and_on first (tried_on shows N now_plants now_boxes (Then now_plants now_boxes) happened new_plants new_boxes tried)
  tried_too false happened new_plants new_boxes first tried = tried_then happened new_plants new_boxes first tried

-- ---- worlds

module _ {A : Type 0} (shows : Showing A) (N : Table) (capacity : ℕ) (new_plants : List A) (new_boxes : List Held)
    (rests : AllRests shows N new_plants new_boxes) where
  -- a world of plants and mailboxes that rest has no steps left
  rest_shown : (s : State) → 1 ≤ capacity → AreAt shows N capacity new_plants new_boxes s → WorldShows shows (world N capacity new_plants new_boxes 0) s
  rest_shown s holds at = record {
    parts = at;
    left = sym ((none_is_left_at_the_end N capacity s at.reached).1 (rest_finished shows N capacity new_plants new_boxes s rests at holds));
  }

  module _ (plants : List A) (boxes : List Held) (left : ℕ) (leads : LeadOn shows N plants boxes 0 new_plants new_boxes) where
    pub world_driven : IsWorld shows (world N capacity plants boxes left) → IsWorld shows (world N capacity new_plants new_boxes 0)
    world_driven is =
        let next = leads.runs capacity is.state is.shown.parts in
        record { holds = is.holds; state = next.0; shown = rest_shown next.0 is.holds next.2 }

    pub world_runs : (w : WorldState A) → world N capacity plants boxes left ≡ w → IsWorld shows (world N capacity plants boxes left)
        → (events : List Event) × Runs shows w events (world N capacity new_plants new_boxes 0)
    world_runs w e is =
        let own : Runs shows (world N capacity plants boxes left) leads.events (world N capacity new_plants new_boxes 0) = record {
          network = refl;
          capacity = refl;
          runs = λ s shown. let next = leads.runs capacity s shown.parts in (next.0, next.1, rest_shown next.0 is.holds next.2);
        } in
        (leads.events, subst (λ (v : WorldState A). Runs shows v leads.events (world N capacity new_plants new_boxes 0)) e own)

-- ---- a new world

module _ {A : Type 0} (shows : Showing A) (N M : Table) (capacity : ℕ) (plants : List A) (boxes : List Held) (e : N ≡ M) (sized : IsSized M)
    (shown : PlantsShow shows M plants opening_state) (held : BoxesHold M capacity boxes opening_state) where
  pub opens_somewhere : AreSomewhere shows N plants boxes
  opens_somewhere =
      subst (λ (K : Table). AreSomewhere shows K plants boxes) (sym e)
      (capacity, opening_state, record { sized = sized; reached = opening_is_reached M capacity; shown = shown; held = held })

  pub new_is_driven : (new_plants : List A) (new_boxes : List Held) → 1 ≤ capacity → LeadOn shows N plants boxes 0 new_plants new_boxes
      → AllRests shows N new_plants new_boxes → IsWorld shows (world N capacity new_plants new_boxes 0)
  new_is_driven new_plants new_boxes holds leads rests =
      world_driven shows N capacity new_plants new_boxes rests plants boxes (steps M) leads
      (is_world shows N M capacity plants boxes (steps M) e sized shown held refl holds)
