-- Tests of runs, agents that stand alone: what one of them does is a step of the run.
use Rattle.std.proofs.Common.{◌≡◌, ℕ, ◌<◌, ◌≤◌, ◌==◌, min, List, [], ◌∷◌, ◌++◌, ◌⊎◌, inl, inr, Bool, true, false, length, get_or, set, drop, slice_get, refl}
use Rattle.std.proofs.Common.{sym, ap, subst, ◌∙◌, arith, length-append}
use Rattle.std.specs.Prelude.{map}
use Rattle.std.specs.List.{range_with_len}
use Rattle.std.proofs.lemmas.Bool.{cases_Bool, eqb-true, eq-eqb, false≢true}
use Rattle.std.proofs.lemmas.List.{get_or-set_same, get_or-set_other, get_or_past, set-get_or}
use Rattle.std.proofs.lemmas.List.FromFn.{get_or-map-range_with_len, length-map-range_with_len}
use Rattle.mrp_master_data.specs.Table.{Table, IsPair}
use Rattle.mrp_net.specs.Lanes.{lanes, lane_at}
use Rattle.mrp_net.specs.Sums.{pair_at}
use Rattle.mrp_net.specs.Texts.{longest_text}
use Rattle.mrp_loops.specs.Sized.{IsSized}
use Rattle.mrp_record.specs.declared.record.Record.{Record}
use Rattle.mrp_protocol.specs.declared.event.Event.{Event}
use Rattle.mrp_protocol.specs.declared.event.Event.TheVariants.{Plan, Receive, Send}
use Rattle.mrp_protocol.specs.State.{CanTake, CanPlan, opening_state, after_send, after_take, after_plan}
use Rattle.mrp_protocol.proofs.Keeping.{opening_is_reached}
use Rattle.mrp_protocol.proofs.Small.{beginnings_are_no_longer}
use Rattle.mrp_agent.specs.State.{AgentState}
use Rattle.mrp_agent.proofs.AgentStays.{agent_stays}
use Rattle.mrp_agent.specs.InNetwork.{ShowsAgent}
use Rattle.mrp_world.specs.Moments.{Moment, IsAt, IsNext}
use Rattle.mrp_agent.specs.OwnPart.{IsOut, IsIn, IsOwn}
use Rattle.mrp_world.specs.Mailbox.{Held}
use Rattle.mrp_world.specs.World.{nothing_held, box_at}
use Rattle.mrp_world.specs.Moves.{AreSomewhere, Lead}
use Rattle.mrp_world.proofs.Makes.{boxes_hold}
use Rattle.mrp_world.proofs.Steps as step
use Rattle.mrp_run_tests.specs.Hands.{AreAlone, AreInRun, IsHanded}

-- ---- before the first record

empty_box : Table → ℕ → Held
empty_box N l = record { records = []; room = min 1 (longest_text N (lane_at N l)) }

empty_boxes : Table → List Held
empty_boxes N = map (empty_box N) (range_with_len 0 (length (lanes N)))

box_is_empty : (N : Table) (l : ℕ) (d : Held) → l < length (lanes N) → get_or (empty_boxes N) l d ≡ empty_box N l
unfolding empty_boxes
box_is_empty N l d within = get_or-map-range_with_len (empty_box N) 0 (length (lanes N)) l l d within (omega arith)

boxes_count : (N : Table) → length (empty_boxes N) ≡ length (lanes N)
unfolding empty_boxes
boxes_count N = length-map-range_with_len (empty_box N) 0 (length (lanes N))

is_or_not : (k at : ℕ) → (k ≡ at) ⊎ (k ≡ at → ⊥)
is_or_not k at = elim (cases_Bool (k == at)) [
  | inl t ↦ inl (eqb-true k at t)
  | inr f ↦ inr (λ e. false≢true (sym f ∙ eq-eqb k at e))
]

or_less : (k n : ℕ) → (k < n) ⊎ (n ≤ k)
or_less k n = grind arith

records_are_none : (N : Table) (l : ℕ) → (box_at (empty_boxes N) l).records ≡ []
unfolding empty_box
records_are_none N l = elim (or_less l (length (lanes N))) [
  | inl less ↦ ap (λ (b : Held). b.records) (box_is_empty N l nothing_held less)
  | inr more ↦ ap (λ (b : Held). b.records) (get_or_past (empty_boxes N) l nothing_held (omega (arith, more, boxes_count N)))
]

pub opened : (N : Table) (agents : List AgentState) → IsSized N → length agents ≡ length N.plants
    → ((k : ℕ) (d : AgentState) → k < length agents → ShowsAgent N k opening_state (get_or agents k d)) → AreAlone N agents
unfolding empty_box
opened N agents sized all each = record {
  boxes = empty_boxes N;
  run = record {
    capacity = 1;
    holds = omega arith;
    state = opening_state;
    shown = record {
      sized = sized;
      reached = opening_is_reached N 1;
      shown = record { all = all; each = each };
      held = boxes_hold N 1 (empty_boxes N) (boxes_count N) (λ l d h. box_is_empty N l d (omega (arith, h, boxes_count N)));
    };
  };
  empty = records_are_none N;
}

-- ---- where they are

pub somewhere : {N : Table} {agents : List AgentState} {boxes : List Held} → AreInRun N agents boxes → AreSomewhere ShowsAgent N agents boxes
somewhere run = (run.capacity, run.state, run.shown)

-- an event leads on
led : {N : Table} {agents new_agents : List AgentState} {boxes new_boxes : List Held} (event : Event) → AreInRun N agents boxes
    → Lead ShowsAgent N agents boxes event new_agents new_boxes
    → AreInRun N new_agents new_boxes
led event run leads = let after = leads run.capacity run.state run.shown
    in record { capacity = run.capacity; holds = run.holds; state = after.0; shown = after.2 }

-- ---- sending

-- there is room for a record that is next
has_room : (N : Table) (agents : List AgentState) (alone : AreAlone N agents) (l : ℕ) (r : Record) → l < length (lanes N)
    → IsNext (step.moment N alone.run.capacity alone.run.state) l r
    → length (box_at alone.boxes l).records < (box_at alone.boxes l).room
has_room N agents alone l r within next =
    omega (
      arith,
      ap length (alone.empty l),
      alone.run.holds,
      alone.run.shown.held.room l within,
      length-append (alone.run.state.sent l) (r ∷ []),
      beginnings_are_no_longer N (lane_at N l) (alone.run.state.sent l ++ r ∷ []) next.legal,
    )

pub sent : (N : Table) (agents : List AgentState) (l p : ℕ) (d new : AgentState) (r : Record) → l < length (lanes N) → p < length N.plants
    → (lane_at N l).sender.0 ≡ p
    → AreAlone N agents → step.SendsNext ShowsAgent (get_or agents p d) l r
    → ((m : Moment) (q : ℕ) → IsAt ShowsAgent m q (get_or agents p d) → IsOut m.network q l → ShowsAgent m.network q (after_send m.state l r) new)
    → IsHanded N (set agents p new) l r
sent N agents l p d new r within known e alone next goes_on =
    let old : Held = box_at alone.boxes l in
    let box : Held = record { records = old.records ++ r ∷ []; room = old.room } in
    let here = step.plant_is_at ShowsAgent N alone.run.capacity agents alone.boxes alone.run.state alone.run.shown p d known in
    let room = has_room N agents alone l r within (next (step.moment N alone.run.capacity alone.run.state) p here (record { lane = within; plant = e })) in
    record {
      boxes = set alone.boxes l box;
      run = led (Send (record { 0 = l })) alone.run (step.send_leads ShowsAgent agent_stays N agents alone.boxes l p d new old box r within known e refl room
          refl next goes_on);
      here = ap (λ (b : Held). b.records) (get_or-set_same alone.boxes l box nothing_held (omega (arith, within, alone.run.shown.held.all)))
          ∙ ap (λ (rs : List Record). rs ++ r ∷ []) (alone.empty l);
      elsewhere = λ k other. ap (λ (b : Held). b.records) (get_or-set_other alone.boxes l k box nothing_held other) ∙ alone.empty k;
    }

-- ---- booking

pub booked : (N : Table) (agents : List AgentState) (l p : ℕ) (d new : AgentState) (r : Record) → l < length (lanes N) → p < length N.plants
    → (lane_at N l).receiver.0 ≡ p
    → IsHanded N agents l r
    → ((m : Moment) (q : ℕ) → IsAt ShowsAgent m q (get_or agents p d) → IsIn m.network q l → ShowsAgent m.network q (after_take m.state l r) new)
    → AreAlone N (set agents p new)
booked N agents l p d new r within known e handed goes_on =
    let old : Held = box_at handed.boxes l in
    let box : Held = record { records = drop 1 old.records; room = old.room } in
    let first = ap (λ (rs : List Record). slice_get rs 0) handed.here in
    record {
      boxes = set handed.boxes l box;
      run = led (Receive (record { 0 = l })) handed.run (step.receive_leads ShowsAgent agent_stays N agents handed.boxes l p d new old box r within known e refl
          first refl goes_on);
      empty = λ k. elim (is_or_not k l) [
        | inl same ↦ subst (λ (z : ℕ). (box_at (set handed.boxes l box) z).records ≡ []) (sym same)
            (ap (λ (b : Held). b.records) (get_or-set_same handed.boxes l box nothing_held (omega (arith, within, handed.run.shown.held.all)))
            ∙ ap (λ (rs : List Record). drop 1 rs) handed.here)
        | inr other ↦ ap (λ (b : Held). b.records) (get_or-set_other handed.boxes l k box nothing_held other) ∙ handed.elsewhere k other
      ];
    }

-- what is under way isn't refused
pub not_refused : (N : Table) (agents : List AgentState) (l p : ℕ) (d : AgentState) (r : Record) → l < length (lanes N) → p < length N.plants
    → (lane_at N l).receiver.0 ≡ p
    → IsHanded N agents l r
    → ((m : Moment) (q : ℕ) → IsAt ShowsAgent m q (get_or agents p d) → IsIn m.network q l → ¬ CanTake m.network m.state l r) → ⊥
not_refused N agents l p d r within known e handed refused =
    refused (step.moment N handed.run.capacity handed.run.state) p
    (step.plant_is_at ShowsAgent N handed.run.capacity agents handed.boxes handed.run.state handed.run.shown p d known)
    (record { lane = within; plant = e }) (step.first_can N handed.run.capacity handed.boxes handed.run.state l r [] handed.run.shown.held within handed.here)

-- ---- planning

pub planned : (N : Table) (agents : List AgentState) (x p : ℕ) (d new : AgentState) → IsPair N x → p < length N.plants → (pair_at N x).plant.0 ≡ p
    → AreAlone N agents
    → ((m : Moment) (q : ℕ) → IsAt ShowsAgent m q (get_or agents p d) → IsOwn m.network q x → CanPlan m.network m.state x)
    → ((m : Moment) (q : ℕ) → IsAt ShowsAgent m q (get_or agents p d) → IsOwn m.network q x → ShowsAgent m.network q (after_plan m.state x) new)
    → AreAlone N (set agents p new)
planned N agents x p d new pair known e alone can goes_on =
    record {
      boxes = alone.boxes;
      run = led (Plan (record { 0 = x })) alone.run (step.plan_leads ShowsAgent agent_stays N agents alone.boxes x p d new pair known e can goes_on);
      empty = alone.empty;
    }

pub planned_or_not : (N : Table) (agents : List AgentState) (x p : ℕ) (d new : AgentState) (result : Bool) → IsPair N x → p < length N.plants
    → (pair_at N x).plant.0 ≡ p → AreAlone N agents
    → (result ≡ true → (m : Moment) (q : ℕ) → IsAt ShowsAgent m q (get_or agents p d) → IsOwn m.network q x → CanPlan m.network m.state x)
    → (result ≡ true → (m : Moment) (q : ℕ) → IsAt ShowsAgent m q (get_or agents p d) → IsOwn m.network q x → ShowsAgent m.network q (after_plan m.state x) new)
    → (result ≡ false → new ≡ get_or agents p d) → AreAlone N (set agents p new)
planned_or_not N agents x p d new result pair known e alone can goes_on same = elim (cases_Bool result) [
  | inl t ↦ planned N agents x p d new pair known e alone (can t) (goes_on t)
  | inr f ↦ subst (λ (xs : List AgentState). AreAlone N xs) (sym (ap (set agents p) (same f) ∙ set-get_or agents p d)) alone
]
