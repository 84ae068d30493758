-- The protocol: what every event keeps. Lanes are in order, and on schedule lanes records are of planned pairs.
use Rattle.std.proofs.Common.{◌≡◌, ℕ, ◌≤◌, ◌==◌, Bool, true, false, List, [], ◌∷◌, ◌++◌, inl, inr, length, refl, sym, ap, subst, ◌∙◌, arith, append_assoc}
use Rattle.std.proofs.Common.{length-append, All}
use Rattle.std.proofs.lemmas.Bool.{cond_both, eqb-true}
use Rattle.std.proofs.lemmas.List.Elements.{All-nil, All-push, All-weaker}
use Rattle.mrp_master_data.specs.Table.{Table}
use Rattle.mrp_net.specs.declared.lane.Lane.{Lane}
use Rattle.mrp_net.specs.Lanes.{lane_at, pair_on}
use Rattle.mrp_record.specs.declared.record.Record.{Record}
use Rattle.mrp_record.specs.Entries.{Entry, content}
use Rattle.mrp_record.specs.Text.{IsBeginning}
use Rattle.mrp_record.proofs.Beginnings.{empty_is_a_beginning}
use Rattle.mrp_protocol.specs.declared.event.Event.{Event}
use Rattle.mrp_protocol.specs.declared.event.Event.TheVariants.{Send, Receive, Plan}
use Rattle.mrp_protocol.specs.Deciding.{RunsGoOn, OpeningIsReached, ReachedGoesOn}
use Rattle.mrp_protocol.specs.Loads.{loads}
use Rattle.mrp_protocol.specs.State.{State, opening_state, IsDecided, CanSend, CanTake, changed, after_send, after_take, Step, Happens, Run, IsReached}

pub record LaneKeeps (N : Table) (capacity l : ℕ) (sent taken : List Record) (planned : ℕ → Bool) : Type 0 where
  pub mailbox : List Record
  pub parts : sent ≡ taken ++ mailbox
  pub room : length mailbox ≤ capacity
  pub legal : IsBeginning (loads N (lane_at N l)) sent
  pub decided : All (λ r. IsDecided N planned (lane_at N l) (content r)) sent

abbrev pub Keeps : Table → ℕ → State → Type 0
Keeps N capacity s = (l : ℕ) → LaneKeeps N capacity l (s.sent l) (s.taken l) s.planned

-- ---- one value changed

pub changed_by : {X : Type 0} (P : X → Type 0) (values : ℕ → X) (at : ℕ) (value : X) (k : ℕ) → (k ≡ at → P value) → P (values k) → P (changed values at value k)
changed_by P values at value k here there = cond_both (k == at) value (values k) P (λ t. here (eqb-true k at t)) (λ _. there)

-- ---- the three kinds of events

sent_more : (N : Table) (capacity l : ℕ) (s : State) (r : Record) → CanSend N capacity s l r → LaneKeeps N capacity l (s.sent l) (s.taken l) s.planned
    → LaneKeeps N capacity l (s.sent l ++ r ∷ []) (s.taken l) s.planned
sent_more N capacity l s r can keeps = record {
  mailbox = keeps.mailbox ++ r ∷ [];
  parts = ap (λ (z : List Record). z ++ r ∷ []) keeps.parts ∙ append_assoc (s.taken l) keeps.mailbox (r ∷ []);
  room = omega (arith, can.room, ap length keeps.parts, length-append (s.taken l) keeps.mailbox, length-append keeps.mailbox (r ∷ []));
  legal = can.legal;
  decided = All-push (λ (e : Record). IsDecided N s.planned (lane_at N l) (content e)) (s.sent l) r keeps.decided can.decided;
}

taken_more : (N : Table) (capacity l : ℕ) (s : State) (r : Record) → CanTake N s l r → LaneKeeps N capacity l (s.sent l) (s.taken l) s.planned
    → LaneKeeps N capacity l (s.sent l) (s.taken l ++ r ∷ []) s.planned
taken_more N capacity l s r can keeps = record {
  mailbox = can.rest;
  parts = can.next ∙ sym (append_assoc (s.taken l) (r ∷ []) can.rest);
  room = omega (
    arith,
    keeps.room,
    ap length keeps.parts,
    ap length can.next,
    length-append (s.taken l) keeps.mailbox,
    length-append (s.taken l)
        (r ∷ can.rest),
  );
  legal = keeps.legal;
  decided = keeps.decided;
}

still_decided : (N : Table) (planned : ℕ → Bool) (x : ℕ) (lane : Lane) (entry : Entry) → IsDecided N planned lane entry
    → IsDecided N (changed planned x true) lane entry
still_decided N planned x lane entry h item of kind =
    changed_by (λ (b : Bool). b ≡ true) planned x true (pair_on N lane item) (λ _. refl) (h item of kind)

planned_more : (N : Table) (capacity l x : ℕ) (sent taken : List Record) (planned : ℕ → Bool) → LaneKeeps N capacity l sent taken planned
    → LaneKeeps N capacity l sent taken (changed planned x true)
planned_more N capacity l x sent taken planned keeps = record {
  mailbox = keeps.mailbox;
  parts = keeps.parts;
  room = keeps.room;
  legal = keeps.legal;
  decided = All-weaker (λ (r : Record). IsDecided N planned (lane_at N l) (content r)) (λ r. IsDecided N (changed planned x true) (lane_at N l) (content r))
      (λ r. still_decided N planned x (lane_at N l) (content r)) sent keeps.decided;
}

-- ---- steps and runs

pub sends : (N : Table) (capacity : ℕ) (s : State) (l : ℕ) (r : Record) → Keeps N capacity s → CanSend N capacity s l r → Keeps N capacity (after_send s l r)
sends N capacity s l r keeps can k =
    changed_by (λ (sent : List Record). LaneKeeps N capacity k sent (s.taken k) s.planned) s.sent l (s.sent l ++ r ∷ []) k
    (λ e. subst (λ (z : ℕ). LaneKeeps N capacity z (s.sent l ++ r ∷ []) (s.taken z) s.planned) (sym e) (sent_more N capacity l s r can (keeps l)))
    (keeps k)

pub takes : (N : Table) (capacity : ℕ) (s : State) (l : ℕ) (r : Record) → Keeps N capacity s → CanTake N s l r → Keeps N capacity (after_take s l r)
takes N capacity s l r keeps can k =
    changed_by (λ (taken : List Record). LaneKeeps N capacity k (s.sent k) taken s.planned) s.taken l (s.taken l ++ r ∷ []) k
    (λ e. subst (λ (z : ℕ). LaneKeeps N capacity z (s.sent z) (s.taken l ++ r ∷ []) s.planned) (sym e) (taken_more N capacity l s r can (keeps l)))
    (keeps k)

pub keeps_step : (N : Table) (capacity : ℕ) (s t : State) (event : Event) → Keeps N capacity s → Step N capacity s event t → Keeps N capacity t
keeps_step N capacity s t (Send l) keeps step = subst (Keeps N capacity) (sym step.2) (sends N capacity s l.0 step.0 keeps step.1)
keeps_step N capacity s t (Receive l) keeps step = subst (Keeps N capacity) (sym step.2) (takes N capacity s l.0 step.0 keeps step.1)
keeps_step N capacity s t (Plan x) keeps step =
    subst (Keeps N capacity) (sym step.1) (λ k. planned_more N capacity k x.0 (s.sent k) (s.taken k) s.planned (keeps k))

pub keeps_event : (N : Table) (capacity : ℕ) (s t : State) (event : Event) → Keeps N capacity s → Happens N capacity s event t → Keeps N capacity t
keeps_event N capacity s t event keeps h = elim h [
  | inl step ↦ keeps_step N capacity s t event keeps step
  | inr none ↦ subst (Keeps N capacity) (sym none.1) keeps
]

keeps_run : (N : Table) (capacity : ℕ) (s t : State) (events : List Event) → Keeps N capacity s → Run N capacity s events t → Keeps N capacity t
keeps_run N capacity s t [] keeps run = subst (Keeps N capacity) (sym run) keeps
keeps_run N capacity s t (event ∷ events) keeps run =
    keeps_run N capacity run.0 t events (keeps_event N capacity s run.0 event keeps run.1) run.2

pub runs_go_on : RunsGoOn
runs_go_on N capacity s t next [] event run h = (next, (subst (λ (z : State). Happens N capacity z event next) run h), refl)
runs_go_on N capacity s t next (first ∷ events) event run h = (run.0, run.1, runs_go_on N capacity run.0 t next events event run.2 h)

pub opening_is_reached : OpeningIsReached
opening_is_reached N capacity = ([], refl)

pub reached_goes_on : ReachedGoesOn
reached_goes_on N capacity s t event reached h =
    (reached.0 ++ event ∷ [], runs_go_on N capacity opening_state s t reached.0 event reached.1 h)

pub opening_keeps : (N : Table) (capacity : ℕ) → Keeps N capacity opening_state
opening_keeps N capacity l = record {
  mailbox = [];
  parts = refl;
  room = omega arith;
  legal = empty_is_a_beginning (loads N (lane_at N l));
  decided = All-nil (λ (r : Record). IsDecided N (λ _. false) (lane_at N l) (content r));
}

pub keeps : (N : Table) (capacity : ℕ) (s : State) → IsReached N capacity s → Keeps N capacity s
keeps N capacity s reached = keeps_run N capacity opening_state s reached.0 (opening_keeps N capacity) reached.1
