-- The protocol has no deadlock: a run that isn't finished can go on, and a longest run takes all steps.
use Rattle.std.proofs.Common.{◌≡◌, ℕ, zero, suc, ◌+◌, ◌<◌, ◌≤◌, not, Bool, true, false, List, [], ◌∷◌, ◌⊎◌, inl, inr, length, refl, sym, ap, subst, ◌∙◌, arith}
use Rattle.std.proofs.lemmas.Bool.{cases_Bool}
use Rattle.mrp_master_data.specs.Table.{Table, IsTable, IsPair}
use Rattle.mrp_net.specs.Lanes.{lanes, lane_at, pair_on}
use Rattle.mrp_net.specs.Sums.{pair_at}
use Rattle.mrp_net.proofs.Behind.{items_have_sources}
use Rattle.mrp_loops.specs.Loop.{HasEdge, IsLoopFree}
use Rattle.mrp_loops.proofs.Upstream.{sets_have_a_first}
use Rattle.mrp_record.specs.Entries.{contents, is_closed, is_ended}
use Rattle.mrp_record.specs.declared.record.Record.{Record}
use Rattle.mrp_protocol.specs.declared.event.Event.{Event}
use Rattle.mrp_protocol.specs.declared.event.Event.TheVariants.{Plan}
use Rattle.mrp_protocol.specs.Progress.{steps_left, GoesBy, NoScheduleSticks, EventsAndStepsLeft, LongestRunsFinish}
use Rattle.mrp_protocol.specs.State.{State, opening_state, CanPlan, Run, IsReached, IsFinished, after_plan}
use Rattle.mrp_protocol.proofs.Calling.{calls_pair}
use Rattle.mrp_protocol.proofs.Counting.{runs_begin_with_steps, events_are_steps, none_is_left_at_the_end}
use Rattle.mrp_protocol.proofs.Going.{GoesOn, Rests, MayTell, goes_or_rests}
use Rattle.mrp_protocol.proofs.Keeping.{Keeps, keeps, opening_is_reached, reached_goes_on}

up_to : (l n : ℕ) → l < suc n → (l ≡ n) ⊎ (l < n)
up_to l n h = grind arith

-- ---- all lanes rest, or one goes on

lanes_rest : (N : Table) (capacity : ℕ) (s : State) → Keeps N capacity s → 1 ≤ capacity → (n : ℕ) → n ≤ length (lanes N)
    → GoesOn N capacity s ⊎ ((l : ℕ) → l < n → Rests N s l)
lanes_rest N capacity s kept holds zero few = inr (λ l h. absurd (omega arith))
lanes_rest N capacity s kept holds (suc n) few = elim (lanes_rest N capacity s kept holds n (omega arith)) [
  | inl goes ↦ inl goes
  | inr before ↦ elim (goes_or_rests N capacity n s (kept n) (omega arith) holds) [
    | inl goes ↦ inl goes
    | inr here ↦ inr (λ l h. elim (up_to l n h) [ inl e ↦ subst (Rests N s) (sym e) here | inr less ↦ before l less ])
  ]
]

-- ---- all pairs are planned, or one isn't

all_or_one : (planned : ℕ → Bool) (n : ℕ) → ((x : ℕ) → x < n → planned x ≡ true) ⊎ ((x : ℕ) × (x < n) × (planned x ≡ false))
all_or_one planned zero = inl (λ x h. absurd (omega arith))
all_or_one planned (suc n) = elim (all_or_one planned n) [
  | inr one ↦ inr (one.0, (omega (arith, one.1)), one.2)
  | inl before ↦ elim (cases_Bool (planned n)) [
    | inl here ↦ inl (λ x h. elim (up_to x n h) [ inl e ↦ ap planned e ∙ here | inr less ↦ before x less ])
    | inr not_here ↦ inr (n, (omega arith), not_here)
  ]
]

not_false : (b : Bool) → not b ≡ false → b ≡ true
not_false true e = refl
not_false false e = absurd (cc)

-- ---- lanes that rest and all pairs planned: finished

finished_at_rest : (N : Table) → IsTable N → (s : State) → ((l : ℕ) → l < length (lanes N) → Rests N s l) → ((x : ℕ) → IsPair N x → s.planned x ≡ true)
    → IsFinished N s
finished_at_rest N table s rest all = record {
  closed = λ l within.
      let r = rest l within in
      subst (λ (z : List Record). is_closed (contents z) ≡ true) r.same
      (r.told.closed (λ item there kind. all (pair_on N (lane_at N l) item) (items_have_sources N table (lane_at N l) item there).customer.pair));
  planned = all;
}

-- ---- lanes that rest and a pair that isn't planned: a first one can be

plans_at_rest : (N : Table) → IsTable N → IsLoopFree N → (capacity : ℕ) (s : State) → ((l : ℕ) → l < length (lanes N) → Rests N s l) → (x : ℕ) → IsPair N x
    → s.planned x ≡ false → GoesOn N capacity s
plans_at_rest N table free capacity s rest x pair open_pair =
    let first = sets_have_a_first N table free (λ y. not (s.planned y)) x pair (ap not open_pair) in
    let y : ℕ = first.0 in
    let decided : (z : ℕ) → HasEdge N z y → s.planned z ≡ true = λ z edge. not_false (s.planned z) (first.3 z edge) in
    let can : CanPlan N s y = record {
      pair = first.1;
      unplanned = not_true (s.planned y) first.2;
      ready = record {
        demanders = λ z edge local. decided z edge;
        brought = λ l within here there.
            let r = rest l within in
            let told : MayTell N s.planned (lane_at N l) (pair_at N y).item =
            λ kind. decided (pair_on N (lane_at N l) (pair_at N y).item) (calls_pair N table (lane_at N l) y first.1 kind here there) in
            subst (λ (z : List Record). is_ended (pair_at N y).item.0 (contents z) ≡ true) r.same (r.told.ended (pair_at N y).item there told);
      };
    } in
    (Plan (record { 0 = y }), (after_plan s y, (can, refl)))
  where
    not_true : (b : Bool) → not b ≡ true → b ≡ false
    not_true true e = absurd (cc)
    not_true false e = refl

pub no_schedule_sticks : NoScheduleSticks
no_schedule_sticks N table free capacity holds s reached =
    elim (lanes_rest N capacity s (keeps N capacity s reached) holds (length (lanes N)) (omega arith)) [
      | inl goes ↦ inr goes
      | inr rest ↦ elim (all_or_one s.planned (length N.pairs)) [
        | inl all ↦ inl (finished_at_rest N table s rest all)
        | inr one ↦ inr (plans_at_rest N table free capacity s rest one.0 one.1 one.2)
      ]
    ]

-- ---- longest runs

-- a list of events that are each enabled in their turn is a run
runs : (N : Table) (capacity : ℕ) (s t : State) (events : List Event) → GoesBy N capacity s events t → Run N capacity s events t
runs N capacity s t [] goes = goes
runs N capacity s t (event ∷ events) goes = (goes.0, (inl goes.1), runs N capacity goes.0 t events goes.2)

steps_taken : (N : Table) (capacity : ℕ) (s t : State) (events : List Event) → IsReached N capacity s → GoesBy N capacity s events t
    → length events + steps_left N t ≡ steps_left N s
steps_taken N capacity s t [] reached goes = omega (arith, ap (steps_left N) goes)
steps_taken N capacity s t (event ∷ events) reached goes =
    let next = reached_goes_on N capacity s goes.0 event reached (inl goes.1) in
    omega (arith, events_are_steps N capacity s goes.0 event reached goes.1, steps_taken N capacity goes.0 t events next goes.2)

pub events_and_steps_left : EventsAndStepsLeft
events_and_steps_left N capacity events s goes =
    steps_taken N capacity opening_state s events (opening_is_reached N capacity) goes ∙ runs_begin_with_steps N

pub longest_runs_finish : LongestRunsFinish
longest_runs_finish N table free capacity holds events s goes still =
    let reached : IsReached N capacity s = (events, runs N capacity opening_state s events goes) in
    elim (no_schedule_sticks N table free capacity holds s reached) [
      | inl finished ↦
          let none = (none_is_left_at_the_end N capacity s reached).1 finished in
          ((omega (arith, events_and_steps_left N capacity events s goes, none)), finished)
      | inr one ↦ absurd (still one.0 one.1)
    ]
