-- The protocol: events plan pairs until all of a set are. As long as some of them are to
-- be planned, one of these can be.
use Rattle.std.proofs.Common.{◌≡◌, ℕ, zero, suc, ◌+◌, ◌<◌, ◌≤◌, ◌&&◌, not, Bool, true, false, List, inl, inr, ◌⊎◌, length, refl, sym, ap, subst, ◌∙◌}
use Rattle.std.proofs.Common.{arith}
use Rattle.std.proofs.lemmas.Bool.{and_parts, cases_Bool, cases_eq, not-true}
use Rattle.mrp_master_data.specs.Table.{Table, IsTable, IsPair}
use Rattle.mrp_net.specs.Sums.{pair_at}
use Rattle.mrp_loops.specs.Loop.{HasEdge, IsLoopFree}
use Rattle.mrp_loops.proofs.Upstream.{sets_have_a_first}
use Rattle.mrp_record.specs.declared.record.Record.{Record}
use Rattle.mrp_protocol.specs.declared.event.Event.TheVariants.{Plan}
use Rattle.mrp_protocol.specs.Progress.{steps_left}
use Rattle.mrp_protocol.specs.State.{State, IsReady, CanPlan, HasBrought, IsReached, after_plan}
use Rattle.mrp_protocol.proofs.Counting.{events_are_steps}
use Rattle.mrp_protocol.proofs.Keeping.{reached_goes_on}
use Rattle.mrp_protocol.proofs.Moving.{changed_other}

none_or_one : (test : ℕ → Bool) (n : ℕ) → ((x : ℕ) → x < n → test x ≡ false) ⊎ ((x : ℕ) × (x < n) × (test x ≡ true))
none_or_one test zero = inl (λ x h. absurd (omega arith))
none_or_one test (suc n) = elim (none_or_one test n) [
  | inr one ↦ inr (one.0, (omega (arith, one.1)), one.2)
  | inl before ↦ elim (cases_Bool (test n)) [
    | inl here ↦ inr (n, (omega arith), here)
    | inr none ↦ inl (λ x h. elim (up_to x n h) [ inl e ↦ ap test e ∙ none | inr less ↦ before x less ])
  ]
]
  where
    up_to : (x n : ℕ) → x < suc n → (x ≡ n) ⊎ (x < n)
    up_to x n h = grind arith

planned_already : (wanted planned : Bool) → wanted ≡ true → (wanted && not planned) ≡ false → planned ≡ true
planned_already true true w h = refl
planned_already true false w h = absurd (cc)
planned_already false planned w h = absurd (cc)

same_tests : (wanted planned : Bool) → (planned ≡ true → wanted ≡ true) → (wanted && not planned) ≡ false → planned ≡ wanted
same_tests true true w h = refl
same_tests true false w h = absurd (cc)
same_tests false true w h = sym (w refl)
same_tests false false w h = refl

module _ (N : Table) (table : IsTable N) (free : IsLoopFree N) (capacity : ℕ) (sent taken : ℕ → List Record) (wanted : ℕ → Bool)
    (ready : (x : ℕ) → IsPair N x → wanted x ≡ true → IsReady N wanted taken x) where
  -- events lead to the state, with these lists, where of the pairs no other than those of the set are planned
  pub record IsBefore (s : State) : Type 0 where
    pub reached : IsReached N capacity s
    pub sent_is : s.sent ≡ sent
    pub taken_is : s.taken ≡ taken
    pub planned : (x : ℕ) → IsPair N x → s.planned x ≡ true → wanted x ≡ true

  -- and where all of them are
  pub record IsThrough (s : State) : Type 0 where
    pub reached : IsReached N capacity s
    pub sent_is : s.sent ≡ sent
    pub taken_is : s.taken ≡ taken
    pub planned : (x : ℕ) → IsPair N x → s.planned x ≡ wanted x

  abbrev to_plan : State → ℕ → Bool
  to_plan s x = wanted x && not (s.planned x)

  -- a pair that is to be planned can be where none of its demanders is
  first_can : (s : State) → IsBefore s → (x : ℕ) → IsPair N x → to_plan s x ≡ true → ((y : ℕ) → HasEdge N y x → to_plan s y ≡ false) → CanPlan N s x
  first_can s before x pair here above =
      let parts = and_parts (wanted x) (not (s.planned x)) here in
      let at = ready x pair parts.0 in
      record {
        pair = pair;
        unplanned = not-true (s.planned x) parts.1;
        ready = record {
          demanders = λ y edge local. planned_already (wanted y) (s.planned y) (at.demanders y edge local) (above y edge);
          brought = λ l within.
              subst (λ (z : ℕ → List Record). HasBrought N z (pair_at N x).plant.0 (pair_at N x).item l) (sym before.taken_is)
              (at.brought l within);
        };
      }

  one_planned : (s : State) → IsBefore s → (x : ℕ) → wanted x ≡ true → CanPlan N s x → IsBefore (after_plan s x)
  one_planned s before x wants can = record {
    reached = reached_goes_on N capacity s (after_plan s x) (Plan (record { 0 = x })) before.reached (inl (can, refl));
    sent_is = before.sent_is;
    taken_is = before.taken_is;
    planned = λ y pair done. elim (cases_eq y x) [
      | inl same ↦ ap wanted same ∙ wants
      | inr other ↦ before.planned y pair (sym (changed_other s.planned x true y other) ∙ done)
    ];
  }

  -- all of them are planned, or one more can be
  abbrev GoesOn : State → Type 0
  GoesOn s = (t : State) × IsBefore t × (steps_left N t + 1 ≡ steps_left N s)

  through_or_on : (s : State) → IsBefore s → IsThrough s ⊎ GoesOn s
  through_or_on s before = elim (none_or_one (to_plan s) (length N.pairs)) [
    | inl none ↦
        inl (record {
          reached = before.reached;
          sent_is = before.sent_is;
          taken_is = before.taken_is;
          planned = λ x pair. same_tests (wanted x) (s.planned x) (before.planned x pair) (none x pair);
        })
    | inr one ↦
        let first = sets_have_a_first N table free (to_plan s) one.0 one.1 one.2 in
        let can = first_can s before first.0 first.1 first.2 first.3 in
        let wants = (and_parts (wanted first.0) (not (s.planned first.0)) first.2).0 in
        let fewer = events_are_steps N capacity s (after_plan s first.0) (Plan (record { 0 = first.0 })) before.reached (can, refl) in
        inr (after_plan s first.0, one_planned s before first.0 wants can, fewer)
  ]

  plan_from : (fuel : ℕ) (s : State) → IsBefore s → steps_left N s ≤ fuel → (t : State) × IsThrough t
  plan_from zero s before few = elim (through_or_on s before) [
    | inl done ↦ (s, done)
    | inr next ↦ absurd (omega (arith, next.2))
  ]
  plan_from (suc fuel) s before few = elim (through_or_on s before) [
    | inl done ↦ (s, done)
    | inr next ↦ plan_from fuel next.0 next.1 (omega (arith, next.2))
  ]

  pub plan_all : (s : State) → IsBefore s → (t : State) × IsThrough t
  plan_all s before = plan_from (steps_left N s) s before (omega arith)
