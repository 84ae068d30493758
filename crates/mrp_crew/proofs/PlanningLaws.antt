-- A crew of workers: what it does to its agent. It plans no pair, one pair, or some pairs and then others.
use Rattle.std.proofs.Common.{◌≡◌, ℕ, ◌+◌, ◌==◌, if◌then◌else◌, Bool, true, false, List, [], ◌∷◌, ◌++◌, refl, sym, ◌∙◌, subst, arith, length-append}
use Rattle.std.proofs.lemmas.Bool.{false≢true}
use Rattle.std.proofs.lemmas.List.Elements.{All-nil, All-cons, All-append, All-weaker}
use Rattle.mrp_master_data.specs.declared.numbers.PairNo.{PairNo}
use Rattle.mrp_plant_view.specs.Seen.{IsView}
use Rattle.mrp_record.specs.declared.record.Record.{Record}
use Rattle.mrp_protocol.specs.State.{changed}
use Rattle.mrp_readiness.specs.Progress.{left_of}
use Rattle.mrp_agent.specs.Shows.{ShowsHistory}
use Rattle.mrp_agent.specs.State.{AgentState}
use Rattle.mrp_crew.specs.Laws.{PlanningKeepsAtWork}
use Rattle.mrp_crew.specs.Planning.{IsPlannable, PlansAll, after_planning, all_planned}

pub planning_keeps_at_work : PlanningKeepsAtWork
planning_keeps_at_work N plant s A B xs at plans = record {
  shown = record {
    view = plans.view ∙ at.shown.view;
    enough = subst IsView (sym plans.view) at.shown.enough;
    history = plans.shows s.sent s.taken s.planned at.shown.history;
  };
  legal = at.legal;
}

pub plannable_after : (A B : AgentState) (xs : List PairNo) → IsPlannable A → PlansAll A B xs → IsPlannable B
plannable_after A B xs can plans = record {
  network = can.network;
  sized = can.sized;
  plant = can.plant;
  state = after_planning can.state xs;
  works = planning_keeps_at_work can.network can.plant can.state A B xs can.works plans;
}

-- ---- none

pub plans_none : (A : AgentState) → PlansAll A A []
plans_none A = record {
  view = refl;
  left = omega arith;
  unplanned = λ sent taken planned shown. All-nil (λ (x : PairNo). planned x.0 ≡ false);
  shows = λ sent taken planned shown. shown;
}

-- ---- one

pub plans_one : (A B : AgentState) (x : PairNo) → B.view ≡ A.view → left_of B.progress.planned + 1 ≡ left_of A.progress.planned
    → ((sent taken : ℕ → List Record) (planned : ℕ → Bool) → ShowsHistory A sent taken planned → planned x.0 ≡ false)
    → ((sent taken : ℕ → List Record) (planned : ℕ → Bool) → ShowsHistory A sent taken planned → ShowsHistory B sent taken (changed planned x.0 true))
    → PlansAll A B (x ∷ [])
plans_one A B x view left unplanned shows = record {
  view = view;
  left = omega (arith, left);
  unplanned = λ sent taken planned shown.
      All-cons (λ (y : PairNo). planned y.0 ≡ false) x [] (unplanned sent taken planned shown) (All-nil (λ (y : PairNo). planned y.0 ≡ false));
  shows = shows;
}

-- ---- some, and then others

changed_true : (planned : ℕ → Bool) (x y : ℕ) → changed planned x true y ≡ false → planned y ≡ false
changed_true planned x y is = by_case (y == x) is
  where
    by_case : (b : Bool) → (if b then true else planned y) ≡ false → planned y ≡ false
    by_case true is = absurd (false≢true (sym is))
    by_case false is = is

unplanned_before : (planned : ℕ → Bool) (xs : List PairNo) (y : ℕ) → all_planned planned xs y ≡ false → planned y ≡ false
unplanned_before planned [] y is = is
unplanned_before planned (x ∷ xs) y is = changed_true planned x.0 y (unplanned_before (changed planned x.0 true) xs y is)

all_planned-append : (planned : ℕ → Bool) (xs ys : List PairNo) → all_planned planned (xs ++ ys) ≡ all_planned (all_planned planned xs) ys
all_planned-append planned [] ys = refl
all_planned-append planned (x ∷ xs) ys = all_planned-append (changed planned x.0 true) xs ys

pub plans_append : (A B C : AgentState) (xs ys : List PairNo) → PlansAll A B xs → PlansAll B C ys → PlansAll A C (xs ++ ys)
plans_append A B C xs ys first then_ = record {
  view = then_.view ∙ first.view;
  left = omega (arith, length-append xs ys, first.left, then_.left);
  unplanned = λ sent taken planned shown.
      All-append (λ (y : PairNo). planned y.0 ≡ false) xs ys (first.unplanned sent taken planned shown)
      (All-weaker (λ (y : PairNo). all_planned planned xs y.0 ≡ false) (λ (y : PairNo). planned y.0 ≡ false) (λ y is. unplanned_before planned xs y.0 is) ys
      (then_.unplanned sent taken (all_planned planned xs) (first.shows sent taken planned shown)));
  shows = λ sent taken planned shown.
      subst (ShowsHistory C sent taken) (sym (all_planned-append planned xs ys))
      (then_.shows sent taken (all_planned planned xs) (first.shows sent taken planned shown));
}
