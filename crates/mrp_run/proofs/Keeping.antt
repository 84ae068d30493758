-- The run by threads: what a plant's work in its thread keeps. Nothing done keeps it, one step after another
-- keeps it, and so does planning.
use Rattle.std.proofs.Common.{◌≡◌, ℕ, Bool, true, List, [], ◌∷◌, refl, ◌∙◌}
use Rattle.mrp_master_data.specs.declared.numbers.PairNo.{PairNo}
use Rattle.mrp_protocol.specs.State.{State, changed}
use Rattle.mrp_protocol.proofs.Keeping.{changed_by}
use Rattle.mrp_history.proofs.Passing.{planned_is_explained}
use Rattle.mrp_lane.specs.Ends.{End}
use Rattle.mrp_agent.specs.InNetwork.{WorksIn}
use Rattle.mrp_agent.specs.State.{AgentState}
use Rattle.mrp_crew.specs.Planning.{IsPlannable, PlansAll, after_planning, all_planned}
use Rattle.mrp_crew.proofs.PlanningLaws.{planning_keeps_at_work}
use Rattle.mrp_run.specs.declared.moving.Lanes.{Lanes}
use Rattle.mrp_run.specs.declared.moving.Lanes.TheVariants.{Incoming, Outgoing}
use Rattle.mrp_run.specs.declared.plant.Plant.{Plant}
use Rattle.mrp_run.specs.Plant.{IsAtWork, Kept, passages}
use Rattle.mrp_run.specs.Steps.{KeepsPlant, lane_count}
use Rattle.mrp_run.specs.Steps as steps
use Rattle.mrp_run.proofs.Given.{planned_is_ready}
use Rattle.mrp_run.proofs.Held.{same_length}

pub nothing_done : (A : AgentState) (s t : List End) → Kept A s t A s t
nothing_done A s t = record { view = refl; sends = refl; takes = refl; works = λ N p work. work }

pub one_after_another : (A : AgentState) (s t : List End) (B : AgentState) (s2 t2 : List End) (C : AgentState) (s3 t3 : List End)
    → Kept A s t B s2 t2 → Kept B s2 t2 C s3 t3 → Kept A s t C s3 t3
one_after_another A s t B s2 t2 C s3 t3 first second = record {
  view = second.view ∙ first.view;
  sends = second.sends ∙ first.sends;
  takes = second.takes ∙ first.takes;
  works = λ N p work. second.works N p (first.works N p work);
}

-- the plant is still at work after it
pub still_works : (A : AgentState) (s t : List End) (B : AgentState) (s2 t2 : List End) → Kept A s t B s2 t2 → IsAtWork A s t → IsAtWork B s2 t2
still_works A s t B s2 t2 kept (N, p, work) = (N, p, kept.works N p work)

-- the same in the words of a plant of the code
pub keeps_on : (P Q R : Plant) → KeepsPlant P Q → KeepsPlant Q R → KeepsPlant P R
keeps_on P Q R = one_after_another P.agent P.sends.items P.takes.items Q.agent Q.sends.items Q.takes.items R.agent R.sends.items R.takes.items

pub works_on : (P Q : Plant) → KeepsPlant P Q → steps.PlantIsAtWork P → steps.PlantIsAtWork Q
works_on P Q = still_works P.agent P.sends.items P.takes.items Q.agent Q.sends.items Q.takes.items

-- with as many lanes
pub same_lanes : (lanes : Lanes) (P Q : Plant) → KeepsPlant P Q → lane_count lanes Q ≡ lane_count lanes P
same_lanes Incoming P Q kept = same_length Q.takes.items P.takes.items kept.takes
same_lanes Outgoing P Q kept = same_length Q.sends.items P.sends.items kept.sends

-- ---- planning

pub can_plan : (A : AgentState) (s t : List End) → IsAtWork A s t → IsPlannable A
can_plan A s t (N, p, w) = record {
  network = N;
  sized = w.sized;
  plant = p;
  state = w.state;
  works = w.works;
}

-- a pair that is planned stays so
stays_planned : (planned : ℕ → Bool) (xs : List PairNo) (y : ℕ) → planned y ≡ true → all_planned planned xs y ≡ true
stays_planned planned [] y done = done
stays_planned planned (x ∷ xs) y done =
    stays_planned (changed planned x.0 true) xs y (changed_by (λ (b : Bool). b ≡ true) planned x.0 true y (λ _. refl) done)

pub planned_kept : (A : AgentState) (sends takes : List End) (B : AgentState) (xs : List PairNo) → PlansAll A B xs → Kept A sends takes B sends takes
planned_kept A sends takes B xs plans = record {
  view = plans.view;
  sends = refl;
  takes = refl;
  works = λ N p w.
      let t : State = after_planning w.state xs in
      let now : WorksIn N p t B = planning_keeps_at_work N p w.state A B xs w.works plans in
      record {
        sized = w.sized;
        state = t;
        works = now;
        sends_are = w.sends_are;
        takes_are = w.takes_are;
        explained = planned_is_explained N p w.state (passages sends) (passages takes) t.planned w.explained
            (λ x pair own done. stays_planned w.state.planned xs x done)
            (planned_is_ready N w.sized p t B now);
      };
}
