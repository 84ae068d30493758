-- The protocol's local plans are the plan of the network, and a plant sees which of its pairs can be planned.
use Rattle.std.proofs.Common.{◌≡◌, ℕ, suc, zero, ◌<◌, Bool, true, List, get_or, sym, ap, ◌∙◌, subst, arith, slice_index}
use Rattle.mrp_netting.specs.PlanRows.{PlanRows}
use Rattle.mrp_netting.specs.PlanningBound.{IsWithinData}
use Rattle.mrp_netting.specs.PlanningData.{PairTerms, planned as data_of_terms}
use Rattle.mrp_qty.proofs.RangeLaws.{map-range-same}
use Rattle.mrp_master_data.specs.Table.{Table, IsTable, horizon}
use Rattle.mrp_net.specs.Plan.{plan_of, gross}
use Rattle.mrp_net.specs.Sums.{pair_at, terms_at, row_of, incoming}
use Rattle.mrp_net.proofs.Members.{All-in}
use Rattle.mrp_plant_view.specs.declared.view.PlantEdge.{PlantEdge}
use Rattle.mrp_plant_view.specs.View.{plant_pair, plant_pairs, plant_edges, plant_rows}
use Rattle.mrp_loops.specs.Loop.{HasEdge, IsLoopFree}
use Rattle.mrp_loops.specs.Codes.{AreCodes}
use Rattle.mrp_loops.specs.Within.{plan_at}
use Rattle.mrp_loops.proofs.Codes.{edge_raises}
use Rattle.mrp_loops.proofs.Coded.{codes_exist}
use Rattle.mrp_loops.proofs.Edges.{HasEdge-pairs}
use Rattle.mrp_loops.proofs.Within.{plan_is_within}
use Rattle.mrp_record.specs.declared.record.Record.{Record}
use Rattle.mrp_protocol.specs.Local.{AreLegal}
use Rattle.mrp_protocol.specs.LocalPlans.{local_incoming, local_gross, AwaitsNothing, IsPlannedLocally, IsLocal}
use Rattle.mrp_protocol.specs.LocalLaws.{IsPairAt, GetsThePlan, PlantPlansAreThePlan, DraftsAreThePlan, DraftsAreWithin, PlannableIsLocal}
use Rattle.mrp_protocol.proofs.Drafting.{HasParents, draft_incoming, draft_gross, draft_plan}
use Rattle.mrp_protocol.proofs.Seeing.{sees_pair, seen_edges, ready_over_network, ready_on_view, terms_are}

-- ---- plans

module _ (N : Table) (is : IsTable N) (free : IsLoopFree N) (plant : ℕ) (taken : ℕ → List Record) (legal : AreLegal N plant taken)
    (planned : ℕ → Bool) (plans : ℕ → PlanRows) (local : IsLocal (plant_rows N plant) taken planned plans) where
  abbrev IsPlanned : ℕ → Type 0
  IsPlanned x = plans x ≡ plan_at N x

  -- where the parents that are planned have the network's plans, so has each pair that awaits nothing
  next : (x : ℕ) → IsPairAt N plant x → AwaitsNothing (plant_rows N plant) taken planned (plant_pair N x)
      → ((y : ℕ) → HasEdge N y x → IsPairAt N plant y → planned y ≡ true → IsPlanned y) → GetsThePlan N (plant_rows N plant) taken plans x
  next x at ready earlier =
      let parents : HasParents N plant plans (plan_of N) x = λ k d h mine.
      let e : PlantEdge = get_or (plant_edges N plant) k d in
      let seen = seen_edges N plant k d h in
      let edge = subst (λ (z : ℕ). HasEdge N e.parent.0 z) mine seen.0 in
      let here = seen.1 ∙ ap (λ (z : ℕ). (pair_at N z).plant.0) mine ∙ at.at_plant in
      earlier e.parent.0 edge (record { pair = (HasEdge-pairs N is e.parent.0 x edge).0; at_plant = here }) (ready.parents k d h mine) in
      let is_ready = ready_over_network N is plant planned taken x at ready in
      record {
        incoming = draft_incoming N is plant planned taken legal x at is_ready plans parents;
        gross = draft_gross N is plant planned taken legal x at is_ready plans parents;
        plan = draft_plan N is plant planned taken legal x at is_ready plans parents free;
      }

  pub own : (x : ℕ) → IsPairAt N plant x → planned x ≡ true → IsPlannedLocally (plant_rows N plant) taken planned plans (plant_pair N x)
  own x at done =
      All-in (λ p. planned p.number.0 ≡ true → IsPlannedLocally (plant_rows N plant) taken planned plans p) (plant_pairs N plant) (plant_pair N x) local
      (sees_pair N plant x at) done

  by_code : (codes : List ℕ) → AreCodes N codes → (n x : ℕ) → slice_index codes x < n → IsPairAt N plant x → planned x ≡ true → IsPlanned x
  by_code codes are zero x low at done = absurd (omega arith)
  by_code codes are (suc n) x low at done =
      let planned_so = own x at done in
      let plan = next x at planned_so.ready
      (λ y edge there before. by_code codes are n y (omega (arith, low, edge_raises N codes is are y x edge)) there before) in
      planned_so.plan ∙ plan.plan

  pub plans_are : (x : ℕ) → IsPairAt N plant x → planned x ≡ true → IsPlanned x
  plans_are x at done =
      let codes = codes_exist N is free in
      by_code codes.0 codes.1 (suc (slice_index codes.0 x)) x (omega arith) at done

  pub drafts_are : (x : ℕ) → IsPairAt N plant x → AwaitsNothing (plant_rows N plant) taken planned (plant_pair N x)
      → GetsThePlan N (plant_rows N plant) taken plans x
  drafts_are x at ready = next x at ready (λ y edge there before. plans_are y there before)

pub local_plans_are_the_plan : PlantPlansAreThePlan
local_plans_are_the_plan N is free plant taken planned plans works x at done =
    plans_are N is free plant taken works.legal planned plans works.local x at done

pub drafts_are_the_plan : DraftsAreThePlan
drafts_are_the_plan N is free plant taken planned plans works x at ready =
    drafts_are N is free plant taken works.legal planned plans works.local x at ready

pub drafts_are_within : DraftsAreWithin
drafts_are_within N sized plant taken planned plans works x at ready =
    let V = plant_rows N plant in
    let p = plant_pair N x in
    let gets = drafts_are_the_plan N sized.table sized.loop_free plant taken planned plans works x at ready in
    let comes : row_of N (local_incoming V taken p) ≡ row_of N (incoming N x) =
    map-range-same (local_incoming V taken p) (incoming N x) (horizon N) gets.incoming in
    let asked : row_of N (local_gross V taken plans p) ≡ row_of N (gross N (plan_of N) x) =
    map-range-same (local_gross V taken plans p) (gross N (plan_of N) x) (horizon N) gets.gross in
    subst (λ (terms : PairTerms). IsWithinData (data_of_terms terms (row_of N (local_incoming V taken p)) (row_of N (local_gross V taken plans p))))
    (sym (terms_are N plant x at))
    (subst (λ (row : List ℕ). IsWithinData (data_of_terms (terms_at N x) row (row_of N (local_gross V taken plans p)))) (sym comes)
    (subst (λ (row : List ℕ). IsWithinData (data_of_terms (terms_at N x) (row_of N (incoming N x)) row)) (sym asked)
    (plan_is_within N sized sized.needs sized.are_needs x at.pair).given))

-- ---- which pairs can be planned

pub plannable_is_local : PlannableIsLocal
plannable_is_local N is plant s x at = (
  (λ can. record { unplanned = can.unplanned; ready = ready_on_view N plant s.planned s.taken x at can.ready }),
  (λ can. record { pair = at.pair; unplanned = can.unplanned; ready = ready_over_network N is plant s.planned s.taken x at can.ready }),
)
