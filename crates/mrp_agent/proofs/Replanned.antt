-- The agent: its plans after one more pair is planned.
use Rattle.std.proofs.Common.{◌≡◌, ℕ, ◌+◌, ◌==◌, eqb, cond, if◌then◌else◌, Bool, true, false, List, [], ◌∷◌, inl, inr, set, sum_by, refl, sym}
use Rattle.std.proofs.Common.{ap, ◌∙◌, arith}
use Rattle.std.specs.List.{All, Contains}
use Rattle.std.proofs.lemmas.Bool.{cases_eq, cases_Bool, eqb-true}
use Rattle.std.proofs.lemmas.List.{get_or-set_same, get_or-set_other}
use Rattle.std.proofs.lemmas.List.Elements.{All-head, All-tail}
use Rattle.std.proofs.lemmas.List.Sums.{sum_by-cons}
use Rattle.mrp_netting.specs.PlanRows.{PlanRows}
use Rattle.mrp_netting.specs.PlanningData.{planned as data_of_terms, one}
use Rattle.mrp_master_data.specs.declared.numbers.PairNo.{PairNo}
use Rattle.mrp_net.specs.declared.lane.LaneKind.TheVariants.{Schedule}
use Rattle.mrp_net.specs.Plan.{no_rows}
use Rattle.mrp_plant_view.specs.declared.view.PlantEdge.{PlantEdge}
use Rattle.mrp_plant_view.specs.declared.view.PlantPair.{PlantPair}
use Rattle.mrp_plant_view.specs.Seen.{IsOwnPair}
use Rattle.mrp_plant_view.specs.View.{PlantRows}
use Rattle.mrp_record.specs.declared.record.Record.{Record}
use Rattle.mrp_record.specs.Cursor.{OutFigures}
use Rattle.mrp_readiness.specs.Progress.{Progress, is_planned}
use Rattle.mrp_protocol.specs.State.{changed}
use Rattle.mrp_protocol.specs.LocalPlans.{amount_at, booked_on, local_gross, local_incoming, local_plan, local_row, terms_in}
use Rattle.mrp_agent.specs.State.{AgentState, pair_place, plans_of}
use Rattle.mrp_agent.specs.After.{after_settled}
use Rattle.mrp_agent.specs.Kept.{HasRooms}
use Rattle.mrp_agent.proofs.Drafts.{asks_within, map_same, places_apart}
use Rattle.mrp_agent.proofs.Owning.{own_within}
use Rattle.mrp_agent.proofs.Sent.{changed_there, changed_elsewhere}

-- ---- the plans that are kept

module _ (A : AgentState) (rooms : HasRooms A) (x : PairNo) (own : IsOwnPair A.view x) (plan : PlanRows) (progress : Progress) (outs : List OutFigures) where
  abbrev New : AgentState
  New = after_settled A (pair_place A.view x.0) plan progress outs

  pub plan_there : plans_of (after_settled A (pair_place A.view x.0) plan progress outs) x.0 ≡ plan
  plan_there = get_or-set_same A.plans (pair_place A.view x.0) plan no_rows (omega (arith, own_within A.view x own, rooms.plans.count))

  pub plan_elsewhere : (y : PairNo) → IsOwnPair A.view y → (y.0 ≡ x.0 → ⊥)
      → plans_of (after_settled A (pair_place A.view x.0) plan progress outs) y.0 ≡ plans_of A y.0
  plan_elsewhere y own_y other =
      get_or-set_other A.plans (pair_place A.view x.0) (pair_place A.view y.0) plan no_rows (λ e. other (places_apart A.view y x own_y own e))

-- ---- local plans look at planned parents alone

-- the parents of a pair have the same plans
pub record SameParents (V : PlantRows) (plans others : ℕ → PlanRows) (n : ℕ) (e : PlantEdge) : Type 0 where
  pub same : e.component.0 ≡ n → plans e.parent.0 ≡ others e.parent.0

pub asked_same : (V : PlantRows) (asks : PlantEdge → PlanRows → ℕ) (plans others : ℕ → PlanRows) (n : ℕ) (es : List PlantEdge)
    → All (SameParents V plans others n) es
    → sum_by (λ e. if e.component.0 == n then asks e (plans e.parent.0) else 0) es
    ≡ sum_by (λ e. if e.component.0 == n then asks e (others e.parent.0) else 0) es
asked_same V asks plans others n [] h = refl
asked_same V asks plans others n (e ∷ es) h =
    let f : (ℕ → PlanRows) → PlantEdge → ℕ = λ plans e. if e.component.0 == n then asks e (plans e.parent.0) else 0 in
    let here : f plans e ≡ f others e =
    elim (cases_Bool (eqb e.component.0 n)) as (λ _. f plans e ≡ f others e) [
      | inl own ↦
          let same = (All-head (SameParents V plans others n) e es h).same (eqb-true e.component.0 n own) in
          ap (λ (rows : PlanRows). if e.component.0 == n then asks e rows else 0) same
      | inr other ↦
          let left : f plans e ≡ 0 = ap (λ (b : Bool). cond b (asks e (plans e.parent.0)) 0) other in
          let right : f others e ≡ 0 = ap (λ (b : Bool). cond b (asks e (others e.parent.0)) 0) other in
          left ∙ sym right
    ] in
    let later = asked_same V asks plans others n es (All-tail (SameParents V plans others n) e es h) in
    omega (arith, here, later, sum_by-cons (f plans) e es, sum_by-cons (f others) e es)

pub local_same : (V : PlantRows) (taken : ℕ → List Record) (plans others : ℕ → PlanRows) (p : PlantPair) → All (SameParents V plans others p.number.0) V.edges
    → local_plan V taken plans p ≡ local_plan V taken others p
local_same V taken plans others p h =
    let gross : local_row V (local_gross V taken plans p) ≡ local_row V (local_gross V taken others p) =
    map_same (local_gross V taken plans p) (local_gross V taken others p) 0 V.horizon
    (λ t _. let asked = asked_same V (asks_within V p.number t) plans others p.number.0 V.edges h in
    ap (λ (n : ℕ). amount_at V V.demands p.number t + n + booked_on Schedule V taken p.item t) asked) in
    ap (λ (row : List ℕ). one (data_of_terms (terms_in V p) (local_row V (local_incoming V taken p)) row)) gross

-- ---- which pairs are planned

pub planned_after : (A : AgentState) → HasRooms A → (planned : ℕ → Bool) (x : PairNo) (progress : Progress) → IsOwnPair A.view x
    → progress.planned ≡ set A.progress.planned (pair_place A.view x.0) true
    → ((p : PlantPair) → Contains A.view.pairs p → planned p.number.0 ≡ is_planned A.progress.planned (pair_place A.view p.number.0))
    → (p : PlantPair) → Contains A.view.pairs p → changed planned x.0 true p.number.0 ≡ is_planned progress.planned (pair_place A.view p.number.0)
planned_after A rooms planned x progress own is before p there =
    let place : ℕ = pair_place A.view x.0 in
    let own_p : IsOwnPair A.view p.number = (p, there, refl) in
    elim (cases_eq p.number.0 x.0) as (λ _. changed planned x.0 true p.number.0 ≡ is_planned progress.planned (pair_place A.view p.number.0)) [
      | inl same ↦
          let mine : changed planned x.0 true p.number.0 ≡ true = ap (changed planned x.0 true) same ∙ changed_there planned x.0 true in
          let kept : is_planned progress.planned (pair_place A.view p.number.0) ≡ true =
          ap (λ (z : List Bool). is_planned z (pair_place A.view p.number.0)) is
          ∙ ap (λ (n : ℕ). is_planned (set A.progress.planned place true) (pair_place A.view n)) same
          ∙ get_or-set_same A.progress.planned place true false (omega (arith, own_within A.view x own, rooms.progress.planned)) in
          mine ∙ sym kept
      | inr other ↦
          changed_elsewhere planned x.0 true p.number.0 other
          ∙ before p there
          ∙ sym (ap (λ (z : List Bool). is_planned z (pair_place A.view p.number.0)) is
          ∙ get_or-set_other A.progress.planned place (pair_place A.view p.number.0) true false (λ e. other (places_apart A.view p.number x own_p own e)))
    ]
