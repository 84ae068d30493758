-- The agent: what it drafts for a pair for which nothing is missing is the network's plan of it.
use Rattle.std.proofs.Common.{◌≡◌, ℕ, ◌+◌, ◌<◌, ◌≤◌, ◌==◌, List, length, get_or, sum, slice_index, refl, sym, ap, ◌∙◌, subst, arith}
use Rattle.std.specs.List.{Contains, filter, range_with_len}
use Rattle.std.proofs.lemmas.Bool.{eqb-true}
use Rattle.std.proofs.lemmas.List.{get_or-map, length-map}
use Rattle.std.proofs.lemmas.List.FromFn.{get_or-map-range_with_len, length-map-range_with_len}
use Rattle.std.proofs.lemmas.List.Sums.{get_or-le-sum_by, passes_at_first}
use Rattle.mrp_qty.specs.declared.quantity.TheConstants.{MOST}
use Rattle.mrp_netting.specs.PlanRows.{PlanRows}
use Rattle.mrp_netting.specs.PlanningData.{PairTerms, planned as data_of_terms, one}
use Rattle.mrp_netting.specs.PlanningBound.{IsWithinData}
use Rattle.mrp_net.specs.Terms.{terms_of}
use Rattle.mrp_master_data.specs.Table.{Table}
use Rattle.mrp_net.specs.declared.lane.LaneKind.TheVariants.{Schedule}
use Rattle.mrp_net.proofs.Members.{Contains-from_in}
use Rattle.mrp_plant_view.specs.declared.view.PlantPair.{PlantPair}
use Rattle.mrp_plant_view.specs.Seen.{IsOwnPair}
use Rattle.mrp_plant_view.specs.View.{PlantRows, is_of_plant, plant_pair, plant_pairs, plant_rows}
use Rattle.mrp_loops.specs.Sized.{IsSized}
use Rattle.mrp_loops.specs.Order.{pair_of}
use Rattle.mrp_record.specs.declared.record.Record.{Record}
use Rattle.mrp_protocol.specs.State.{State}
use Rattle.mrp_protocol.specs.LocalLaws.{IsPairAt, IsReadyAt}
use Rattle.mrp_protocol.specs.LocalPlans.{amount_at, asked_within, booked_on, firms_in, local_data, local_incoming, local_gross, local_row, sooner_in, terms_in}
use Rattle.mrp_protocol.proofs.LocalPlanned as network
use Rattle.mrp_protocol.proofs.Seeing.{sees_pair}
use Rattle.mrp_agent.specs.State.{AgentState, pair_owned, pair_place, plans_of, no_plant_pair, terms_owned}
use Rattle.mrp_agent.specs.Shows.{up_to_last}
use Rattle.mrp_agent.specs.InNetwork.{WorksIn}
use Rattle.mrp_agent.specs.Laws.{AgentDraftsAreThePlan, AgentDraftsAreWithin}
use Rattle.mrp_agent.proofs.Drafts.{map_same}
use Rattle.mrp_agent.proofs.Network.{works}
use Rattle.mrp_agent.proofs.Owning.{own_within}

-- ---- small sums

small_sum : (n : ℕ) → n ≤ MOST → up_to_last n ≡ n
small_sum n h = omega arith

-- an amount of a row is within their sum
pub in_row : (V : PlantRows) (amount : ℕ → ℕ) (t : ℕ) → t < V.horizon → amount t ≤ sum (local_row V amount)
in_row V amount t low =
    let inside : t < length (local_row V amount) = omega (arith, low, length-map-range_with_len amount 0 V.horizon) in
    let at : slice_index (local_row V amount) t ≡ amount t = get_or-map-range_with_len amount 0 V.horizon t t 0 low (omega arith) in
    omega (arith, at, get_or-le-sum_by (λ (n : ℕ). n) (local_row V amount) t 0 inside)

-- ---- the pair

module _ (N : Table) (plant x : ℕ) (at : IsPairAt N plant x) where
  own_pair : IsOwnPair (plant_rows N plant) (pair_of x)
  own_pair = (plant_pair N x, Contains-from_in (plant_pairs N plant) (plant_pair N x) (sees_pair N plant x at), refl)

  pair_is : pair_owned (plant_rows N plant) (pair_of x) ≡ plant_pair N x
  pair_is =
      let numbers : List ℕ = filter (is_of_plant N plant) (range_with_len 0 (length N.pairs)) in
      let place : ℕ = pair_place (plant_rows N plant) x in
      let within : place < length (plant_pairs N plant) = own_within (plant_rows N plant) (pair_of x) own_pair in
      let known : get_or (plant_pairs N plant) place no_plant_pair ≡ plant_pair N (get_or numbers place 0) =
      get_or-map (plant_pair N) numbers place 0 no_plant_pair (omega (arith, within, length-map numbers (plant_pair N))) in
      let found : (get_or (plant_pairs N plant) place no_plant_pair).number.0 ≡ x =
      eqb-true (get_or (plant_pairs N plant) place no_plant_pair).number.0 x
      (passes_at_first (λ (p : PlantPair). p.number.0 == x) (plant_pairs N plant) no_plant_pair within) in
      let same : get_or numbers place 0 ≡ x = sym (ap (λ (p : PlantPair). p.number.0) known) ∙ found in
      known ∙ ap (plant_pair N) same

  -- and so is what planners say of it
  terms_are : terms_owned (plant_rows N plant) (pair_of x) ≡ terms_in (plant_rows N plant) (plant_pair N x)
  terms_are =
      let R : PlantRows = plant_rows N plant in
      ap (λ (p : PlantPair). terms_of R.horizon p.params p.policy (sooner_in R (pair_of x)) (firms_in R (pair_of x))) pair_is

-- ---- its rows

module _ (V : PlantRows) (taken : ℕ → List Record) (plans : ℕ → PlanRows) (receipts demand : List ℕ) (p : PlantPair)
    (small : IsWithinData (local_data V taken plans p))
    (comes : (t : ℕ) → t < V.horizon → amount_at V receipts p.number t ≡ up_to_last (local_incoming V taken p t))
    (is_called : (t : ℕ) → t < V.horizon → amount_at V demand p.number t ≡ up_to_last (amount_at V V.demands p.number t + booked_on Schedule V taken p.item t))
  where
    incoming_is : local_row V (λ t. amount_at V receipts p.number t) ≡ local_row V (local_incoming V taken p)
    incoming_is =
        map_same (λ (t : ℕ). amount_at V receipts p.number t) (local_incoming V taken p) 0 V.horizon
        (λ t h.
        let low : t < V.horizon = omega arith in
        comes t low ∙ small_sum (local_incoming V taken p t) (omega (arith, in_row V (local_incoming V taken p) t low, small.total)))

    gross_is : local_row V (λ t. amount_at V demand p.number t + asked_within V plans p.number t) ≡ local_row V (local_gross V taken plans p)
    gross_is =
        map_same (λ (t : ℕ). amount_at V demand p.number t + asked_within V plans p.number t) (local_gross V taken plans p) 0 V.horizon
        (λ t h.
        let low : t < V.horizon = omega arith in
        let most : local_gross V taken plans p t ≤ MOST = omega (arith, in_row V (local_gross V taken plans p) t low, small.total) in
        let sum_is = small_sum (amount_at V V.demands p.number t + booked_on Schedule V taken p.item t) (omega (arith, most)) in
        omega (arith, is_called t low, sum_is))

-- ---- the laws

-- the rows that it drafts from
abbrev RowsAre : Table → (ℕ → List Record) → (ℕ → PlanRows) → List ℕ → List ℕ → ℕ → PlantRows → PlantRows → Type 0
RowsAre N taken plans receipts demand x R V =
    (terms_owned V (pair_of x) ≡ terms_in R (plant_pair N x))
    × (local_row V (λ t. amount_at V receipts (pair_of x) t) ≡ local_row R (local_incoming R taken (plant_pair N x)))
    × (local_row V (λ t. amount_at V demand (pair_of x) t + asked_within V plans (pair_of x) t) ≡ local_row R (local_gross R taken plans (plant_pair N x)))

rows_are : (N : Table) → IsSized N → (plant : ℕ) (s : State) (A : AgentState) → WorksIn N plant s A
    → (x : ℕ) → IsPairAt N plant x → IsReadyAt N plant s.taken s.planned x
    → RowsAre N s.taken (plans_of A) A.scheduled_receipts A.outside_demand x (plant_rows N plant) A.view
rows_are N sized plant s A w x at ready =
    let R : PlantRows = plant_rows N plant in
    let p : PlantPair = plant_pair N x in
    let small = network.drafts_are_within N sized plant s.taken s.planned (plans_of A) (works N plant s A w) x at ready in
    let there : Contains A.view.pairs p = subst (λ (V : PlantRows). Contains V.pairs p) (sym w.shown.view)
    (Contains-from_in (plant_pairs N plant) p (sees_pair N plant x at)) in
    let comes = subst (λ (V : PlantRows). (t : ℕ) → t < V.horizon → amount_at V A.scheduled_receipts p.number t
    ≡ up_to_last (local_incoming V s.taken p t)) w.shown.view
    (w.shown.history.scheduled_receipts p there) in
    let is_called =
    subst (λ (V : PlantRows). (t : ℕ) → t < V.horizon → amount_at V A.outside_demand p.number t
    ≡ up_to_last (amount_at V V.demands p.number t + booked_on Schedule V s.taken p.item t)) w.shown.view (w.shown.history.outside_demand p there) in
    subst (RowsAre N s.taken (plans_of A) A.scheduled_receipts A.outside_demand x R) (sym w.shown.view) (
      terms_are N plant x at,
      incoming_is R s.taken (plans_of A) A.scheduled_receipts A.outside_demand p small comes is_called,
      gross_is R s.taken
          (plans_of A) A.scheduled_receipts A.outside_demand p small comes is_called,
    )

pub drafts_are_within : AgentDraftsAreWithin
drafts_are_within N sized plant s A w x at ready =
    let R : PlantRows = plant_rows N plant in
    let p : PlantPair = plant_pair N x in
    let rows = rows_are N sized plant s A w x at ready in
    let small = network.drafts_are_within N sized plant s.taken s.planned (plans_of A) (works N plant s A w) x at ready in
    let V : PlantRows = A.view in
    let incoming : List ℕ = local_row V (λ t. amount_at V A.scheduled_receipts (pair_of x) t) in
    let gross : List ℕ = local_row V (λ t. amount_at V A.outside_demand (pair_of x) t + asked_within V (plans_of A) (pair_of x) t) in
    subst (λ (terms : PairTerms). IsWithinData (data_of_terms terms incoming gross)) (sym rows.0)
    (subst (λ (z : List ℕ). IsWithinData (data_of_terms (terms_in R p) z gross)) (sym rows.1)
    (subst (λ (z : List ℕ). IsWithinData (data_of_terms (terms_in R p) (local_row R (local_incoming R s.taken p)) z)) (sym rows.2) small))

pub drafts_are_the_plan : AgentDraftsAreThePlan
drafts_are_the_plan N sized plant s A w x at ready =
    let R : PlantRows = plant_rows N plant in
    let p : PlantPair = plant_pair N x in
    let rows = rows_are N sized plant s A w x at ready in
    let V : PlantRows = A.view in
    let incoming : List ℕ = local_row V (λ t. amount_at V A.scheduled_receipts (pair_of x) t) in
    let gross : List ℕ = local_row V (λ t. amount_at V A.outside_demand (pair_of x) t + asked_within V (plans_of A) (pair_of x) t) in
    ap (λ (terms : PairTerms). one (data_of_terms terms incoming gross)) rows.0
    ∙ ap (λ (z : List ℕ). one (data_of_terms (terms_in R p) z gross)) rows.1
    ∙ ap (λ (z : List ℕ). one (data_of_terms (terms_in R p) (local_row R (local_incoming R s.taken p)) z)) rows.2
    ∙ (network.drafts_are_the_plan N sized.table sized.loop_free plant s.taken s.planned (plans_of A)
    (works N plant s A w) x at ready).plan
