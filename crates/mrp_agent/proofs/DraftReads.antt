-- The agent: what a call reads of it to draft a pair, and what is drafted from that.
use Rattle.std.proofs.Common.{◌≡◌, ℕ, List, [], length, slice_index_or, sym, ap, ◌∙◌, subst, arith}
use Rattle.std.specs.List.{All}
use Rattle.mrp_netting.specs.PlanRows.{PlanRows}
use Rattle.mrp_netting.specs.PlanningData.{PairTerms, planned, one}
use Rattle.mrp_net.specs.declared.terms.PlanningTerms.{PlanningTerms}
use Rattle.mrp_net.specs.Terms.{terms_given}
use Rattle.mrp_master_data.specs.declared.rows.FirmRow.{FirmRow}
use Rattle.mrp_master_data.specs.declared.numbers.PairNo.{PairNo}
use Rattle.mrp_agent.specs.declared.edges.ParentEdge.{ParentEdge}
use Rattle.mrp_agent.specs.Asking.{HasDraft, IsFirmWithin, Uses, grossed}
use Rattle.mrp_agent.specs.Drafts.{CanDraft, drafted}
use Rattle.mrp_agent.specs.Kept.{Indexes, IsKept}
use Rattle.mrp_agent.specs.Rows.{edges_at, part_at, uses_at}
use Rattle.mrp_agent.specs.State.{AgentState, pair_place, terms_at_place, terms_owned}
use Rattle.mrp_agent.proofs.Drafts.{demand_length, drafted_is, has_draft}
use Rattle.mrp_agent.proofs.Placing.{IsAtPlace, can_before}
use Rattle.mrp_agent.proofs.Owning.{own_within}

-- a pair that can be drafted, and the rows and plans that a call was given for it
pub record HasRead (A : AgentState) (I : Indexes) (x : PairNo) (place : ℕ) (terms : PlanningTerms) (incoming demand : List ℕ)
    (edges : List ParentEdge) (uses : Uses) (plans : List PlanRows) : Type 0 where
  pub placed : IsAtPlace A I x place
  pub can : CanDraft A x
  pub terms_are : terms_given A.view.horizon terms ≡ terms_at_place A.view place
  pub orders_are : terms.orders.now ≡ slice_index_or A.view.firms place []
  pub incoming_are : incoming ≡ part_at A.view.horizon place A.scheduled_receipts
  pub demand_are : demand ≡ part_at A.view.horizon place A.outside_demand
  pub edges_are : edges ≡ edges_at A.view place
  pub uses_are : uses ≡ uses_at A.view place
  pub plans_are : plans ≡ A.plans

-- the rows were read of the amounts that the agent has
pub rows_read : {A : AgentState} {I : Indexes} {x : PairNo} {place : ℕ} {terms : PlanningTerms} {incoming demand : List ℕ}
    {edges : List ParentEdge} {uses : Uses} {plans : List PlanRows} {all_receipts all_demand : List ℕ}
    → IsAtPlace A I x place → CanDraft A x → all_receipts ≡ A.scheduled_receipts → all_demand ≡ A.outside_demand → plans ≡ A.plans
    → terms_given A.view.horizon terms ≡ terms_at_place A.view place → terms.orders.now ≡ slice_index_or A.view.firms place []
    → incoming ≡ part_at A.view.horizon place all_receipts → demand ≡ part_at A.view.horizon place all_demand
    → edges ≡ edges_at A.view place → uses ≡ uses_at A.view place
    → HasRead A I x place terms incoming demand edges uses plans
rows_read {A} {I} {x} {place} placed can all_receipts_are all_demand_are plans_are terms_are orders_are incoming_are demand_are edges_are uses_are = record {
  placed = placed;
  can = can;
  terms_are = terms_are;
  orders_are = orders_are;
  incoming_are = incoming_are ∙ ap (part_at A.view.horizon place) all_receipts_are;
  demand_are = demand_are ∙ ap (part_at A.view.horizon place) all_demand_are;
  edges_are = edges_are;
  uses_are = uses_are;
  plans_are = plans_are;
}

module _ {A : AgentState} {I : Indexes} {x : PairNo} {place : ℕ} {terms : PlanningTerms} {incoming demand : List ℕ}
    {edges : List ParentEdge} {uses : Uses} {plans : List PlanRows} (read : HasRead A I x place terms incoming demand edges uses plans) where
  abbrev Periods : ℕ
  Periods = A.view.horizon

  -- what is said of the pair's own rows is said of what was read
  of_read : (P : PairTerms → List ℕ → List ℕ → List ParentEdge → Uses → List PlanRows → Type 0)
      → P (terms_owned A.view x) (part_at Periods (pair_place A.view x.0) A.scheduled_receipts)
      (part_at Periods (pair_place A.view x.0) A.outside_demand)
      (edges_at A.view (pair_place A.view x.0)) (uses_at A.view (pair_place A.view x.0)) A.plans
      → P (terms_given Periods terms) incoming demand edges uses plans
  of_read P own =
      let V = A.view in
      subst (λ (z : PairTerms). P z incoming demand edges uses plans) (sym read.terms_are)
      (subst (λ (z : List ℕ). P (terms_at_place V place) z demand edges uses plans) (sym read.incoming_are)
      (subst (λ (z : List ℕ). P (terms_at_place V place) (part_at Periods place A.scheduled_receipts) z edges uses plans) (sym read.demand_are)
      (subst (λ (z : List ParentEdge). P (terms_at_place V place) (part_at Periods place A.scheduled_receipts)
      (part_at Periods place A.outside_demand) z uses plans) (sym read.edges_are)
      (subst (λ (z : Uses). P (terms_at_place V place) (part_at Periods place A.scheduled_receipts)
      (part_at Periods place A.outside_demand) (edges_at V place) z plans) (sym read.uses_are)
      (subst (λ (z : List PlanRows). P (terms_at_place V place) (part_at Periods place A.scheduled_receipts)
      (part_at Periods place A.outside_demand) (edges_at V place) (uses_at V place) z) (sym read.plans_are)
      (subst (λ (k : ℕ). P (terms_at_place V k) (part_at Periods k A.scheduled_receipts) (part_at Periods k A.outside_demand) (edges_at V k)
      (uses_at V k) A.plans)
      (sym read.placed.at) own))))))

  pub demand_periods : length demand ≡ A.view.horizon
  demand_periods =
      of_read (λ (_ : PairTerms) (_ z : List ℕ) (_ : List ParentEdge) (_ : Uses) (_ : List PlanRows). length z ≡ Periods)
      (demand_length A read.placed.kept.view read.placed.kept.rooms x read.can.own)

  pub draft_asked : HasDraft (terms_given (length demand) terms) incoming demand edges uses plans
  draft_asked =
      subst (λ (n : ℕ). HasDraft (terms_given n terms) incoming demand edges uses plans) (sym demand_periods)
      (of_read (λ (said : PairTerms) (comes beside : List ℕ) (es : List ParentEdge) (us : Uses) (rows : List PlanRows). HasDraft said comes beside es us rows)
      (has_draft A read.placed.kept.view read.placed.kept.rooms x read.can.own read.can.within))

  pub draft_made : one (planned (terms_given (length demand) terms) incoming (grossed demand edges uses plans)) ≡ drafted A x
  draft_made =
      ap (λ (n : ℕ). one (planned (terms_given n terms) incoming (grossed demand edges uses plans))) demand_periods
      ∙ of_read (λ (said : PairTerms) (comes beside : List ℕ) (es : List ParentEdge) (us : Uses) (rows : List PlanRows).
      one (planned said comes (grossed beside es us rows)) ≡ drafted A x)
      (drafted_is A read.placed.kept.view read.placed.kept.rooms x read.can.own)

  -- the pair's firm planned orders are released and due within the periods
  pub orders_fit : All (IsFirmWithin (length demand)) terms.orders.now
  orders_fit =
      let V = A.view in
      let own = own_within V x read.can.own in
      let seen = read.placed.kept.view.firms (pair_place V x.0) [] (omega (arith, own, read.placed.kept.view.firms_by_pair)) in
      subst (λ (n : ℕ). All (IsFirmWithin n) terms.orders.now) (sym demand_periods)
      (subst (λ (orders : List FirmRow). All (IsFirmWithin Periods) orders) (sym read.orders_are)
      (subst (λ (k : ℕ). All (IsFirmWithin Periods) (slice_index_or V.firms k [])) (sym read.placed.at)
      (λ k d h. let f = seen k d h in record { start = omega (arith, f.start, f.due); due = f.due })))

-- the place of a pair, as it is given
pub placed_at : {A S : AgentState} {I : Indexes} {x : PairNo} {place : ℕ} → A ≡ S → IsKept A I → CanDraft S x → place ≡ pair_place S.view x.0
    → IsAtPlace A I x place
placed_at {A} {S} {I} {x} {place} same kept can at = record {
  kept = kept;
  own = (can_before same can).own;
  at = at ∙ ap (λ (a : AgentState). pair_place a.view x.0) (sym same);
}
