-- The agent: a pair of its plant stands at a place of it.
use Rattle.std.proofs.Common.{◌≡◌, ℕ, ◌<◌, ◌==◌, Option, Some, length, position, sym, subst, arith}
use Rattle.std.specs.List.{Contains}
use Rattle.mrp_netting.specs.PlanningBound.{IsWithinData}
use Rattle.mrp_master_data.specs.declared.numbers.PairNo.{PairNo}
use Rattle.mrp_plant_view.specs.Seen.{IsOwnPair}
use Rattle.mrp_readiness.specs.Progress.{IsListed}
use Rattle.mrp_agent.specs.Drafts.{CanDraft, drafted_data, ready_numbers}
use Rattle.mrp_agent.specs.Kept.{Indexes, IsKept}
use Rattle.mrp_agent.specs.State.{AgentState, pair_place}
use Rattle.mrp_agent.proofs.Owning.{own_found, own_place_is, own_within}
use Rattle.mrp_agent.proofs.Ready.{ready_place, ready_there}

pub record IsAtPlace (A : AgentState) (I : Indexes) (x : PairNo) (place : ℕ) : Type 0 where
  pub kept : IsKept A I
  pub own : IsOwnPair A.view x
  pub at : place ≡ pair_place A.view x.0

pub place_within : {A : AgentState} {I : Indexes} {x : PairNo} {place : ℕ} → IsAtPlace A I x place → place < length A.view.pairs
place_within {A} {I} {x} {place} h = omega (arith, own_within A.view x h.own, h.at)

-- ---- what is said of a state holds of the same state

pub can_before : {A S : AgentState} {x : PairNo} → A ≡ S → CanDraft S x → CanDraft A x
can_before {A} {S} {x} same can = subst (λ (a : AgentState). CanDraft a x) (sym same) can

pub own_before : {A S : AgentState} (x : PairNo) → A ≡ S → IsOwnPair S.view x → IsOwnPair A.view x
own_before {A} {S} x same own = subst (λ (a : AgentState). IsOwnPair a.view x) (sym same) own

pub placed_now : {A S : AgentState} {I : Indexes} {x : PairNo} {place : ℕ} → A ≡ S → IsAtPlace A I x place → IsAtPlace S I x place
placed_now {A} {S} {I} {x} {place} same h = subst (λ (a : AgentState). IsAtPlace a I x place) same h

pub listed_now : {A S : AgentState} → A ≡ S → IsListed A.progress.waits A.progress.planned A.progress.ready
    → IsListed S.progress.waits S.progress.planned S.progress.ready
listed_now {A} {S} same listed = subst (λ (a : AgentState). IsListed a.progress.waits a.progress.planned a.progress.ready) same listed

-- ---- a pair that is looked up

pub own_is_found : {A S : AgentState} (x : PairNo) → A ≡ S → IsOwnPair S.view x → position (λ p. p.number.0 == x.0) A.view.pairs ≡ Some (pair_place A.view x.0)
own_is_found {A} {S} x same own = own_found A.view x (own_before x same own)

pub place_is_found : {A S : AgentState} {I : Indexes} {x : PairNo} {o : Option ℕ} {place : ℕ} → A ≡ S → IsKept A I → IsOwnPair S.view x
    → o ≡ position (λ p. p.number.0 == x.0) A.view.pairs → o ≡ Some place → IsAtPlace A I x place
place_is_found {A} {S} {I} {x} {o} {place} same kept own looked_up is =
    let mine : IsOwnPair A.view x = own_before x same own in
    record { kept = kept; own = mine; at = own_place_is A.view x o place mine looked_up is }

-- ---- a pair that can be planned

pub ready_at : {A S : AgentState} {I : Indexes} {x : PairNo} {place : ℕ} → A ≡ S → IsAtPlace A I x place
    → IsListed A.progress.waits A.progress.planned A.progress.ready
    → Contains (ready_numbers S) x → Contains A.progress.ready place
ready_at {A} {S} {I} {x} {place} same h listed ready =
    let mine : Contains (ready_numbers A) x = subst (λ (a : AgentState). Contains (ready_numbers a) x) (sym same) ready in
    subst (Contains A.progress.ready) (sym h.at) (ready_place A h.kept.view h.kept.rooms x listed mine)

pub ready_from : {A S : AgentState} {I : Indexes} {x : PairNo} {place : ℕ} → A ≡ S → IsAtPlace A I x place → Contains A.progress.ready place
    → Contains (ready_numbers S) x
ready_from {A} {S} {I} {x} {place} same h there =
    subst (λ (a : AgentState). Contains (ready_numbers a) x) same
    (ready_there A h.kept.view h.kept.rooms x h.own (subst (Contains A.progress.ready) h.at there))

pub can_draft : {A S : AgentState} {I : Indexes} {x : PairNo} {place : ℕ} → A ≡ S → IsAtPlace A I x place → IsOwnPair S.view x → Contains A.progress.ready place
    → (Contains (ready_numbers S) x → IsWithinData (drafted_data S x)) → CanDraft S x
can_draft {A} {S} {I} {x} {place} same h own there within =
    let ready : Contains (ready_numbers S) x = ready_from same h there in
    record { own = own; ready = ready; within = within ready }
