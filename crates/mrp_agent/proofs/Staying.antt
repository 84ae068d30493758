-- The agent: the drafts of the pairs that it can plan stay as they are when it has planned one of them.
use Rattle.std.proofs.Common.{◌≡◌, ℕ, ◌+◌, true, false, List, get_or, set, sym, ap, ◌∙◌, subst}
use Rattle.std.specs.List.{All, Contains}
use Rattle.std.proofs.lemmas.Bool.{both_ways}
use Rattle.std.proofs.lemmas.List.{get_or-set_other}
use Rattle.std.proofs.lemmas.List.Elements.{Contains-get_or}
use Rattle.mrp_netting.specs.PlanRows.{PlanRows}
use Rattle.mrp_netting.specs.PlanningData.{planned as data_of_terms, one}
use Rattle.mrp_master_data.specs.declared.numbers.PairNo.{PairNo}
use Rattle.mrp_net.proofs.Members.{In, In-from_contains, In-map, All-in}
use Rattle.mrp_net.specs.Plan.{no_rows}
use Rattle.mrp_plant_view.specs.declared.view.PlantEdge.{PlantEdge}
use Rattle.mrp_plant_view.specs.View.{PlantRows}
use Rattle.mrp_record.specs.Cursor.{OutFigures}
use Rattle.mrp_readiness.specs.declared.join.Join.{Join}
use Rattle.mrp_readiness.specs.Progress.{IsListed, Progress, is_planned}
use Rattle.mrp_readiness.proofs.Counting.{ready_where_nothing_is_open}
use Rattle.mrp_protocol.specs.LocalPlans.{amount_at, asked_within}
use Rattle.mrp_agent.specs.After.{after_settled}
use Rattle.mrp_agent.specs.Drafts.{CanDraft, drafted, drafted_gross, drafted_incoming, ready_numbers}
use Rattle.mrp_agent.specs.Kept.{Indexes, IsKept}
use Rattle.mrp_agent.specs.Marking.{IsMarked}
use Rattle.mrp_agent.specs.Shows.{awaited, join_of, joins_of}
use Rattle.mrp_agent.specs.State.{AgentState, pair_place, plans_of, terms_owned}
use Rattle.mrp_agent.proofs.Drafts.{asks_within, map_same}
use Rattle.mrp_agent.proofs.Ready.{ready_place}
use Rattle.mrp_agent.proofs.Replanned.{asked_same, SameParents}

module _ (A : AgentState) (I : Indexes) (x : PairNo) (kept : IsKept A I) (can : CanDraft A x)
    (listed : IsListed A.progress.waits A.progress.planned A.progress.ready) (plan : PlanRows)
    (progress : Progress) (outs : List OutFigures) where
  abbrev Next : AgentState
  Next = after_settled A (pair_place A.view x.0) plan progress outs

  -- the planned pair was no parent of theirs, since all of those are planned
  parent_stays : (y : PairNo) → Contains (ready_numbers A) y → (e : PlantEdge) → In A.view.edges e → e.component.0 ≡ y.0
      → plans_of A e.parent.0 ≡ plans_of Next e.parent.0
  parent_stays y ready e among mine =
      let V : PlantRows = A.view in
      let nothing =
      (ready_where_nothing_is_open A.progress.waits A.progress.ready (joins_of V) A.progress.planned (awaited V kept.taken.taken) kept.taken.waits listed
      (pair_place V y.0)).0
      (ready_place A kept.view kept.rooms y listed ready) in
      let done : is_planned A.progress.planned (pair_place V e.parent.0) ≡ true =
      All-in (λ (j : Join). j.component ≡ pair_place V y.0 → is_planned A.progress.planned j.demander ≡ true) (joins_of V)
      (join_of V e) nothing.demanders_are_planned
      (In-map (join_of V) V.edges e among) (ap (pair_place V) mine) in
      let free : is_planned A.progress.planned (pair_place V x.0) ≡ false =
      ((listed.exact (pair_place V x.0)).0 (ready_place A kept.view kept.rooms x listed can.ready)).unplanned in
      sym
      (get_or-set_other A.plans (pair_place V x.0) (pair_place V e.parent.0) plan no_rows
      (λ same. both_ways (is_planned A.progress.planned (pair_place V x.0)) free (ap (is_planned A.progress.planned) (sym same) ∙ done)))

  draft_stays : (y : PairNo) → Contains (ready_numbers A) y → drafted Next y ≡ drafted A y
  draft_stays y ready =
      let V : PlantRows = A.view in
      let parents : All (SameParents V (plans_of A) (plans_of Next) y.0) V.edges = λ k d h. record {
        same = parent_stays y ready (get_or V.edges k d) (In-from_contains V.edges (get_or V.edges k d) (Contains-get_or V.edges k d h));
      } in
      let gross : drafted_gross Next y ≡ drafted_gross A y =
      map_same (λ (t : ℕ). amount_at V A.outside_demand y t + asked_within V (plans_of Next) y t)
      (λ (t : ℕ). amount_at V A.outside_demand y t + asked_within V (plans_of A) y t) 0 V.horizon
      (λ t h. ap (λ (n : ℕ). amount_at V A.outside_demand y t + n) (sym (asked_same V (asks_within V y t) (plans_of A) (plans_of Next) y.0 V.edges parents))) in
      ap (λ (row : List ℕ). one (data_of_terms (terms_owned V y) (drafted_incoming A y) row)) gross

abbrev Written : AgentState → PairNo → ℕ → AgentState
Written A x place = record A { plans = set A.plans place (drafted A x) }

pub drafts_stay : (A B new : AgentState) (I : Indexes) (x : PairNo) (place : ℕ) → IsKept A I → CanDraft A x
    → IsListed A.progress.waits A.progress.planned A.progress.ready → place ≡ pair_place A.view x.0 → B ≡ record A { plans = set A.plans place (drafted A x) }
    → IsMarked B place new
    → (y : PairNo) → Contains (ready_numbers A) y → drafted new y ≡ drafted A y
drafts_stay A B new I x place kept can listed at written marked y ready =
    let here : B ≡ Written A x (pair_place A.view x.0) = written ∙ ap (Written A x) at in
    let now : IsMarked (Written A x (pair_place A.view x.0)) place new = subst (λ (b : AgentState). IsMarked b place new) here marked in
    ap (λ (a : AgentState). drafted a y) now.same ∙ draft_stays A I x kept can listed (drafted A x) new.progress new.outs y ready
