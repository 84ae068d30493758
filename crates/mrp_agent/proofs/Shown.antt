-- The agent: what it shows after a pair is planned.
use Rattle.std.proofs.Common.{◌≡◌, ◌↔◌, ℕ, ◌<◌, Bool, true, false, List, inl, inr, length, get_or, set, refl, sym, ap, ◌∙◌, subst}
use Rattle.std.specs.List.{All, Contains}
use Rattle.std.proofs.lemmas.Bool.{cases_eq, both_ways}
use Rattle.std.proofs.lemmas.List.Elements.{Contains-get_or}
use Rattle.mrp_master_data.specs.declared.numbers.PairNo.{PairNo}
use Rattle.mrp_plant_view.specs.declared.view.OutgoingLane.{OutgoingLane}
use Rattle.mrp_plant_view.specs.declared.view.PlantPair.{PlantPair}
use Rattle.mrp_plant_view.specs.Seen.{IsOwnPair}
use Rattle.mrp_record.specs.declared.record.Record.{Record}
use Rattle.mrp_record.specs.Cursor.{OutFigures}
use Rattle.mrp_record.specs.Shows.{ShowsSent}
use Rattle.mrp_readiness.specs.Progress.{IsListed, Progress}
use Rattle.mrp_readiness.specs.Counts.{open_blocks}
use Rattle.mrp_protocol.specs.State.{changed}
use Rattle.mrp_protocol.specs.Goods.{goods_of, IsSendable}
use Rattle.mrp_protocol.specs.LocalPlans.{AwaitsNothing, IsPlannedLocally, IsLocal}
use Rattle.mrp_agent.specs.After.{after_settled, AreOutsSettled, PairSettled, settled_out}
use Rattle.mrp_agent.specs.Drafts.{CanDraft, drafted, ready_numbers}
use Rattle.mrp_agent.specs.Kept.{Indexes, IsKept}
use Rattle.mrp_agent.specs.Marking.{IsMarked}
use Rattle.mrp_agent.specs.Shows.{awaited, joins_of, OutShows, ShowsHistory}
use Rattle.mrp_agent.specs.State.{AgentState, outgoing_at, out_at, pair_owned, pair_place, plans_of, no_out, no_outgoing}
use Rattle.mrp_agent.proofs.Nothing.{awaits_nothing, draft_is_local, is_unplanned, more_planned, pair_is, same_number}
use Rattle.mrp_agent.proofs.Queued.{shown_now}
use Rattle.mrp_agent.proofs.Sent.{changed_elsewhere}
use Rattle.mrp_agent.proofs.Ready.{ready_stays}
use Rattle.mrp_agent.proofs.Replanned.{local_same, planned_after, plan_there, plan_elsewhere, SameParents}

module _ (A : AgentState) (I : Indexes) (kept : IsKept A I) (p : PlantPair) (there : Contains A.view.pairs p) (can : CanDraft A p.number)
    (listed : IsListed A.progress.waits A.progress.planned A.progress.ready) (sent taken : ℕ → List Record) (planned : ℕ → Bool)
    (shows : ShowsHistory A sent taken planned)
    (progress : Progress) (outs : List OutFigures) where
  abbrev After : AgentState
  After = after_settled A (pair_place A.view p.number.0) (drafted A p.number) progress outs

  own : IsOwnPair A.view p.number
  own = (p, there, refl)

  unplanned : planned p.number.0 ≡ false
  unplanned = is_unplanned A I kept p there can listed sent taken planned shows

  -- the plans of the planned pairs are as before
  plans_stay : (y : PairNo) → IsOwnPair A.view y → planned y.0 ≡ true → plans_of A y.0 ≡ plans_of After y.0
  plans_stay y own_y is =
      sym (plan_elsewhere A kept.rooms p.number own (drafted A p.number) progress outs y own_y (λ e. both_ways (planned y.0) (ap planned e ∙ unplanned) is))

  parents_stay : (q : PlantPair) → AwaitsNothing A.view taken planned q → All (SameParents A.view (plans_of A) (plans_of After) q.number.0) A.view.edges
  parents_stay q ready k d h = record {
    same = λ mine. plans_stay (get_or A.view.edges k d).parent (kept.view.edges k d h).parent (ready.parents k d h mine);
  }

  more_ready : (q : PlantPair) → AwaitsNothing A.view taken planned q → AwaitsNothing A.view taken (changed planned p.number.0 true) q
  more_ready q ready = record {
    parents = λ k d h mine. more_planned planned p.number.0 (get_or A.view.edges k d).parent.0 (ready.parents k d h mine);
    brought = ready.brought;
  }

  -- the settled pair, and the others
  local_now : IsPlannedLocally A.view taken (changed planned p.number.0 true) (plans_of After) p
  local_now =
      let ready = awaits_nothing A I kept p there can listed sent taken planned shows in
      record {
        ready = more_ready p ready;
        plan =
            plan_there A kept.rooms p.number own (drafted A p.number) progress outs
            ∙ draft_is_local A p sent taken planned kept.view there can shows
            ∙ local_same A.view taken (plans_of A) (plans_of After) p (parents_stay p ready);
      }

  local_before : (q : PlantPair) → Contains A.view.pairs q → IsPlannedLocally A.view taken planned (plans_of A) q → planned q.number.0 ≡ true
      → IsPlannedLocally A.view taken (changed planned p.number.0 true) (plans_of After) q
  local_before q known local is = record {
    ready = more_ready q local.ready;
    plan =
        sym (plans_stay q.number (q, known, refl) is)
        ∙ local.plan
        ∙ local_same A.view taken (plans_of A) (plans_of After) q (parents_stay q local.ready);
  }

  pub local_after : IsLocal A.view taken (changed planned p.number.0 true) (plans_of After)
  local_after k d h =
      let q : PlantPair = get_or A.view.pairs k d in
      let known : Contains A.view.pairs q = Contains-get_or A.view.pairs k d h in
      elim (cases_eq q.number.0 p.number.0) as (λ _. changed planned p.number.0 true q.number.0 ≡ true
      → IsPlannedLocally A.view taken (changed planned p.number.0 true) (plans_of After) q) [
        | inl same ↦ λ _. subst (IsPlannedLocally A.view taken (changed planned p.number.0 true) (plans_of After))
            (sym (same_number A.view kept.view q p known there same)) local_now
        | inr other ↦ λ is.
            let before : planned q.number.0 ≡ true = sym (changed_elsewhere planned p.number.0 true q.number.0 other) ∙ is in
            local_before q known (shows.local k d h before) before
      ]

  out_after : AreOutsSettled A.view.outgoing p.item A.outs outs → (k : ℕ) → k < length A.view.outgoing
      → OutShows After sent taken (changed planned p.number.0 true) k
  out_after queued k low =
      let lane : OutgoingLane = outgoing_at A.view k in
      let out = shows.outs k low in
      let now =
      shown_now A.view kept.view lane (kept.view.outgoing k no_outgoing low) (kept.view.schedules k no_outgoing low) p there planned unplanned (plans_of A)
      (plans_of After) plans_stay taken (out_at A k)
      (sent lane.number.0) out.size out.shows out.queued in
      let is : get_or outs k no_out ≡ settled_out lane (out_at A k) p.item = queued.each k low in
      record {
        size = ap (λ (o : OutFigures). o.size) is ∙ now.now_size;
        shows = subst (λ (o : OutFigures). ShowsSent (goods_of A.view taken (plans_of After) lane) o (sent lane.number.0)) (sym is) now.now_sent;
        queued = subst (λ (o : OutFigures). (j : ℕ) → Contains o.queue j ↔ IsSendable (changed planned p.number.0 true) lane j) (sym is) now.now_queued;
      }

  pub shows_after : PairSettled (joins_of A.view) (pair_place A.view p.number.0) A.progress progress → AreOutsSettled A.view.outgoing p.item A.outs outs
      → ShowsHistory After sent taken (changed planned p.number.0 true)
  shows_after settled queued = record {
    books = shows.books;
    waits = settled.counts (open_blocks (awaited A.view taken)) shows.waits;
    scheduled_receipts = shows.scheduled_receipts;
    outside_demand = shows.outside_demand;
    planned_are = planned_after A kept.rooms planned p.number progress own settled.planned shows.planned_are;
    local = local_after;
    outs = λ k low. out_after queued k low;
  }

-- ---- in the words of calls

pub settling_shows : (A : AgentState) (I : Indexes) (x : PairNo) (progress : Progress) (outs : List OutFigures) → IsKept A I → CanDraft A x
    → IsListed A.progress.waits A.progress.planned A.progress.ready → PairSettled (joins_of A.view) (pair_place A.view x.0) A.progress progress
    → AreOutsSettled A.view.outgoing (pair_owned A.view x).item A.outs outs
    → (sent taken : ℕ → List Record) (planned : ℕ → Bool) → ShowsHistory A sent taken planned
    → ShowsHistory (after_settled A (pair_place A.view x.0) (drafted A x) progress outs) sent taken (changed planned x.0 true)
settling_shows A I x progress outs kept can listed settled queued sent taken planned shows =
    let p : PlantPair = can.own.0 in
    let there : Contains A.view.pairs p = can.own.1 in
    let P : PairNo → Type 0 = λ y. CanDraft A y → PairSettled (joins_of A.view) (pair_place A.view y.0) A.progress progress
    → AreOutsSettled A.view.outgoing (pair_owned A.view y).item A.outs outs
    → ShowsHistory (after_settled A (pair_place A.view y.0) (drafted A y) progress outs) sent taken (changed planned y.0 true) in
    let own : P p.number = λ can settled queued.
    shows_after A I kept p there can listed sent taken planned shows progress outs settled
    (subst (λ (q : PlantPair). AreOutsSettled A.view.outgoing q.item A.outs outs) (pair_is A.view kept.view p there) queued) in
    subst P can.own.2 own can settled queued

-- the plan was written, and then the pair was counted as planned
abbrev Written : AgentState → PairNo → ℕ → AgentState
Written A x place = record A { plans = set A.plans place (drafted A x) }

pub planning_shows : (A B new : AgentState) (I : Indexes) (x : PairNo) (place : ℕ) → IsKept A I → CanDraft A x
    → IsListed A.progress.waits A.progress.planned A.progress.ready → place ≡ pair_place A.view x.0 → B ≡ record A { plans = set A.plans place (drafted A x) }
    → IsMarked B place new
    → (sent taken : ℕ → List Record) (planned : ℕ → Bool) → ShowsHistory A sent taken planned → ShowsHistory new sent taken (changed planned x.0 true)
planning_shows A B new I x place kept can listed at written marked sent taken planned shows =
    let here : B ≡ Written A x (pair_place A.view x.0) = written ∙ ap (Written A x) at in
    let now : IsMarked (Written A x (pair_place A.view x.0)) (pair_place A.view x.0) new =
    subst (λ (k : ℕ). IsMarked (Written A x (pair_place A.view x.0)) k new) at (subst (λ (b : AgentState). IsMarked b place new) here marked) in
    subst (λ (a : AgentState). ShowsHistory a sent taken (changed planned x.0 true)) (sym now.same)
    (settling_shows A I x new.progress new.outs kept can listed now.settled now.queued sent taken planned shows)

-- the other pairs that can be planned still can
pub others_stay : (A B new : AgentState) (I : Indexes) (x : PairNo) (place : ℕ) → IsKept A I → IsOwnPair A.view x → place ≡ pair_place A.view x.0
    → B ≡ record A { plans = set A.plans place (drafted A x) }
    → IsMarked B place new
    → (y : PairNo) → Contains (ready_numbers A) y → (y.0 ≡ x.0 → ⊥) → Contains (ready_numbers new) y
others_stay A B new I x place kept own at written marked =
    let now : IsMarked (Written A x place) place new = subst (λ (b : AgentState). IsMarked b place new) written marked in
    let settled = subst (λ (k : ℕ). PairSettled (joins_of A.view) k A.progress new.progress) at now.settled in
    ready_stays A kept.view kept.rooms x own (joins_of A.view) new.progress settled
