-- A crew's workers: a pair that is ready for one of them can be drafted by the agent, and isn't planned yet.
use Rattle.std.proofs.Common.{◌≡◌, ◌↔◌, ℕ, Bool, false, List, sym, subst, All, Contains}
use Rattle.std.proofs.lemmas.List.Elements.{All-contains, All-contains_itself, All-weaker}
use Rattle.mrp_master_data.specs.declared.numbers.PairNo.{PairNo}
use Rattle.mrp_plant_view.specs.declared.view.PlantPair.{PlantPair}
use Rattle.mrp_plant_view.specs.Seen.{IsOwnPair}
use Rattle.mrp_plant_view.specs.View.{PlantRows, plant_pair, plant_rows}
use Rattle.mrp_record.specs.declared.record.Record.{Record}
use Rattle.mrp_protocol.specs.LocalLaws.{IsPairAt}
use Rattle.mrp_protocol.specs.LocalPlans.{CanBePlanned}
use Rattle.mrp_protocol.proofs.Seeing.{own_at, seen_there}
use Rattle.mrp_agent.specs.Drafts.{CanDraft, ready_numbers}
use Rattle.mrp_agent.specs.Shows.{ShowsHistory}
use Rattle.mrp_agent.specs.State.{AgentState}
use Rattle.mrp_agent.proofs.DraftLaws.{drafts_are_within}
use Rattle.mrp_crew.specs.Planning.{IsPlannable}

-- the numbers are those of the pairs that can be planned
abbrev pub AreReady : AgentState → List PairNo → Type 0
AreReady A numbers =
    (sent taken : ℕ → List Record) (planned : ℕ → Bool) → ShowsHistory A sent taken planned
    → (p : PlantPair) → Contains A.view.pairs p → Contains numbers p.number ↔ CanBePlanned A.view taken planned p

-- ---- ready pairs

module _ (A : AgentState) (can : IsPlannable A) (numbers : List PairNo) (same : numbers ≡ ready_numbers A) (own : All (IsOwnPair A.view) numbers)
    (exact : AreReady A numbers) where
  exact_ready : AreReady A (ready_numbers A)
  exact_ready = subst (AreReady A) same exact

  pub own_ready : (x : PairNo) → Contains (ready_numbers A) x → IsOwnPair A.view x
  own_ready x listed = All-contains (IsOwnPair A.view) (ready_numbers A) x (subst (All (IsOwnPair A.view)) same own) listed

  at_plant : (x : PairNo) → Contains (ready_numbers A) x → IsPairAt can.network can.plant x.0
  at_plant x listed = own_at A.view can.network can.plant x can.works.shown.view (own_ready x listed)

  can_be : (x : PairNo) → Contains (ready_numbers A) x
      → CanBePlanned (plant_rows can.network can.plant) can.state.taken can.state.planned (plant_pair can.network x.0)
  can_be x listed =
      subst (λ (V : PlantRows). CanBePlanned V can.state.taken can.state.planned (plant_pair can.network x.0)) can.works.shown.view
      ((exact_ready can.state.sent can.state.taken can.state.planned can.works.shown.history (plant_pair can.network x.0)
      (seen_there A.view can.network can.plant x.0 can.works.shown.view (at_plant x listed))).0 listed)

  pub can_draft : (x : PairNo) → Contains (ready_numbers A) x → CanDraft A x
  can_draft x listed = record {
    own = own_ready x listed;
    ready = listed;
    within = drafts_are_within can.network can.sized can.plant can.state A can.works x.0 (at_plant x listed) (can_be x listed).ready;
  }

  pub unplanned : (x : PairNo) → Contains (ready_numbers A) x
      → (sent taken : ℕ → List Record) (planned : ℕ → Bool) → ShowsHistory A sent taken planned → planned x.0 ≡ false
  unplanned x listed sent taken planned shown =
      let (q, there, is) = own_ready x listed in
      subst (λ (n : PairNo). planned n.0 ≡ false) is
      ((exact_ready sent taken planned shown q there).0 (subst (Contains (ready_numbers A)) (sym is) listed)).unplanned

  pub all_can_draft : All (CanDraft A) numbers
  all_can_draft =
      subst (All (CanDraft A)) (sym same)
      (All-weaker (Contains (ready_numbers A)) (CanDraft A) (λ x listed. can_draft x listed) (ready_numbers A) (All-contains_itself (ready_numbers A)))
