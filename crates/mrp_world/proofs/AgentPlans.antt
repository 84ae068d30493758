-- The world, event by event: a plant's agent can plan what the plant can plan.
use Rattle.std.proofs.Common.{◌≡◌, ◌↔◌, ℕ, Bool, true, false, List, [], ◌∷◌, Option, None, Some, slice_get, refl, sym, ◌∙◌, subst, Contains, All, arith}
use Rattle.std.specs.Prelude.{IfSome, IfNone, IsTrue}
use Rattle.std.specs.Bool.{OnTrue}
use Rattle.std.proofs.lemmas.Bool.{false≢true}
use Rattle.mrp_netting.specs.PlanningBound.{IsWithinData}
use Rattle.mrp_master_data.specs.declared.numbers.PairNo.{PairNo}
use Rattle.mrp_plant_view.specs.declared.view.PlantPair.{PlantPair}
use Rattle.mrp_plant_view.specs.Seen as seen
use Rattle.mrp_plant_view.specs.View.{PlantRows, plant_pair, plant_rows}
use Rattle.mrp_record.specs.declared.record.Record.{Record}
use Rattle.mrp_protocol.specs.State.{CanPlan, after_plan, changed}
use Rattle.mrp_protocol.specs.LocalPlans.{CanBePlanned}
use Rattle.mrp_protocol.proofs.LocalPlanned.{plannable_is_local}
use Rattle.mrp_protocol.proofs.Seeing.{own_at, seen_there}
use Rattle.mrp_agent.specs.Drafts.{drafted_data}
use Rattle.mrp_agent.specs.Shows.{ShowsHistory}
use Rattle.mrp_agent.specs.State.{AgentState}
use Rattle.mrp_agent.proofs.DraftLaws.{drafts_are_within}
use Rattle.mrp_agent.specs.InNetwork.{ShowsAgent}
use Rattle.mrp_world.specs.Moments.{Moment, IsAt, Has}
use Rattle.mrp_agent.specs.OwnPart.{IsOwn}
use Rattle.mrp_world.proofs.AgentPlaces.{own_seen}
use Rattle.mrp_world.proofs.AgentWorks.{works_in}

-- the numbers are those of the pairs that can be planned
abbrev pub AreReady : AgentState → List PairNo → Type 0
AreReady A numbers =
    (sent taken : ℕ → List Record) (planned : ℕ → Bool) → ShowsHistory A sent taken planned
    → (p : PlantPair) → Contains A.view.pairs p → Contains numbers p.number ↔ CanBePlanned A.view taken planned p

module _ (A : AgentState) (numbers : List PairNo) (exact : AreReady A numbers) where
  module _ (m : Moment) (p : ℕ) (x : PairNo) (at : IsAt ShowsAgent m p A) (own : IsOwn m.network p x.0) where
    listed_can_be : Contains numbers x → CanBePlanned (plant_rows m.network p) m.state.taken m.state.planned (plant_pair m.network x.0)
    listed_can_be listed =
        subst (λ (V : PlantRows). CanBePlanned V m.state.taken m.state.planned (plant_pair m.network x.0)) at.shown.view
        ((exact m.state.sent m.state.taken m.state.planned at.shown.history (plant_pair m.network x.0) (seen_there A.view m.network p x.0 at.shown.view own)).0
        listed)

    pub listed_can : Contains numbers x → CanPlan m.network m.state x.0
    listed_can listed = (plannable_is_local m.network at.sized.table p m.state x.0 own).1 (listed_can_be listed)

    pub can_listed : CanPlan m.network m.state x.0 → Contains numbers x
    can_listed can =
        (exact m.state.sent m.state.taken m.state.planned at.shown.history (plant_pair m.network x.0) (seen_there A.view m.network p x.0 at.shown.view own)).1
        (subst (λ (V : PlantRows). CanBePlanned V m.state.taken m.state.planned (plant_pair m.network x.0)) (sym at.shown.view)
        ((plannable_is_local m.network at.sized.table p m.state x.0 own).0 can))

    draft_at : Contains numbers x → IsWithinData (drafted_data A x)
    draft_at listed =
        drafts_are_within m.network at.sized p m.state A (works_in A m p at) x.0 own (listed_can_be listed).ready

  pub draft_within : (x : PairNo) → Has ShowsAgent A x.0 → Contains numbers x → IsWithinData (drafted_data A x)
  draft_within x (m, p, at, own) listed = draft_at m p x at own listed

pub has_own : (A : AgentState) (x : PairNo) → Has ShowsAgent A x.0 → seen.IsOwnPair A.view x
has_own A x (m, p, at, own) = own_seen A.view m.network p x at.shown.view own

-- ---- what planning answers

module _ (A : AgentState) (numbers ready : List PairNo) (same : numbers ≡ ready) (exact : AreReady A numbers) (x : PairNo) where
  exact_ready : AreReady A ready
  exact_ready = subst (AreReady A) same exact

  pub plans_within : Has ShowsAgent A x.0 → Contains ready x → IsWithinData (drafted_data A x)
  plans_within has listed = draft_within A ready exact_ready x has listed

  pub planned_could : (b : Bool) → IsTrue b ↔ Contains ready x → b ≡ true
      → (m : Moment) (p : ℕ) → IsAt ShowsAgent m p A → IsOwn m.network p x.0 → CanPlan m.network m.state x.0
  planned_could b can is m p at own = listed_can A ready exact_ready m p x at own (can.0 is)

  pub unplanned_could_not : (b : Bool) → IsTrue b ↔ Contains ready x → b ≡ false
      → (m : Moment) (p : ℕ) → IsAt ShowsAgent m p A → IsOwn m.network p x.0 → ¬ CanPlan m.network m.state x.0
  unplanned_could_not b can is m p at own = λ may. false≢true (sym is ∙ can.1 (can_listed A ready exact_ready m p x at own may))

pub planned_shows : (A B : AgentState) (x : PairNo) (b : Bool) → B.view ≡ A.view
    → OnTrue b ((sent taken : ℕ → List Record) (planned : ℕ → Bool) → ShowsHistory A sent taken planned → ShowsHistory B sent taken (changed planned x.0 true))
    → b ≡ true
    → (m : Moment) (p : ℕ) → IsAt ShowsAgent m p A → IsOwn m.network p x.0 → ShowsAgent m.network p (after_plan m.state x.0) B
planned_shows A B x false same planned is = absurd (false≢true is)
planned_shows A B x true same planned is = λ m p at own. record {
  view = same ∙ at.shown.view;
  enough = subst seen.IsView (sym same) at.shown.enough;
  history = planned m.state.sent m.state.taken m.state.planned at.shown.history;
}

-- ---- the first of them

pub first_own : (A : AgentState) (numbers : List PairNo) → All (seen.IsOwnPair A.view) numbers → (o : Option PairNo) → o ≡ slice_get numbers 0
    → IfSome o (λ x. (m : Moment) (p : ℕ) → IsAt ShowsAgent m p A → IsOwn m.network p x.0)
first_own A [] own None is = tt
first_own A [] own (Some x) is = absurd (cc is)
first_own A (y ∷ ys) own None is = tt
first_own A (y ∷ ys) own (Some x) is = λ m p at.
    let same : x ≡ y = cc is in
    own_at A.view m.network p x at.shown.view (subst (seen.IsOwnPair A.view) (sym same) (own 0 y (omega arith)))

pub first_can : (A : AgentState) (numbers : List PairNo) → AreReady A numbers → All (seen.IsOwnPair A.view) numbers → (o : Option PairNo)
    → o ≡ slice_get numbers 0
    → IfSome o (λ x. (m : Moment) (p : ℕ) → IsAt ShowsAgent m p A → CanPlan m.network m.state x.0)
first_can A [] exact own None is = tt
first_can A [] exact own (Some x) is = absurd (cc is)
first_can A (y ∷ ys) exact own None is = tt
first_can A (y ∷ ys) exact own (Some x) is = λ m p at.
    let same : x ≡ y = cc is in
    let its : IsOwn m.network p y.0 = own_at A.view m.network p y at.shown.view (own 0 y (omega arith)) in
    subst (λ (z : PairNo). CanPlan m.network m.state z.0) (sym same) (listed_can A (y ∷ ys) exact m p y at its (0, omega arith, refl))

pub none_can : (A : AgentState) (numbers : List PairNo) → AreReady A numbers → (o : Option PairNo) → o ≡ slice_get numbers 0
    → IfNone o ((m : Moment) (p x : ℕ) → IsAt ShowsAgent m p A → IsOwn m.network p x → ¬ CanPlan m.network m.state x)
none_can A [] exact (Some x) is = tt
none_can A (y ∷ ys) exact (Some x) is = tt
none_can A (y ∷ ys) exact None is = absurd (cc is)
none_can A [] exact None is = λ m p x at own can. absurd (nothing_there (can_listed A [] exact m p (record { 0 = x }) at own can))
  where
    nothing_there : {x : PairNo} → Contains [] x → ⊥
    nothing_there h = omega (arith, h.1)
