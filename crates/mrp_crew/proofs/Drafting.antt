-- A crew's workers: in a wave they draft for pairs that can be drafted, and what they bring back can be kept.
use Rattle.std.proofs.Common.{◌≡◌, ◌≢◌, ℕ, suc, ◌+◌, ◌<◌, List, [], ◌∷◌, ◌++◌, length, map, reverse, take, get_or, sym, ap, ◌∙◌, subst, All, Contains}
use Rattle.std.proofs.Math.Seq.{take-suc}
use Rattle.std.specs.List.{AllPairs}
use Rattle.std.proofs.lemmas.List.FromFn.{length-map-range_with_len}
use Rattle.std.proofs.lemmas.List.Elements.{All-push, All-take, All-weaker}
use Rattle.mrp_netting.proofs.OneRows.{one-gross}
use Rattle.mrp_master_data.specs.declared.numbers.PairNo.{PairNo}
use Rattle.mrp_protocol.specs.LocalPlans.{amount_at, asked_within}
use Rattle.mrp_agent.specs.Drafts.{CanDraft, drafted, drafted_data, ready_numbers}
use Rattle.mrp_agent.specs.State.{AgentState, plans_of}
use Rattle.mrp_crew.specs.declared.work.Drafts.{Drafts}
use Rattle.mrp_crew.specs.declared.work.Work.{Work}
use Rattle.mrp_crew.specs.Rooms.{AreDrafts, WorkedFor}
use Rattle.mrp_crew.specs.Settled.{AreToSettle}
use Rattle.mrp_crew.proofs.Fronts.{All-front, All-from_map, All-reverse, AllPairs-front, AllPairs-from_map, AllPairs-take}

-- a draft is of the agent's periods
pub drafted_periods : (A : AgentState) (x : PairNo) → length (drafted A x).gross ≡ A.view.horizon
drafted_periods A x =
    ap length (one-gross (drafted_data A x))
    ∙ length-map-range_with_len (λ t. amount_at A.view A.outside_demand x t + asked_within A.view (plans_of A) x t) 0 A.view.horizon

-- what the workers bring back, in the order of the pairs
pub drafts_settle : (A : AgentState) (pairs : List PairNo) → All (CanDraft A) pairs → AllPairs (λ x y. x ≢ y) pairs
    → (drafts : Drafts) → AreDrafts A pairs drafts → AreToSettle A (reverse drafts.works.items)
drafts_settle A pairs can once drafts are =
    let works : List Work = reverse drafts.works.items in
    let named : List PairNo = map (λ (w : Work). w.pair) works in
    let all : All (CanDraft A) (named ++ are.left_out) = subst (All (CanDraft A)) are.front can in
    let apart : AllPairs (λ x y. x ≢ y) (named ++ are.left_out) = subst (AllPairs (λ (x y : PairNo). x ≢ y)) are.front once in
    record {
      ready = All-weaker (λ (w : Work). CanDraft A w.pair) (λ (w : Work). Contains (ready_numbers A) w.pair) (λ w can_it. can_it.ready) works
          (All-from_map (CanDraft A) (λ (w : Work). w.pair) works (All-front (CanDraft A) named are.left_out all));
      once = AllPairs-from_map (λ (x y : PairNo). x ≢ y) (λ (w : Work). w.pair) works (AllPairs-front (λ (x y : PairNo). x ≢ y) named are.left_out apart);
      worked = All-reverse (WorkedFor A) drafts.works.items are.worked;
    }

-- the pairs of a wave: the first ready ones, and the next
pub wave_can : (P : PairNo → Type 0) (numbers : List PairNo) (k : ℕ) (x : PairNo) → All P numbers → P x → All P (take k numbers ++ x ∷ [])
wave_can P numbers k x all its = All-push P (take k numbers) x (All-take P k numbers all) its

pub wave_once : (numbers : List PairNo) (k : ℕ) (d x : PairNo) → k < length numbers → x ≡ get_or numbers k d → AllPairs (λ x y. x ≢ y) numbers
    → AllPairs (λ x y. x ≢ y) (take k numbers ++ x ∷ [])
wave_once numbers k d x within is once =
    subst (AllPairs (λ (x y : PairNo). x ≢ y)) (take-suc numbers k d within ∙ ap (λ (z : PairNo). take k numbers ++ z ∷ []) (sym is))
    (AllPairs-take (λ (x y : PairNo). x ≢ y) (suc k) numbers once)
