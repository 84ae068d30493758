-- The agent: in its draft, what the releases of a pair's parents ask, whatever each of them asks.
use Rattle.std.proofs.Common.{◌≡◌, ℕ, ◌+◌, ◌<◌, ◌≤◌, List, length, map, sum, sum_by, slice_index, get_or, take, refl, ap, ◌∙◌, arith}
use Rattle.std.specs.List.{All, range_with_len}
use Rattle.std.proofs.lemmas.List.Elements.{All-from_get_or}
use Rattle.std.proofs.lemmas.List.FromFn.{fill_by_all, get_or-map-range_with_len, length-map-range_with_len}
use Rattle.std.proofs.lemmas.List.Sums.{get_or-le-sum_by, sum_by_more_le, sum_by_more}
use Rattle.mrp_netting.specs.PlanRows.{PlanRows}
use Rattle.mrp_netting.specs.PlanningData.{PairTerms, planned, one}
use Rattle.mrp_netting.specs.PlanningBound.{IsWithinData}
use Rattle.mrp_netting.proofs.OneRows.{one-gross}
use Rattle.mrp_qty.specs.declared.quantity.TheConstants.{MOST}
use Rattle.mrp_agent.specs.declared.edges.ParentEdge.{ParentEdge}

abbrev pub no_edge : ParentEdge
no_edge = record { component = 0; parent = 0; per = 0 }

-- what the edges passed so far ask is added
pub record AskedTo (asks : ℕ → ParentEdge → ℕ) (edges : List ParentEdge) (k : ℕ) (old new : List ℕ) : Type 0 where
  pub size : length new ≡ length old
  pub each : (t : ℕ) → t < length old → slice_index new t ≡ slice_index old t + sum_by (asks t) (take k edges)

pub none_asked : (asks : ℕ → ParentEdge → ℕ) (edges : List ParentEdge) (old : List ℕ) → AskedTo asks edges 0 old old
none_asked asks edges old = record { size = refl; each = λ t h. omega arith }

pub next_within : (asks : ℕ → ParentEdge → ℕ) (edges : List ParentEdge) (k : ℕ) (e : ParentEdge) (old now : List ℕ) → AskedTo asks edges k old now
    → k < length edges → e ≡ get_or edges k no_edge
    → ((t : ℕ) → t < length old → slice_index old t + sum_by (asks t) edges ≤ MOST)
    → (t : ℕ) → t < length now → slice_index now t + asks t e ≤ MOST
next_within asks edges k e old now h inside is within t low =
    let lower : t < length old = omega (arith, low, h.size) in
    let this : asks t e ≡ asks t (get_or edges k no_edge) = ap (asks t) is in
    let more : sum_by (asks t) (take k edges) + asks t (get_or edges k no_edge) ≤ sum_by (asks t) edges =
    sum_by_more_le (asks t) edges k no_edge inside in
    omega (arith, h.each t lower, within t lower, more, this)

pub more_asked : (asks : ℕ → ParentEdge → ℕ) (edges : List ParentEdge) (k : ℕ) (e : ParentEdge) (old now new : List ℕ) → AskedTo asks edges k old now
    → k < length edges → e ≡ get_or edges k no_edge
    → length new ≡ length now → ((t : ℕ) → t < length now → slice_index new t ≡ slice_index now t + asks t e)
    → AskedTo asks edges (k + 1) old new
more_asked asks edges k e old now new h inside is size each = record {
  size = size ∙ h.size;
  each = λ t low.
      let lower : t < length now = omega (arith, low, h.size) in
      let this : asks t e ≡ asks t (get_or edges k no_edge) = ap (asks t) is in
      let more : sum_by (asks t) (take (k + 1) edges) ≡ sum_by (asks t) (take k edges) + asks t (get_or edges k no_edge) =
      sum_by_more (asks t) edges k no_edge inside in
      omega (arith, each t lower, h.each t low, more, this);
}

-- ---- the gross requirements

-- what is called for, and on top of it what is asked for in each period
abbrev pub with_asked : List ℕ → (ℕ → ℕ) → List ℕ
with_asked demand asked = map (λ t. slice_index demand t + asked t) (range_with_len 0 (length demand))

-- a period's gross requirement, within the sum of all
asked_at : (demand : List ℕ) (asked : ℕ → ℕ) (t : ℕ) → t < length demand → slice_index (with_asked demand asked) t ≡ slice_index demand t + asked t
asked_at demand asked t low = get_or-map-range_with_len (λ (t : ℕ). slice_index demand t + asked t) 0 (length demand) t t 0 low (omega arith)

pub asked_length : (demand : List ℕ) (asked : ℕ → ℕ) → length (with_asked demand asked) ≡ length demand
asked_length demand asked = length-map-range_with_len (λ (t : ℕ). slice_index demand t + asked t) 0 (length demand)

pub gross_within : (terms : PairTerms) (receipts demand : List ℕ) (asked : ℕ → ℕ) → IsWithinData (planned terms receipts (with_asked demand asked))
    → (t : ℕ) → t < length demand → slice_index demand t + asked t ≤ MOST
gross_within terms receipts demand asked h t low =
    let inside : t < length (with_asked demand asked) = omega (arith, low, asked_length demand asked) in
    let part : slice_index (with_asked demand asked) t ≤ sum (with_asked demand asked) =
    get_or-le-sum_by (λ (n : ℕ). n) (with_asked demand asked) t 0 inside in
    omega (arith, part, h.total, asked_at demand asked t low)

-- so what is called for is small
pub demand_within : (terms : PairTerms) (receipts demand : List ℕ) (asked : ℕ → ℕ) → IsWithinData (planned terms receipts (with_asked demand asked))
    → All (λ n. n ≤ MOST) demand
demand_within terms receipts demand asked h =
    All-from_get_or (λ (n : ℕ). n ≤ MOST) demand 0 (λ t low. omega (arith, gross_within terms receipts demand asked h t low))

pub asked_is_added : (demand : List ℕ) (asked : ℕ → ℕ) (new : List ℕ) → length new ≡ length demand
    → ((t : ℕ) → t < length demand → slice_index new t ≡ slice_index demand t + asked t)
    → new ≡ with_asked demand asked
asked_is_added demand asked new size each = fill_by_all (λ (t : ℕ). slice_index demand t + asked t) new (length demand) 0 size each

-- a plan has a period for each that is called for
pub drafted_length : (terms : PairTerms) (receipts demand : List ℕ) (asked : ℕ → ℕ) (plan : PlanRows)
    → plan ≡ one (planned terms receipts (with_asked demand asked))
    → length plan.gross ≡ length demand
drafted_length terms receipts demand asked plan is =
    ap (λ (z : PlanRows). length z.gross) is ∙ ap length (one-gross (planned terms receipts (with_asked demand asked))) ∙ asked_length demand asked
