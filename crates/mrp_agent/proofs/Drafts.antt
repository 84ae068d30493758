-- The agent: what it drafts from is what its state says.
use Rattle.std.proofs.Common.{◌≡◌, ℕ, zero, suc, ◌+◌, ◌-◌, ◌*◌, ◌<◌, ◌≤◌, ◌==◌, eqb, cond, if◌then◌else◌, Bool, true, false, List, [], ◌∷◌, inl, inr, length}
use Rattle.std.proofs.Common.{get_or, map, sum_by, slice_index, slice_range, take, drop, refl, sym, ap, ◌∙◌, subst, arith}
use Rattle.std.specs.List.{All, filter, range_with_len}
use Rattle.std.proofs.lemmas.Bool.{cases_eq, eq-eqb, eqb-true, ne_eqb}
use Rattle.std.proofs.lemmas.List.FromFn.{fill_by_all, get_or-map-range_with_len, length-map-range_with_len}
use Rattle.std.proofs.lemmas.List.{get_or-drop, get_or-take, length-drop, length-take-le}
use Rattle.std.proofs.lemmas.List.Elements.{All-head, All-tail, All-filter, All-map}
use Rattle.std.proofs.lemmas.List.Sums.{sum_by-cons, passes_at_first}
use Rattle.mrp_netting.specs.PlanRows.{PlanRows}
use Rattle.mrp_netting.specs.PlanningData.{planned as data_of_terms, one}
use Rattle.mrp_netting.specs.PlanningBound.{IsWithinData}
use Rattle.mrp_master_data.specs.declared.numbers.PairNo.{PairNo}
use Rattle.mrp_net.specs.Plan.{no_rows}
use Rattle.mrp_net.specs.Usages.{pieces_for, usage_in}
use Rattle.mrp_plant_view.specs.declared.view.PlantEdge.{PlantEdge}
use Rattle.mrp_plant_view.specs.declared.view.PlantPair.{PlantPair}
use Rattle.mrp_plant_view.specs.Seen.{IsView, IsOwnPair, IsPlantEdge}
use Rattle.mrp_plant_view.specs.View.{PlantRows}
use Rattle.mrp_protocol.specs.LocalPlans.{amount_at, asked_within, usages_in}
use Rattle.mrp_agent.specs.declared.edges.ParentEdge.{ParentEdge}
use Rattle.mrp_agent.specs.State.{AgentState, pair_place, plans_of, no_plant_pair, terms_owned}
use Rattle.mrp_agent.specs.Asking.{AreUses, HasDraft, ParentCanAsk, Uses, asked_by, asked_on, grossed}
use Rattle.mrp_agent.specs.Drafts.{drafted, drafted_data, drafted_incoming, drafted_gross}
use Rattle.mrp_agent.specs.Kept.{parent_edge, HasRooms}
use Rattle.mrp_agent.specs.Rows.{edges_at, part_at, uses_at}
use Rattle.mrp_agent.proofs.Owning.{own_within}

-- ---- slices

-- a part of a list, number by number
pub part_is : (xs : List ℕ) (a n : ℕ) → a + n ≤ length xs → slice_range xs a (a + n) ≡ map (λ t. slice_index xs (a + t)) (range_with_len 0 n)
part_is xs a n within =
    let count : a + n - a ≡ n = omega arith in
    let size : length (take n (drop a xs)) ≡ n = length-take-le n (drop a xs) (omega (arith, within, length-drop a xs)) in
    let each : (t : ℕ) → t < n → slice_index (take n (drop a xs)) t ≡ slice_index xs (a + t) =
    λ t low. get_or-take n (drop a xs) t 0 low ∙ get_or-drop a xs t 0 in
    ap (λ (k : ℕ). take k (drop a xs)) count ∙ fill_by_all (λ (t : ℕ). slice_index xs (a + t)) (take n (drop a xs)) n 0 size each

pub row_within : (place pairs periods : ℕ) → place < pairs → place * periods + periods ≤ pairs * periods
row_within place pairs periods within =
    let least : place + 1 ≤ pairs = omega arith in
    grind (arith, mul_le place pairs periods within)
  where
    mul_le : (place pairs periods : ℕ) → place < pairs → (place + 1) * periods ≤ pairs * periods
    mul_le place zero periods h = absurd (omega arith)
    mul_le zero (suc pairs) periods h = omega arith
    mul_le (suc place) (suc pairs) periods h = omega (arith, mul_le place pairs periods (omega arith))

-- ---- the parents

-- the number of one of the plant's pairs is that of the pair at its place
number_there : (V : PlantRows) (x : PairNo) → IsOwnPair V x → (get_or V.pairs (pair_place V x.0) no_plant_pair).number.0 ≡ x.0
number_there V x own =
    eqb-true (get_or V.pairs (pair_place V x.0) no_plant_pair).number.0 x.0
    (passes_at_first (λ (p : PlantPair). eqb p.number.0 x.0) V.pairs no_plant_pair (own_within V x own))

-- two of the plant's pairs stand at one place where they have one number
pub places_apart : (V : PlantRows) (x y : PairNo) → IsOwnPair V x → IsOwnPair V y → pair_place V x.0 ≡ pair_place V y.0 → x.0 ≡ y.0
places_apart V x y own_x own_y same =
    sym (number_there V x own_x) ∙ ap (λ (k : ℕ). (get_or V.pairs k no_plant_pair).number.0) same ∙ number_there V y own_y

same_component : (V : PlantRows) (x : PairNo) (e : PlantEdge) → IsOwnPair V x → IsPlantEdge V e
    → (pair_place V e.component.0 == pair_place V x.0) ≡ (e.component.0 == x.0)
same_component V x e own is =
    elim (cases_eq e.component.0 x.0) as (λ _. eqb (pair_place V e.component.0) (pair_place V x.0) ≡ eqb e.component.0 x.0) [
      | inl same ↦ eq-eqb (pair_place V e.component.0) (pair_place V x.0) (ap (pair_place V) same) ∙ sym (eq-eqb e.component.0 x.0 same)
      | inr other ↦
          ne_eqb (pair_place V e.component.0) (pair_place V x.0) (λ e'. other (places_apart V e.component x is.component own e'))
          ∙ sym (ne_eqb e.component.0 x.0 other)
    ]

-- a sum over the edges by places that pass is one over all of the plant's edges, with nothing of the others
sum_passing : (at : PlantEdge → ParentEdge) (test : ParentEdge → Bool) (asks : ParentEdge → ℕ) (mine : PlantEdge → Bool) (told : PlantEdge → ℕ)
    (P : PlantEdge → Type 0) → ((e : PlantEdge) → P e → test (at e) ≡ mine e) → ((e : PlantEdge) → P e → asks (at e) ≡ told e)
    → (es : List PlantEdge) → All P es → sum_by asks (filter test (map at es)) ≡ sum_by (λ e. if mine e then told e else 0) es
sum_passing at test asks mine told P same is [] h = refl
sum_passing at test asks mine told P same is (e ∷ es) h =
    let rest : List ParentEdge = filter test (map at es) in
    let first : P e = All-head P e es h in
    let later = sum_passing at test asks mine told P same is es (All-tail P e es h) in
    let all = sum_by-cons (λ (e : PlantEdge). if mine e then told e else 0) e es in
    let told_is : asks (at e) ≡ told e = is e first in
    let F : Bool → Type 0 = λ b. sum_by asks (cond b (at e ∷ rest) rest) ≡ cond b (told e) 0 + sum_by (λ e. if mine e then told e else 0) es in
    let by : (b : Bool) → F b = λ b. elim b as F [
      | true ↦ let one = sum_by-cons asks (at e) rest in omega (arith, one, later, told_is)
      | false ↦ omega (arith, later)
    ] in
    by (test (at e)) ∙ ap (λ (b : Bool). cond b (told e) 0 + sum_by (λ e. if mine e then told e else 0) es) (same e first) ∙ sym all

-- what a parent with this plan asks of one of the plant's pairs, by the usage rows that the plant sees
abbrev pub asks_within : PlantRows → PairNo → ℕ → PlantEdge → PlanRows → ℕ
asks_within V x t e plan = pieces_for (usage_in (usages_in V x) e.parent.0 e.per t) (slice_index plan.release t)

-- what the edges by places ask is what the plant's edges do
pub asked_is : (A : AgentState) (x : PairNo) → IsOwnPair A.view x → (t : ℕ) (es : List PlantEdge) → All (IsPlantEdge A.view) es
    → asked_by (uses_at A.view (pair_place A.view x.0)) A.plans (filter (λ e. e.component == pair_place A.view x.0) (map (parent_edge A.view) es)) t
    ≡ sum_by (λ e. if e.component.0 == x.0 then asks_within A.view x t e (plans_of A e.parent.0) else 0) es
asked_is A x own t es h =
    let V : PlantRows = A.view in
    sum_passing (parent_edge V) (λ (e : ParentEdge). e.component == pair_place V x.0) (asked_on (uses_at V (pair_place V x.0)) A.plans t)
    (λ (e : PlantEdge). e.component.0 == x.0) (λ (e : PlantEdge). asks_within V x t e (plans_of A e.parent.0)) (IsPlantEdge V)
    (λ e is. same_component V x e own is)
    (λ e is.
    ap (λ (n : ℕ). pieces_for (usage_in (usages_in V x) n e.per t) (slice_index (plans_of A e.parent.0).release t)) (number_there V e.parent is.parent))
    es h

-- ---- rows

pub map_same : (f g : ℕ → ℕ) (a n : ℕ) → ((t : ℕ) → t < a + n → f t ≡ g t) → map f (range_with_len a n) ≡ map g (range_with_len a n)
map_same f g a zero same = refl
map_same f g a (suc n) same =
    let later = map_same f g (a + 1) n (λ t h. same t (omega arith)) in
    ap (λ (z : ℕ). z ∷ map f (range_with_len (a + 1) n)) (same a (omega arith)) ∙ ap (λ (z : List ℕ). g a ∷ z) later

module _ (A : AgentState) (view : IsView A.view) (rooms : HasRooms A) (x : PairNo) (own : IsOwnPair A.view x) where
  abbrev Part : List ℕ → List ℕ
  Part = part_at A.view.horizon (pair_place A.view x.0)

  abbrev Edges : List ParentEdge
  Edges = edges_at A.view (pair_place A.view x.0)

  abbrev Used : Uses
  Used = uses_at A.view (pair_place A.view x.0)

  bound : pair_place A.view x.0 * A.view.horizon + A.view.horizon ≤ length A.view.pairs * A.view.horizon
  bound = row_within (pair_place A.view x.0) (length A.view.pairs) A.view.horizon (own_within A.view x own)

  pub receipts_are : Part A.scheduled_receipts ≡ drafted_incoming A x
  receipts_are = part_is A.scheduled_receipts (pair_place A.view x.0 * A.view.horizon) A.view.horizon (omega (arith, bound, rooms.scheduled_receipts))

  demand_is : Part A.outside_demand ≡ map (λ t. slice_index A.outside_demand (pair_place A.view x.0 * A.view.horizon + t)) (range_with_len 0 A.view.horizon)
  demand_is = part_is A.outside_demand (pair_place A.view x.0 * A.view.horizon) A.view.horizon (omega (arith, bound, rooms.outside_demand))

  pub demand_length : length (Part A.outside_demand) ≡ A.view.horizon
  demand_length =
      ap length demand_is
      ∙ length-map-range_with_len (λ (t : ℕ). slice_index A.outside_demand (pair_place A.view x.0 * A.view.horizon + t)) 0 A.view.horizon

  called_at : (t : ℕ) → t < A.view.horizon → slice_index (Part A.outside_demand) t ≡ slice_index A.outside_demand (pair_place A.view x.0 * A.view.horizon + t)
  called_at t within =
      let f : ℕ → ℕ = λ t. slice_index A.outside_demand (pair_place A.view x.0 * A.view.horizon + t) in
      ap (λ (z : List ℕ). slice_index z t) demand_is ∙ get_or-map-range_with_len f 0 A.view.horizon t t 0 within (omega arith)

  pub gross_is : grossed (Part A.outside_demand) Edges Used A.plans ≡ drafted_gross A x
  gross_is =
      let f : ℕ → ℕ = λ t. slice_index (Part A.outside_demand) t + asked_by Used A.plans Edges t in
      let g : ℕ → ℕ = λ t. amount_at A.view A.outside_demand x t + asked_within A.view (plans_of A) x t in
      ap (λ (n : ℕ). map f (range_with_len 0 n)) demand_length
      ∙ map_same f g 0 A.view.horizon
      (λ t h.
      let lower : t < A.view.horizon = omega arith in
      ap (λ (n : ℕ). n + asked_by Used A.plans Edges t) (called_at t lower)
      ∙ ap (λ (n : ℕ). amount_at A.view A.outside_demand x t + n) (asked_is A x own t A.view.edges view.edges))

  can_ask : (e : PlantEdge) → IsPlantEdge A.view e → ParentCanAsk A.plans (length (Part A.outside_demand)) (parent_edge A.view e)
  can_ask e is =
      let within : pair_place A.view e.parent.0 < length A.plans = omega (arith, own_within A.view e.parent is.parent, rooms.plans.count) in
      record { known = within; periods_are = (rooms.plans.periods (pair_place A.view e.parent.0) no_rows within).gross ∙ sym demand_length; few = is.few }

  uses_are : AreUses Used A.plans
  uses_are =
      let within : pair_place A.view x.0 < length A.view.usages = omega (arith, own_within A.view x own, view.usages_by_pair) in
      record {
        rows = λ k d h. let usage = view.usages (pair_place A.view x.0) [] within k d h in (usage.some, usage.per);
        rise = view.usages_rise (pair_place A.view x.0) [] within;
        plans_are = rooms.plans.count;
      }

  pub has_draft : IsWithinData (drafted_data A x)
      → HasDraft (terms_owned A.view x) (Part A.scheduled_receipts) (Part A.outside_demand) (edges_at A.view (pair_place A.view x.0))
      (uses_at A.view (pair_place A.view x.0)) A.plans
  has_draft within = record {
    within =
        subst (λ (z : List ℕ). IsWithinData (data_of_terms (terms_owned A.view x) z (grossed (Part A.outside_demand) Edges Used A.plans)))
        (sym receipts_are)
        (subst (λ (z : List ℕ). IsWithinData (data_of_terms (terms_owned A.view x) (drafted_incoming A x) z)) (sym gross_is) within);
    edges_are =
        All-filter (λ (e : ParentEdge). e.component == pair_place A.view x.0) (ParentCanAsk A.plans (length (Part A.outside_demand)))
        (map (parent_edge A.view) A.view.edges)
        (All-map (ParentCanAsk A.plans (length (Part A.outside_demand))) (parent_edge A.view) A.view.edges
        (λ k d h. can_ask (get_or A.view.edges k d) (view.edges k d h)));
    uses_are = uses_are;
  }

  pub drafted_is : one (data_of_terms (terms_owned A.view x) (Part A.scheduled_receipts)
      (grossed (Part A.outside_demand) (edges_at A.view (pair_place A.view x.0)) (uses_at A.view (pair_place A.view x.0)) A.plans))
      ≡ drafted A x
  drafted_is =
      ap (λ (z : List ℕ). one (data_of_terms (terms_owned A.view x) z (grossed (Part A.outside_demand) Edges Used A.plans))) receipts_are
      ∙ ap (λ (z : List ℕ). one (data_of_terms (terms_owned A.view x) (drafted_incoming A x) z)) gross_is
