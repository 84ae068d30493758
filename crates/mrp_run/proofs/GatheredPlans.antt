-- The run by threads: what the plants give to the plan of the network after it.
use Rattle.std.proofs.Common.{◌≡◌, ◌⊎◌, inl, inr, ℕ, zero, suc, ◌<◌, ◌≤◌, ◌==◌, List, [], ◌∷◌, ◌++◌, length, get_or, map, Vec, Global, refl, sym, ap, subst}
use Rattle.std.proofs.Common.{◌∙◌, arith, length-append}
use Rattle.std.specs.List.{All, range_with_len, filter}
use Rattle.std.proofs.lemmas.Bool.{eq-eqb}
use Rattle.std.proofs.lemmas.List.{ext_get_or, get_or_append_left, get_or_at, get_or-map, length-map}
use Rattle.mrp_netting.specs.declared.plan.PairPlan.{PairPlan}
use Rattle.mrp_master_data.specs.Table.{Table}
use Rattle.mrp_net.specs.Plan.{no_rows}
use Rattle.mrp_plant_view.specs.Seen.{pairs_of_number}
use Rattle.mrp_plant_view.specs.View.{PlantRows, is_of_plant, plant_pair}
use Rattle.mrp_plant_view.specs.declared.view.PlantPair.{PlantPair}
use Rattle.mrp_plant_view.proofs.Seeing.{numbers_stand_once}
use Rattle.mrp_loops.specs.Within.{plan_at}
use Rattle.mrp_protocol.specs.LocalLaws.{IsPairAt}
use Rattle.mrp_protocol.proofs.Seeing.{pairs_are_at}
use Rattle.mrp_agent.specs.State.{AgentState, no_plant_pair, pair_place}
use Rattle.mrp_agent.proofs.Looking.{place_is_only}
use Rattle.mrp_run.specs.declared.plant.Plant.{Plant}
use Rattle.mrp_run.specs.Ends.{EachAt, HasPlans, HavePlans}
use Rattle.mrp_agent.specs.Given.{plans_below}

-- ---- what an agent gives

-- the plan at a place is the network's plan of the pair there
plan_given : (N : Table) (p : ℕ) (A : AgentState) → HasPlans N p A → (k : ℕ) → k < length A.view.pairs
    → get_or A.plans k no_rows ≡ plan_at N (get_or A.view.pairs k no_plant_pair).number.0
plan_given N p A has k within =
    let x : ℕ = (get_or A.view.pairs k no_plant_pair).number.0 in
    let own : All (λ q. IsPairAt N p q.number.0) A.view.pairs = subst (λ (V : PlantRows). All (λ q. IsPairAt N p q.number.0) V.pairs) (sym has.view)
    (pairs_are_at N p) in
    let once : pairs_of_number x A.view.pairs ≤ 1 = subst (λ (V : PlantRows). pairs_of_number x V.pairs ≤ 1) (sym has.view) (numbers_stand_once N p x) in
    let place : pair_place A.view x ≡ k = place_is_only (λ (q : PlantPair). q.number.0 == x) A.view.pairs k no_plant_pair once within (eq-eqb x x refl) in
    sym (ap (λ (n : ℕ). get_or A.plans n no_rows) place) ∙ has.plans x (own k no_plant_pair within)

pub gives : (N : Table) (p : ℕ) (A : AgentState) → HasPlans N p A → length A.plans ≡ length A.view.pairs → A.plans ≡ plans_below N p (length N.pairs)
gives N p A has all =
    let xs : List ℕ = filter (is_of_plant N p) (range_with_len 0 (length N.pairs)) in
    let pairs : A.view.pairs ≡ map (plant_pair N) xs = ap (λ (V : PlantRows). V.pairs) has.view in
    let size : length A.view.pairs ≡ length xs = ap (λ (z : List PlantPair). length z) pairs ∙ length-map xs (plant_pair N) in
    ext_get_or no_rows A.plans (plans_below N p (length N.pairs)) (all ∙ size ∙ sym (length-map xs (plan_at N)))
    (λ k within.
    let low : k < length A.view.pairs = omega (arith, within, all) in
    let there : k < length xs = omega (arith, low, size) in
    let number : (get_or A.view.pairs k no_plant_pair).number.0 ≡ get_or xs k 0 =
    ap (λ (z : List PlantPair). (get_or z k no_plant_pair).number.0) pairs
    ∙ ap (λ (q : PlantPair). q.number.0) (get_or-map (plant_pair N) xs k 0 no_plant_pair there) in
    plan_given N p A has k low ∙ ap (plan_at N) number ∙ sym (get_or-map (plan_at N) xs k 0 no_rows there))

-- one plant more has given its plans
or_less : (k n : ℕ) → (k < n) ⊎ (n ≤ k)
or_less zero zero = inr (omega arith)
or_less zero (suc n) = inl (omega arith)
or_less (suc k) zero = inr (omega arith)
or_less (suc k) (suc n) = elim (or_less k n) [ inl h ↦ inl (omega (arith, h)) | inr h ↦ inr (omega (arith, h)) ]

each_more : {A : Type 0} (P : ℕ → A → Type 0) (xs : List A) (x : A) → EachAt P xs → P (length xs) x → EachAt P (xs ++ x ∷ [])
each_more {A} P xs x before here k d h = elim (or_less k (length xs)) [
  | inl less ↦ subst (P k) (sym (get_or_append_left xs (x ∷ []) d k less)) (before k d less)
  | inr more ↦
      let e : k ≡ length xs = omega (arith, more, h, length-append xs (x ∷ [])) in
      subst (λ (z : ℕ). P z (get_or (xs ++ x ∷ []) z d)) (sym e) (subst (P (length xs)) (sym (get_or_at xs x [] d (length xs) refl)) here)
]

abbrev pub AreOwn : Table → List (Vec PairPlan Global) → Type 0
AreOwn N given = EachAt (λ p v. v.items ≡ plans_below N p (length N.pairs)) given

pub given_more : (N : Table) (plants before rest later : List Plant) (plant : Plant) (given : List (Vec PairPlan Global)) (plans : Vec PairPlan Global)
    → HavePlans N plants → before ++ rest ≡ plants → rest ≡ plant ∷ later → length given ≡ length before → plans.items ≡ plant.agent.plans
    → length plant.agent.plans ≡ length plant.agent.view.pairs
    → AreOwn N given → AreOwn N (given ++ plans ∷ [])
given_more N plants before rest later plant given plans have whole next size are all so_far =
    let place : ℕ = length given in
    let parts : plants ≡ before ++ plant ∷ later = sym whole ∙ ap (λ (z : List Plant). before ++ z) next in
    let here : get_or plants place plant ≡ plant = ap (λ (z : List Plant). get_or z place plant) parts ∙ get_or_at before plant later plant place (sym size) in
    let within : place < length plants = omega (arith, size, ap length parts, length-append before (plant ∷ later)) in
    let has : HasPlans N place plant.agent = subst (λ (z : Plant). HasPlans N place z.agent) here (have.each place plant within) in
    each_more (λ p v. v.items ≡ plans_below N p (length N.pairs)) given plans so_far (are ∙ gives N place plant.agent has all)
