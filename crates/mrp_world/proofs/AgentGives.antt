-- The world at its end: the plans that a plant's agent gives once all its pairs are planned.
use Rattle.std.proofs.Common.{◌≡◌, ℕ, ◌<◌, ◌==◌, List, length, get_or, map, refl, sym, ap, ◌∙◌, subst, arith}
use Rattle.std.specs.List.{All, filter, range_with_len}
use Rattle.std.proofs.lemmas.Bool.{eq-eqb}
use Rattle.std.proofs.lemmas.List.{ext_get_or, get_or-map, length-map}
use Rattle.mrp_master_data.specs.Table.{Table}
use Rattle.mrp_net.specs.Plan.{plan_of, rows_at, no_rows}
use Rattle.mrp_plant_view.specs.declared.view.PlantPair.{PlantPair}
use Rattle.mrp_plant_view.specs.View.{PlantRows, is_of_plant, plant_pair}
use Rattle.mrp_agent.specs.State.{AgentState, no_plant_pair, pair_place, plans_of}
use Rattle.mrp_agent.proofs.Looking.{place_is_only}
use Rattle.mrp_agent.proofs.Network.{planned_pairs_have_the_plan}
use Rattle.mrp_agent.specs.InNetwork.{ShowsAgent}
use Rattle.mrp_world.specs.Gathering.{HasPlannedAll, own_plans}
use Rattle.mrp_protocol.proofs.Seeing.{pairs_are_at}
use Rattle.mrp_world.specs.Moments.{Moment, IsAt}
use Rattle.mrp_agent.specs.OwnPart.{IsOwn}
use Rattle.mrp_world.proofs.AgentWorks.{works_in}

-- the plan at a place is the network's plan of the pair there
plan_given : (A : AgentState) (m : Moment) (p : ℕ) → IsAt ShowsAgent m p A → HasPlannedAll m p → (k : ℕ) → k < length A.view.pairs
    → get_or A.plans k no_rows ≡ rows_at (plan_of m.network) (get_or A.view.pairs k no_plant_pair).number.0
plan_given A m p at done k within =
    let N : Table = m.network in
    let x : ℕ = (get_or A.view.pairs k no_plant_pair).number.0 in
    let own : All (λ z. IsOwn N p z.number.0) A.view.pairs = subst (λ (V : PlantRows). All (λ z. IsOwn N p z.number.0) V.pairs) (sym at.shown.view)
    (pairs_are_at N p) in
    let mine : IsOwn N p x = own k no_plant_pair within in
    let place : pair_place A.view x ≡ k = place_is_only (λ (z : PlantPair). z.number.0 == x) A.view.pairs k no_plant_pair
    (at.shown.enough.numbers_once x) within (eq-eqb x x refl) in
    let is : plans_of A x ≡ rows_at (plan_of N) x =
    planned_pairs_have_the_plan N at.sized.table at.sized.loop_free p m.state A (works_in A m p at) x mine (done x mine) in
    sym (ap (λ (n : ℕ). get_or A.plans n no_rows) place) ∙ is

pub gives : (A : AgentState) (m : Moment) (p : ℕ) → IsAt ShowsAgent m p A → HasPlannedAll m p → length A.plans ≡ length A.view.pairs
    → A.plans ≡ own_plans m.network p
gives A m p at done all =
    let N : Table = m.network in
    let xs : List ℕ = filter (is_of_plant N p) (range_with_len 0 (length N.pairs)) in
    let pairs : A.view.pairs ≡ map (plant_pair N) xs = ap (λ (V : PlantRows). V.pairs) at.shown.view in
    let size : length A.view.pairs ≡ length xs = ap (λ (z : List PlantPair). length z) pairs ∙ length-map xs (plant_pair N) in
    ext_get_or no_rows A.plans (own_plans N p) (all ∙ size ∙ sym (length-map xs (rows_at (plan_of N))))
    (λ k within.
    let low : k < length A.view.pairs = omega (arith, within, all) in
    let there : k < length xs = omega (arith, low, size) in
    let number : (get_or A.view.pairs k no_plant_pair).number.0 ≡ get_or xs k 0 =
    ap (λ (z : List PlantPair). (get_or z k no_plant_pair).number.0) pairs
    ∙ ap (λ (q : PlantPair). q.number.0) (get_or-map (plant_pair N) xs k 0 no_plant_pair there) in
    plan_given A m p at done k low ∙ ap (rows_at (plan_of N)) number ∙ sym (get_or-map (rows_at (plan_of N)) xs k 0 no_rows there))
