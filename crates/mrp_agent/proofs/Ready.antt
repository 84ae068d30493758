-- The agent: a pair stands among those that it can plan where the pair's place does.
use Rattle.std.proofs.Common.{◌≡◌, ℕ, ◌<◌, ◌==◌, List, length, get_or, map, slice_index, sym, ap, ◌∙◌, subst, arith}
use Rattle.std.specs.List.{Contains}
use Rattle.std.proofs.lemmas.Bool.{eq-eqb, eqb-true}
use Rattle.std.proofs.lemmas.List.{get_or-map, get_or_default, length-map}
use Rattle.std.proofs.lemmas.List.Sums.{passes_at_first}
use Rattle.mrp_master_data.specs.declared.numbers.PairNo.{PairNo}
use Rattle.mrp_plant_view.specs.declared.view.PlantPair.{PlantPair}
use Rattle.mrp_plant_view.specs.Seen.{IsView, IsOwnPair}
use Rattle.mrp_readiness.specs.Chosen.{number_at}
use Rattle.mrp_readiness.specs.declared.join.Join.{Join}
use Rattle.mrp_readiness.specs.Progress.{IsListed, Progress}
use Rattle.mrp_agent.specs.After.{PairSettled}
use Rattle.mrp_agent.specs.Drafts.{ready_numbers}
use Rattle.mrp_agent.specs.Kept.{HasRooms}
use Rattle.mrp_agent.specs.State.{AgentState, no_plant_pair, pair_place}
use Rattle.mrp_agent.proofs.Looking.{place_is_only}
use Rattle.mrp_agent.proofs.Owning.{own_within}

module _ (A : AgentState) (view : IsView A.view) (rooms : HasRooms A) where
  -- the number at a place
  number_there : (k : ℕ) → k < length A.view.pairs → number_at A.progress.numbers k ≡ (get_or A.view.pairs k no_plant_pair).number
  number_there k within =
      let none : PairNo = record { 0 = 0 } in
      ap (λ (z : List PairNo). get_or z k none) rooms.progress.numbers ∙ get_or-map (λ (p : PlantPair). p.number) A.view.pairs k no_plant_pair none within

  number_of : (x : PairNo) → IsOwnPair A.view x → number_at A.progress.numbers (pair_place A.view x.0) ≡ x
  number_of x own =
      let within : pair_place A.view x.0 < length A.view.pairs = own_within A.view x own in
      let found : (get_or A.view.pairs (pair_place A.view x.0) no_plant_pair).number.0 ≡ x.0 =
      eqb-true (get_or A.view.pairs (pair_place A.view x.0) no_plant_pair).number.0 x.0
      (passes_at_first (λ (p : PlantPair). p.number.0 == x.0) A.view.pairs no_plant_pair within) in
      number_there (pair_place A.view x.0) within ∙ ap (λ (n : ℕ). let z : PairNo = record { 0 = n } in z) found

  pub ready_there : (x : PairNo) → IsOwnPair A.view x → Contains A.progress.ready (pair_place A.view x.0) → Contains (ready_numbers A) x
  ready_there x own (k, within, is) =
      let f : ℕ → PairNo = number_at A.progress.numbers in (
        k,
        omega (arith, within, length-map A.progress.ready f),
        get_or-map f A.progress.ready k (pair_place A.view x.0) x within ∙ ap f is ∙ number_of x own,
      )

  pub ready_place : (x : PairNo) → IsListed A.progress.waits A.progress.planned A.progress.ready → Contains (ready_numbers A) x
      → Contains A.progress.ready (pair_place A.view x.0)
  ready_place x listed (k, within, is) =
      let f : ℕ → PairNo = number_at A.progress.numbers in
      let low : k < length A.progress.ready = omega (arith, within, length-map A.progress.ready f) in
      let y : ℕ = slice_index A.progress.ready k in
      let there : Contains A.progress.ready y = (k, low, get_or_default A.progress.ready k y 0 low) in
      let known : y < length A.view.pairs = omega (arith, ((listed.exact y).0 there).known, rooms.progress.waits) in
      let number : (get_or A.view.pairs y no_plant_pair).number ≡ x =
      sym (number_there y known) ∙ sym (get_or-map f A.progress.ready k 0 x low) ∙ is in
      let same : pair_place A.view x.0 ≡ y =
      place_is_only (λ (p : PlantPair). p.number.0 == x.0) A.view.pairs y no_plant_pair (view.numbers_once x.0) known
      (eq-eqb (get_or A.view.pairs y no_plant_pair).number.0 x.0 (ap (λ (n : PairNo). n.0) number)) in
      subst (Contains A.progress.ready) (sym same) there

-- after one pair is planned the others can be planned as before
pub ready_stays : (A : AgentState) → IsView A.view → HasRooms A → (x : PairNo) → IsOwnPair A.view x → (joins : List Join) (new : Progress)
    → PairSettled joins (pair_place A.view x.0) A.progress new
    → (y : PairNo) → Contains (ready_numbers A) y → (y.0 ≡ x.0 → ⊥) → Contains (map (number_at new.numbers) new.ready) y
ready_stays A view rooms x own joins new settled y (k, within, is) other =
    let f : ℕ → PairNo = number_at A.progress.numbers in
    let g : ℕ → PairNo = number_at new.numbers in
    let low : k < length A.progress.ready = omega (arith, within, length-map A.progress.ready f) in
    let place : ℕ = slice_index A.progress.ready k in
    let there : Contains A.progress.ready place = (k, low, get_or_default A.progress.ready k place 0 low) in
    let number : f place ≡ y = sym (get_or-map f A.progress.ready k 0 y low) ∙ is in
    let apart : place ≡ pair_place A.view x.0 → ⊥ = λ same.
    other (ap (λ (n : PairNo). n.0) (sym number ∙ ap f same ∙ number_of A view rooms x own)) in
    let stays = settled.others place there apart in (
      stays.0,
      omega (arith, stays.1, length-map new.ready g),
      get_or-map g new.ready stays.0 place y stays.1
          ∙ ap g stays.2
          ∙ ap (λ (z : List PairNo). number_at z place) settled.numbers
          ∙ number,
    )
