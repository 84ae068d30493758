-- The agent: the places that it has for its plant's own pairs.
use Rattle.std.proofs.Common.{◌≡◌, ℕ, ◌<◌, ◌==◌, eqb, Option, Some, IsSome, length, position, rules, sym, ap, ◌∙◌, subst}
use Rattle.std.proofs.lemmas.Bool.{eq-eqb}
use Rattle.mrp_master_data.specs.declared.numbers.PairNo.{PairNo}
use Rattle.mrp_master_data.specs.declared.numbers.ItemNo.{ItemNo}
use Rattle.mrp_plant_view.specs.declared.view.PlantPair.{PlantPair}
use Rattle.mrp_plant_view.specs.Seen.{IsOwnPair, IsOwnOf}
use Rattle.mrp_plant_view.specs.View.{PlantRows}
use Rattle.mrp_agent.specs.State.{pair_place}
use Rattle.mrp_agent.proofs.Looking.{place_found, place_known}

pub own_within : (V : PlantRows) (x : PairNo) → IsOwnPair V x → pair_place V x.0 < length V.pairs
own_within V x (p, there, is) =
    place_found (λ (q : PlantPair). eqb q.number.0 x.0) V.pairs p there (eq-eqb p.number.0 x.0 (ap (λ (n : PairNo). n.0) is))

pub own_found : (V : PlantRows) (x : PairNo) → IsOwnPair V x → position (λ p. p.number.0 == x.0) V.pairs ≡ Some (pair_place V x.0)
own_found V x own = place_known (λ (q : PlantPair). eqb q.number.0 x.0) V.pairs (own_within V x own)

pub own_known : (V : PlantRows) (x : PairNo) (o : Option ℕ) → IsOwnPair V x → o ≡ position (λ p. p.number.0 == x.0) V.pairs → IsSome o
own_known V x o own e = subst (λ (z : Option ℕ). IsSome z) (sym (e ∙ own_found V x own)) (search rules)

pub own_place_is : (V : PlantRows) (x : PairNo) (o : Option ℕ) (k : ℕ) → IsOwnPair V x → o ≡ position (λ p. p.number.0 == x.0) V.pairs → o ≡ Some k
    → k ≡ pair_place V x.0
own_place_is V x o k own e is =
    let same : Some k ≡ Some (pair_place V x.0) = sym is ∙ e ∙ own_found V x own in
    cc same

pub own_of_item : (V : PlantRows) (x : PairNo) (item : ItemNo) → IsOwnOf V x item → IsOwnPair V x
own_of_item V x item (p, there, is, of_item) = (p, there, is)
