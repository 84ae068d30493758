use Rattle.std.proofs.Common.{◌≡◌, ◌<◌, ℕ, List, length, slice_index_or, sym, ap, ◌∙◌, subst}
use Rattle.std.specs.List.{All}
use Rattle.mrp_master_data.specs.declared.numbers.PairNo.{PairNo}
use Rattle.mrp_master_data.specs.declared.rows.PairRow.{PairRow}
use Rattle.mrp_net.specs.Plants.{pair_numbers}
use Rattle.mrp_net.specs.Sums.{no_pair}
use Rattle.mrp_net.proofs.OfPlants.{all_numbers, pairs_have_plants}
use Rattle.mrp_net.proofs.plants.pairs_by_plant.Goals as goal

pub group-requires-clause-has : goal.group-requires-clause-has
group-requires-clause-has c =
    let n = length c.pairs-pairs.result.now in
    subst (λ (xs : List PairNo). All (λ (x : PairNo). x.0 < n) xs) (sym (c.as_slice.ensures.value ∙ c.in_ok-numbers.ensures))
    (all_numbers (λ x. record { 0 = x }) (λ (x : PairNo). x.0 < n) n (λ x below. below))

pub group-requires-clause-keys : goal.group-requires-clause-keys
group-requires-clause-keys c =
    let N = c.args.tables.now in
    let pairs_are : c.pairs-pairs.result.now ≡ N.pairs = c.pairs-pairs.ensures.value ∙ ap (λ z. z.pairs) c.rows-rows.ensures.value in
    let plants_are : c.plants.result ≡ length N.plants = c.plants.ensures.value ∙ ap (λ z. length z.plants) c.rows-rows.ensures.value in
    let keys : All (λ (x : PairNo). (slice_index_or c.pairs-pairs.result.now x.0 no_pair).plant.0 < length N.plants)
    (pair_numbers (length c.pairs-pairs.result.now)) =
    subst (λ (rows : List PairRow). All (λ (x : PairNo). (slice_index_or rows x.0 no_pair).plant.0 < length N.plants) (pair_numbers (length rows)))
    (sym pairs_are) (pairs_have_plants N c.rows-rows.ensures.table) in
    subst (λ (xs : List PairNo). All (λ (x : PairNo). (slice_index_or c.pairs-pairs.result.now x.0 no_pair).plant.0 < c.plants.result) xs)
    (sym (c.as_slice.ensures.value ∙ c.in_ok-numbers.ensures))
    (subst (λ (n : ℕ). All (λ (x : PairNo). (slice_index_or c.pairs-pairs.result.now x.0 no_pair).plant.0 < n) (pair_numbers (length c.pairs-pairs.result.now)))
    (sym plants_are) keys)
