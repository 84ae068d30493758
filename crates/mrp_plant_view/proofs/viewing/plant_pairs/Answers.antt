use Rattle.std.proofs.Common.{◌≡◌, ◌≤◌, ◌++◌, ◌∷◌, [], List, length, ap, sym, ◌∙◌, subst}
use Rattle.std.specs.List.{All}
use Rattle.mrp_master_data.specs.declared.numbers.PairNo.{PairNo}
use Rattle.mrp_master_data.specs.Table.{IsPair}
use Rattle.mrp_plant_view.specs.declared.view.PlantPair.{PlantPair}
use Rattle.mrp_plant_view.specs.View.{plant_pair, plant_pairs}
use Rattle.mrp_plant_view.proofs.OwnNumbers.{is_plant_pair, made_all, made_pushed, pairs_are_own}
use Rattle.mrp_plant_view.proofs.Seeing.{pairs_are_pairs, pairs_are_few}
use Rattle.mrp_plant_view.proofs.viewing.plant_pairs.Goals as goal
use Rattle.mrp_plant_view.proofs.viewing.plant_pairs.Goals.{After-loop-number}

-- once all numbers are looked at, the pairs are the plant's
all_seen : (c : After-loop-number) → c.loop-number.pairs.items ≡ plant_pairs c.args.network.now c.args.plant.0
all_seen c =
    let N = c.args.network.now in
    pairs_are_own N c.args.plant.0 c.pairs_of-numbers.result.now c.loop-number.pairs.items c.pairs_of-numbers.ensures.value
    (made_all (λ (x : PairNo). plant_pair N x.0) c.pairs_of-numbers.result.now c.loop-number.number-index c.loop-number.pairs.items c.loop-number-test.false
    c.loop-number.invariant)

pub loop-number-init : goal.loop-number-init
loop-number-init c = c.in_ok-pairs.ensures.items

pub loop-number-preserved : goal.loop-number-preserved
loop-number-preserved c =
    let N = c.args.network.now in
    made_pushed (λ (x : PairNo). plant_pair N x.0) c.pairs_of-numbers.result.now c.loop-number.number-index _ c.loop-number.pairs.items _ c.loop-number-test.true
    c.loop-number.invariant
    (c.in_ok-push.ensures.items ∙ ap (λ (p : PlantPair). c.loop-number.pairs.items ++ p ∷ []) (is_plant_pair N _ c.pair-row.result _ _ c.pair-row.ensures c.params.ensures c.policy.ensures))

pub returns-clause-value : goal.returns-clause-value
returns-clause-value c = all_seen (goal.at.returns-clause-value c).After-loop-number

pub returns-clause-pairs : goal.returns-clause-pairs
returns-clause-pairs c =
    let N = c.args.network.now in
    subst (λ (z : List PlantPair). All (λ (p : PlantPair). IsPair N p.number.0) z) (sym (all_seen (goal.at.returns-clause-pairs c).After-loop-number))
    (pairs_are_pairs N c.args.plant.0)

pub returns-clause-few : goal.returns-clause-few
returns-clause-few c =
    let N = c.args.network.now in
    subst (λ (z : List PlantPair). length z ≤ length N.pairs) (sym (all_seen (goal.at.returns-clause-few c).After-loop-number))
    (pairs_are_few N c.args.plant.0)
