use Rattle.std.proofs.Common.{◌≡◌, ◌<◌, ◌∙◌, ℕ, List, length, map, sym, ap, subst, arith, false, replicate}
use Rattle.std.specs.List.{All, flat_map}
use Rattle.std.proofs.lemmas.List.{length-map}
use Rattle.mrp_master_data.specs.declared.numbers.PairNo.{PairNo}
use Rattle.mrp_readiness.specs.Counts.{AreFirstCounts}
use Rattle.mrp_readiness.specs.Progress.{times}
use Rattle.mrp_plant_view.specs.declared.view.IncomingLane.{IncomingLane}
use Rattle.mrp_plant_view.specs.declared.view.PlantPair.{PlantPair}
use Rattle.mrp_plant_view.specs.Seen.{IsIncomingLane}
use Rattle.mrp_agent.specs.Making.{awaited_places, place_awaited}
use Rattle.mrp_agent.proofs.Made.{awaited_known}
use Rattle.mrp_agent.proofs.making.first_progress.Goals as goal
use Rattle.mrp_agent.proofs.making.first_progress.Goals.{After-len}

numbers_are : (c : After-len) → length c.in_ok-numbers.numbers.items ≡ length c.args.view.now.pairs
numbers_are c = ap (λ (z : List PairNo). length z) c.in_ok-numbers.ensures ∙ length-map c.args.view.now.pairs (λ (p : PlantPair). p.number)

pairs_are : (c : After-len) → c.len.result ≡ length c.args.view.now.pairs
pairs_are c = omega (arith, c.len.ensures, c.in_ok-numbers.numbers.ok.0, numbers_are c)

pub first_waits-requires-clause-awaited : goal.first_waits-requires-clause-awaited
first_waits-requires-clause-awaited c =
    let pairs = pairs_are (goal.at.first_waits-requires-clause-awaited c).After-len in
    let places : c.deref.result.now ≡ awaited_places c.args.view.now =
    c.deref.ensures.value ∙ c.in_ok-awaited.ensures ∙ ap (λ (z : List IncomingLane). flat_map (λ lane. map (place_awaited c.args.view.now) lane.items) z)
    c.incoming.ensures in
    subst (λ (n : ℕ). All (λ y. y < n) c.deref.result.now) (sym pairs)
    (subst (λ (z : List ℕ). All (λ y. y < length c.args.view.now.pairs) z) (sym places)
    (awaited_known c.args.view.now c.args.view.now.incoming c.requires.lanes))

pub returns-clause-waits : goal.returns-clause-waits
returns-clause-waits c =
    let places : c.deref.result.now ≡ awaited_places c.args.view.now =
    c.deref.ensures.value ∙ c.in_ok-awaited.ensures ∙ ap (λ (z : List IncomingLane). flat_map (λ lane. map (place_awaited c.args.view.now) lane.items) z)
    c.incoming.ensures in
    c.in_ok-new.ensures.counts c.args.joins.now (λ y. times y (awaited_places c.args.view.now))
    (subst (λ (z : List ℕ). AreFirstCounts c.in_ok-waits.waits.items c.args.joins.now (λ y. times y z)) places c.in_ok-waits.ensures.counts)

pub awaited_places-requires : goal.awaited_places-requires
awaited_places-requires c = subst (λ (z : List IncomingLane). All (IsIncomingLane c.args.view.now) z) (sym c.incoming.ensures) c.requires.lanes

pub first_waits-requires-clause-few : goal.first_waits-requires-clause-few
first_waits-requires-clause-few c = omega (arith, c.requires.few, c.deref.type_inv.1)

pub first_waits-requires-clause-joins : goal.first_waits-requires-clause-joins
first_waits-requires-clause-joins c =
    let pairs = pairs_are (goal.at.first_waits-requires-clause-joins c).After-len in
    subst (λ (n : ℕ). All (λ j. j.component < n) c.args.joins.now) (sym pairs) c.requires.joins

pub new-requires : goal.new-requires
new-requires c =
    let at = (goal.at.new-requires c).After-len in
    c.in_ok-waits.ensures.size ∙ pairs_are at ∙ sym (ap (λ (z : List PairNo). length z) c.deref-2.ensures.value ∙ numbers_are at)

pub returns-clause-numbers : goal.returns-clause-numbers
returns-clause-numbers c = c.in_ok-new.ensures.numbers ∙ c.deref-2.ensures.value ∙ c.in_ok-numbers.ensures

pub returns-clause-planned : goal.returns-clause-planned
returns-clause-planned c =
    let at = (goal.at.returns-clause-planned c).After-len in
    c.in_ok-new.ensures.planned ∙ ap (λ (n : ℕ). replicate n false) (ap (λ (z : List PairNo). length z) c.deref-2.ensures.value ∙ numbers_are at)

pub returns-clause-size : goal.returns-clause-size
returns-clause-size c =
    let at = (goal.at.returns-clause-size c).After-len in
    ap (λ (z : List ℕ). length z) c.in_ok-new.ensures.waits ∙ c.in_ok-waits.ensures.size ∙ pairs_are at
