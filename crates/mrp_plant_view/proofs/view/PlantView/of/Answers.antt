use Rattle.std.proofs.Common.{List, map, sym, ap, ◌∙◌, subst}
use Rattle.std.specs.List.{flat_map}
use Rattle.mrp_plant_view.specs.declared.view.PlantPair.{PlantPair}
use Rattle.mrp_net.specs.FirmOrders.{firms_of}
use Rattle.mrp_net.specs.Sums.{row_of, demand, received_when_due, received_sooner}
use Rattle.mrp_net.specs.Usages.{usages_to}
use Rattle.mrp_plant_view.specs.View.{NumbersRise, edges_to}
use Rattle.mrp_plant_view.proofs.OwnEdges.{numbers_rise}
use Rattle.mrp_plant_view.proofs.Pushing.{rows_are}
use Rattle.mrp_plant_view.proofs.view.PlantView.of.Goals as goal

pub returns : goal.returns
returns c =
    let N = c.args.network.now in
    rows_are N c.args.plant.0 c.horizon.result c.in_ok-pairs.pairs.items c.in_ok-edges.edges.items c.of.result.value.items c.of-2.result.value.items
    c.in_ok-firms.firms c.in_ok-sooner.sooner c.in_ok-usages.usages
    c.in_ok-incoming.incoming.items c.in_ok-outgoing.outgoing.items
    c.horizon.ensures
    c.in_ok-pairs.ensures.value
    (c.in_ok-edges.ensures ∙ ap (flat_map (λ (p : PlantPair). edges_to N p.number.0)) c.as_slice.ensures.value)
    (ap (λ v. v.items) c.of.ensures ∙ c.in_ok-demands.ensures ∙ ap (flat_map (λ (p : PlantPair). row_of N (demand N p.number.0))) c.as_slice-2.ensures.value)
    (ap (λ v. v.items) c.of-2.ensures ∙ c.in_ok-receipts.ensures
    ∙ ap (flat_map (λ (p : PlantPair). row_of N (received_when_due N p.number.0))) c.as_slice-3.ensures.value)
    (c.in_ok-firms.ensures ∙ ap (map (λ (p : PlantPair). firms_of N p.number.0)) c.as_slice-4.ensures.value)
    (c.in_ok-sooner.ensures ∙ ap (map (λ (p : PlantPair). received_sooner N p.number.0)) c.as_slice-5.ensures.value)
    (c.in_ok-usages.ensures ∙ ap (map (λ (p : PlantPair). usages_to N p.number.0)) c.as_slice-6.ensures.value)
    c.in_ok-incoming.ensures
    c.in_ok-outgoing.ensures

pub invariant_of-frame : goal.invariant_of-frame
invariant_of-frame c = subst (λ (z : List PlantPair). NumbersRise z) (sym c.in_ok-pairs.ensures.value) (numbers_rise c.args.network.now c.args.plant.0)

pub invariant_of-result : goal.invariant_of-result
invariant_of-result c = (ap (λ v. v.items) c.of.ensures, ap (λ v. v.items) c.of-2.ensures)
