use Rattle.std.proofs.Common.{◌≡◌, ℕ, List, ◌++◌, length, arith, sym, ap, ◌∙◌}
use Rattle.std.specs.List.{flat_map, range_with_len}
use Rattle.mrp_net.specs.declared.lane.Lane.{Lane}
use Rattle.mrp_net.specs.Lanes.{lanes_of}
use Rattle.mrp_net.proofs.Routing.{flat_map-range-more}
use Rattle.mrp_net.proofs.lanes.all_lanes.Goals as goal

pub loop-customer-preserved : goal.loop-customer-preserved
loop-customer-preserved c =
    let N = c.args.tables.now in
    c.in_ok-add_lanes.ensures
    ∙ ap (λ (z : List Lane). z ++ lanes_of N c.loop-customer.customer) c.loop-customer.invariant
    ∙ sym (flat_map-range-more (lanes_of N) c.loop-customer.customer)

pub returns : goal.returns
returns c =
    let plants_are = c.plants-customer-end.ensures.value ∙ ap (λ z. length z.plants) c.rows.ensures.value in
    let e : c.loop-customer.customer ≡ c.plants-customer-end.result = omega arith in
    c.loop-customer.invariant ∙ ap (λ (z : ℕ). flat_map (lanes_of c.args.tables.now) (range_with_len 0 z)) (e ∙ plants_are)
