use Rattle.std.proofs.Common.{◌≡◌, ℕ, ◌+◌, ◌*◌, ◌<◌, List, ◌++◌, length, get_or, arith, sym, ap, ◌∙◌}
use Rattle.std.proofs.lemmas.List.{append-nil, get_or_read}
use Rattle.std.specs.List.{flat_map, range_with_len}
use Rattle.mrp_net.specs.declared.lane.Lane.{Lane}
use Rattle.mrp_net.specs.Lanes.{lanes_between}
use Rattle.mrp_net.specs.Routes.{route_no}
use Rattle.mrp_net.proofs.Routing.{lanes_more, no_lanes, some_lanes, items_length, route_within}
use Rattle.mrp_net.proofs.Growing.{route_fits}
use Rattle.mrp_net.proofs.lanes.add_lanes.Goals as goal
use Rattle.mrp_net.proofs.lanes.add_lanes.Goals.{then-index+in_ok-add_both, else-index}

pub loop-supplier-init : goal.loop-supplier-init
loop-supplier-init c = sym (append-nil c.args.lanes.now.items)

pub overflow_mul-route : goal.overflow_mul-route
overflow_mul-route c =
    let N = c.args.tables.now in
    let plants_are = c.plants-plants.ensures.value ∙ ap (λ z. length z.plants) c.rows.ensures.value in
    omega (
      arith,
      route_fits N c.args.customer c.loop-supplier.supplier c.plants-plants.result c.rows.ensures.table c.requires.plant
          (omega (arith, c.loop-supplier-test.true, plants_are)) plants_are,
    )

pub overflow_add-route : goal.overflow_add-route
overflow_add-route c =
    let N = c.args.tables.now in
    let plants_are = c.plants-plants.ensures.value ∙ ap (λ z. length z.plants) c.rows.ensures.value in
    omega (
      arith,
      route_fits N c.args.customer c.loop-supplier.supplier c.plants-plants.result c.rows.ensures.table c.requires.plant
          (omega (arith, c.loop-supplier-test.true, plants_are)) plants_are,
    )

pub overflow_add-route-in-loop-supplier : goal.overflow_add-route-in-loop-supplier
overflow_add-route-in-loop-supplier c =
    let N = c.args.tables.now in
    let plants_are = c.plants-plants.ensures.value ∙ ap (λ z. length z.plants) c.rows.ensures.value in
    omega (
      arith,
      route_fits N c.args.customer c.loop-supplier.supplier c.plants-plants.result c.rows.ensures.table c.requires.plant
          (omega (arith, c.loop-supplier-test.true, plants_are)) plants_are,
    )

pub index-requires : goal.index-requires
index-requires c =
    let N = c.args.tables.now in
    let plants_are = c.plants-plants.ensures.value ∙ ap (λ z. length z.plants) c.rows.ensures.value in
    let small : c.loop-supplier.supplier < length N.plants = omega (arith, c.loop-supplier-test.true, plants_are) in
    let place : c.args.customer * c.plants-plants.result + c.loop-supplier.supplier ≡ route_no N c.args.customer c.loop-supplier.supplier =
    ap (λ (z : ℕ). c.args.customer * z + c.loop-supplier.supplier) plants_are in
    omega (arith, place, route_within N c.args.customer c.loop-supplier.supplier c.requires.plant small, c.requires.items.size, c.args.items.now.starts.ok.0)

pub index-requires-in-loop-supplier : goal.index-requires-in-loop-supplier
index-requires-in-loop-supplier c =
    let N = c.args.tables.now in
    let plants_are = c.plants-plants.ensures.value ∙ ap (λ z. length z.plants) c.rows.ensures.value in
    let small : c.loop-supplier.supplier < length N.plants = omega (arith, c.loop-supplier-test.true, plants_are) in
    let place : c.args.customer * c.plants-plants.result + c.loop-supplier.supplier ≡ route_no N c.args.customer c.loop-supplier.supplier =
    ap (λ (z : ℕ). c.args.customer * z + c.loop-supplier.supplier) plants_are in
    omega (arith, place, route_within N c.args.customer c.loop-supplier.supplier c.requires.plant small, c.requires.items.size, c.args.items.now.starts.ok.0)

pub loop-supplier-preserved : goal.loop-supplier-preserved
loop-supplier-preserved c =
    let N = c.args.tables.now in
    let plants_are = c.plants-plants.ensures.value ∙ ap (λ z. length z.plants) c.rows.ensures.value in
    let customer : ℕ = c.args.customer in
    let supplier : ℕ = c.loop-supplier.supplier in
    let starts : List ℕ = c.args.items.now.starts.items in
    let small : supplier < length N.plants = omega (arith, plants_are) in
    let place : customer * c.plants-plants.result + supplier ≡ route_no N customer supplier =
    ap (λ (z : ℕ). customer * z + supplier) plants_are in
    let within : route_no N customer supplier + 1 < length starts =
    omega (arith, route_within N customer supplier c.requires.plant small, c.requires.items.size) in
    let here : c.index.result.now ≡ get_or starts (route_no N customer supplier) 0 =
    get_or_read starts (customer * c.plants-plants.result + supplier) c.index.result.now (omega arith) c.index.ensures 0
    ∙ ap (λ (z : ℕ). get_or starts z 0) place in
    let next : c.index-in-loop-supplier.result.now ≡ get_or starts (route_no N customer supplier + 1) 0 =
    get_or_read starts (customer * c.plants-plants.result + supplier + 1) c.index-in-loop-supplier.result.now
    (omega arith) c.index-in-loop-supplier.ensures 0 ∙ ap (λ (z : ℕ). get_or starts (z + 1) 0) place in
    let long = items_length N c.args.items.now.rows.items starts customer supplier c.rows.ensures.table c.requires.items c.requires.plant small in
    elim c.if-index.branch [
      | then-index+in_ok-add_both w ↦
          lanes_more N c.args.lanes.now.items c.loop-supplier.lanes.items c.if-index.lanes.items customer supplier c.loop-supplier.invariant
          (ap (λ z. z.items) w.lanes-is ∙ w.in_ok-add_both.ensures
          ∙ ap (λ (z : List Lane). c.loop-supplier.lanes.items ++ z)
          (sym (some_lanes N customer supplier (omega (arith, here, next, long, w.if-index.true)))))
      | else-index w ↦
          lanes_more N c.args.lanes.now.items c.loop-supplier.lanes.items c.if-index.lanes.items customer supplier c.loop-supplier.invariant
          (ap (λ z. z.items) w.lanes-is ∙ sym (append-nil c.loop-supplier.lanes.items)
          ∙ ap (λ (z : List Lane). c.loop-supplier.lanes.items ++ z)
          (sym (no_lanes N customer supplier (omega (arith, here, next, long, w.if-index.false)))))
    ]

pub returns : goal.returns
returns c =
    let N = c.args.tables.now in
    let all : c.loop-supplier.supplier ≡ c.plants-plants.result = omega (arith, c.loop-supplier-test.false, c.loop-supplier.auto.supplier-end) in
    c.loop-supplier.invariant ∙ ap (λ (z : ℕ). c.args.lanes.now.items ++ flat_map (lanes_between N c.args.customer) (range_with_len 0 z)) (all
    ∙ (c.plants-plants.ensures.value ∙ ap (λ z. length z.plants) c.rows.ensures.value))
