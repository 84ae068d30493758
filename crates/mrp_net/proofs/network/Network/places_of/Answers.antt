use Rattle.std.proofs.Common.{arith, ap, ◌∙◌, subst}
use Rattle.mrp_master_data.specs.Table.{horizon, IsTable}
use Rattle.mrp_net.proofs.Summing.{place_fits}
use Rattle.mrp_net.proofs.network.Network.places_of.Goals as goal
use Rattle.mrp_master_data.proofs.LimitFacts.{any_limited}

pub overflow_add-result : goal.overflow_add-result
overflow_add-result c = omega (arith, (any_limited c.args.self.now (subst IsTable c.self.view_is c.self.invariant.table).read.limits).pairs, c.requires)

pub overflow_mul-result-2 : goal.overflow_mul-result-2
overflow_mul-result-2 c =
    let w = c.get-periods.ensures.value ∙ c.horizon.ensures.value ∙ ap horizon c.self.view_is in
    omega (arith, place_fits c.args.self.now c.args.x.0 c.get-periods.result (subst IsTable c.self.view_is c.self.invariant.table) c.requires w)

pub overflow_mul-result : goal.overflow_mul-result
overflow_mul-result c =
    let w = c.get-periods.ensures.value ∙ c.horizon.ensures.value ∙ ap horizon c.self.view_is in
    omega (arith, place_fits c.args.self.now c.args.x.0 c.get-periods.result (subst IsTable c.self.view_is c.self.invariant.table) c.requires w)
