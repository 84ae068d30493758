use Rattle.std.proofs.Common.{ℕ, ◌+◌, ◌*◌, length, arith, ap, ◌∙◌, subst}
use Rattle.mrp_master_data.specs.Table.{IsTable}
use Rattle.mrp_net.specs.Lanes.{customer_of, supplier_of}
use Rattle.mrp_net.proofs.Growing.{route_fits}
use Rattle.mrp_net.proofs.network.Network.route.Goals as goal

pub overflow_mul-result : goal.overflow_mul-result
overflow_mul-result c =
    omega (
      arith,
      route_fits c.args.self.now c.customer.result.0 (supplier_of c.args.lane) c.plants.result (subst IsTable c.self.view_is c.self.invariant.table)
          (omega (arith, c.customer.ensures, c.requires.customer)) c.requires.supplier c.plants.ensures,
    )

pub overflow_add-result : goal.overflow_add-result
overflow_add-result c =
    omega (
      arith,
      c.supplier.ensures,
      route_fits c.args.self.now c.customer.result.0 (supplier_of c.args.lane) c.plants.result
          (subst IsTable c.self.view_is c.self.invariant.table) (omega (arith, c.customer.ensures, c.requires.customer)) c.requires.supplier c.plants.ensures,
    )

pub returns : goal.returns
returns c =
    let M = c.args.self.now in
    let customer : ℕ = customer_of c.args.lane in
    ap (λ (z : ℕ). z * c.plants.result + c.supplier.result.0) c.customer.ensures
    ∙ ap (λ (z : ℕ). customer * z + c.supplier.result.0) c.plants.ensures
    ∙ ap (λ (z : ℕ). customer * length M.plants + z) c.supplier.ensures
