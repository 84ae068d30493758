use Rattle.std.proofs.Common.{◌≡◌, ℕ, List, sum_by, refl, ap, ◌∙◌, arith}
use Rattle.std.proofs.lemmas.List.{take_all}
use Rattle.std.proofs.lemmas.List.Sums.{sum_by_more, sum_by_more_le}
use Rattle.mrp_master_data.specs.declared.rows.FirmRow.{FirmRow}
use Rattle.mrp_master_data.specs.Table.{Table}
use Rattle.mrp_net.specs.FirmOrders.{firm_total, firms_of}
use Rattle.mrp_net.proofs.Firms.{firm_total-is}
use Rattle.mrp_net.proofs.Summing.{firm_total_within}
use Rattle.mrp_net.proofs.network.Network.firm_total.Goals as goal

-- all orders of the pair
all_orders : (N : Table) (x : ℕ) (orders : List FirmRow) → orders ≡ firms_of N x → sum_by (λ f. f.quantity) orders ≡ firm_total N x
all_orders N x orders are = ap (λ (fs : List FirmRow). sum_by (λ f. f.quantity) fs) are ∙ firm_total-is N x

pub loop-order-init : goal.loop-order-init
loop-order-init c = refl

pub overflow_add-total : goal.overflow_add-total
overflow_add-total c =
    omega (
      arith,
      c.loop-order.invariant,
      c.get-total.ensures.value,
      ap (λ (f : FirmRow). f.quantity) c.order-item.is,
      sum_by_more_le (λ (f : FirmRow). f.quantity) c.firm_orders-order-items.result.now c.loop-order.order-index c.order-item.result c.loop-order-test.true,
      all_orders c.args.self.now c.args.x.0 c.firm_orders-order-items.result.now c.firm_orders-order-items.ensures.value,
      firm_total_within c.args.self.now c.pairs-pairs.ensures.table c.args.x.0,
    )

pub loop-order-preserved : goal.loop-order-preserved
loop-order-preserved c =
    omega (
      arith,
      c.loop-order.invariant,
      c.get-total.ensures.value,
      ap (λ (f : FirmRow). f.quantity) c.order-item.is,
      sum_by_more (λ (f : FirmRow). f.quantity) c.firm_orders-order-items.result.now c.loop-order.order-index c.order-item.result c.loop-order-test.true,
    )

pub returns : goal.returns
returns c =
    let end = take_all c.loop-order.order-index c.firm_orders-order-items.result.now (omega (arith, c.loop-order-test.false)) in
    c.loop-order.invariant ∙ ap (λ (fs : List FirmRow). sum_by (λ f. f.quantity) fs) end
    ∙ all_orders c.args.self.now c.args.x.0 c.firm_orders-order-items.result.now c.firm_orders-order-items.ensures.value
