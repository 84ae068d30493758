use Rattle.std.proofs.Common.{◌≡◌, sum_by, take}
use Rattle.mrp_net.proofs.network.Network.firm_total.Given as goal

-- the pieces of the orders so far
abbrev pub invariant-loop-order : goal.invariant-loop-order
invariant-loop-order l = l.total ≡ sum_by (λ f. f.quantity) (take l.order-index l.order-items)
