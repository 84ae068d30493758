use Rattle.std.proofs.Common.{◌≡◌, ◌+◌, drop}
use Rattle.mrp_net.specs.FirmOrders.{due_in}
use Rattle.mrp_shortages.proofs.shortage.firm_pieces.Given as goal

-- the pieces so far and those of the orders that are left are all
abbrev pub invariant-orders : goal.invariant-orders
invariant-orders l = l.pieces + due_in (drop l.order-index l.orders) 0 ≡ due_in l.orders 0
