use Rattle.std.proofs.Common.{◌≡◌, ◌≤◌, ◌*◌, sum, take}
use Rattle.mrp_qty.specs.declared.quantity.TheConstants.{MOST}
use Rattle.mrp_qty.proofs.row.Row.total.Given as goal

-- the sum so far, which no more than so many quantities make
abbrev pub invariant-loop-quantity : goal.invariant-loop-quantity
invariant-loop-quantity l = record {
  so_far : l.total ≡ sum (take l.quantity-index l.quantity-items);
  within : l.total ≤ MOST * l.quantity-index;
}
