use Rattle.std.proofs.Common.{◌≡◌, ◌+◌, ◌*◌, ◌≤◌, take}
use Rattle.std.specs.List.{sum_by}
use Rattle.mrp_qty.specs.declared.limits.TheConstants.{MOST_OF_A_KIND}
use Rattle.mrp_net.specs.Lanes.{lane_at}
use Rattle.mrp_net.specs.Texts.{longest_block}
use Rattle.mrp_net.proofs.network.Network.longest_text.Given as goal

abbrev pub invariant-loop-item : goal.invariant-loop-item
invariant-loop-item l = record {
  sum : l.records ≡ sum_by (longest_block l.self (lane_at l.self l.l.0)) (take l.item-index l.item-items) + 1;
  few : l.records ≤ l.item-index * (MOST_OF_A_KIND + 2) + 1;
}
