use Rattle.std.proofs.Common.{◌≡◌, ◌++◌, ◌<◌, ℕ, List, length, map, rules, sym, ap, ◌∙◌}
use Rattle.std.specs.List.{range_with_len}
use Rattle.mrp_qty.proofs.RangeLaws.{map-range-same}
use Rattle.mrp_master_data.specs.Table.{horizon}
use Rattle.mrp_net.specs.Policies.{policy_of}
use Rattle.mrp_net.specs.Sums.{received_when_due}
use Rattle.mrp_net.proofs.Sooner.{when_due-none}
use Rattle.mrp_plant_view.proofs.PairRows.{zeroes_added}
use Rattle.mrp_plant_view.proofs.amounts.add_receipts.Goals as goal

pub returns-in_ok-resize : goal.returns-in_ok-resize
returns-in_ok-resize c =
    let N = c.args.network.now in
    let old : List ℕ = c.args.amounts.now.items in
    let size : c.len.result ≡ length old = search rules in
    let some : 0 < (policy_of N c.args.x.0).sooner = search rules in
    let periods : c.get-periods.result ≡ horizon N = search rules in
    zeroes_added old _ c.get-periods.result c.len.result _ size c.len.ensures c.in_ok-resize.ensures.items
    ∙ ap (λ (n : ℕ). old ++ map (λ (t : ℕ). 0) (range_with_len 0 n)) periods
    ∙ ap (λ (z : List ℕ). old ++ z) (sym (map-range-same (received_when_due N c.args.x.0) (λ t. 0) (horizon N) (λ t h. when_due-none N c.args.x.0 t some)))
