use Rattle.std.proofs.Common.{◌<◌, List, length, sym, ap, ◌∙◌, subst}
use Rattle.std.specs.List.{All}
use Rattle.mrp_net.specs.declared.lane.Lane.{Lane}
use Rattle.mrp_net.specs.declared.lane.LaneNo.{LaneNo}
use Rattle.mrp_net.proofs.OfPlants.{lanes_are_there, lanes_have_senders, lane_keys, lanes_grouped}
use Rattle.mrp_net.proofs.plants.lanes_by_sender.Goals as goal

pub group-requires-clause-has : goal.group-requires-clause-has
group-requires-clause-has c =
    let n = length c.args.all.now in
    subst (λ (xs : List LaneNo). All (λ (l : LaneNo). l.0 < n) xs) (sym (c.as_slice.ensures.value ∙ c.in_ok-numbers.ensures)) (lanes_are_there n)

pub group-requires-clause-keys : goal.group-requires-clause-keys
group-requires-clause-keys c =
    let N = c.args.tables.now in
    lane_keys (λ (l : Lane). l.sender.0) N c.args.all.now c.as_slice.result.now c.plants-plants.result (lanes_have_senders N) c.requires
    (c.as_slice.ensures.value ∙ c.in_ok-numbers.ensures) (c.plants-plants.ensures.value ∙ ap (λ z. length z.plants) c.rows.ensures.value)

pub returns : goal.returns
returns c =
    let N = c.args.tables.now in
    lanes_grouped (λ (l : Lane). l.sender.0) N c.args.all.now c.as_slice.result.now c.in_ok-groups.groups.rows.items c.in_ok-groups.groups.starts.items
    c.plants-plants.result c.in_ok-groups.ensures c.requires
    (c.as_slice.ensures.value ∙ c.in_ok-numbers.ensures) (c.plants-plants.ensures.value ∙ ap (λ z. length z.plants) c.rows.ensures.value)
