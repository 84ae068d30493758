use Rattle.std.proofs.Common.{◌≡◌, [], rules}
use Rattle.std.proofs.lemmas.Option.{get_or_from_slice_get}
use Rattle.mrp_report.specs.Lanes.{figure_row}
use Rattle.mrp_master_data.specs.Said.{item_name, plant_name}
use Rattle.mrp_report.proofs.lanes.put_figure.Goals as goal

pub returns-clause-row : goal.returns-clause-row
unfolding figure_row
returns-clause-row c =
    let N = c.args.network.now in
    let sender : plant_name N c.lane-lane.result.sender.0 ≡ c.plant_name.result.now =
    get_or_from_slice_get N.plants _ c.plant_name.result.now [] c.plant_name.ensures in
    let receiver : plant_name N c.lane-lane.result.receiver.0 ≡ c.plant_name-2.result.now =
    get_or_from_slice_get N.plants _ c.plant_name-2.result.now [] c.plant_name-2.ensures in
    let item : item_name N c.args.figure.item.0 ≡ c.item_name.result.now = get_or_from_slice_get N.items _ c.item_name.result.now [] c.item_name.ensures in
    rw (← c.lane-lane.ensures.value, sender, receiver, item) (search rules)
