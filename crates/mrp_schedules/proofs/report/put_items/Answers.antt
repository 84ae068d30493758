use Rattle.std.proofs.Common.{◌≡◌, ◌++◌, ◌∙◌, List, ap, arith, take}
use Rattle.std.specs.List.{flat_map}
use Rattle.std.proofs.lemmas.List.{take_all}
use Rattle.mrp_master_data.specs.declared.numbers.ItemNo.{ItemNo}
use Rattle.mrp_master_data.specs.Table.{Table}
use Rattle.mrp_net.specs.Lanes.{lane_at, lane_items}
use Rattle.mrp_csv_out.specs.Writing.{written}
use Rattle.mrp_schedules.specs.ScheduleRows.{item_text, lane_schedule_text}
use Rattle.mrp_schedules.proofs.report.put_items.Goals as goal

pub returns-clause-rows : goal.returns-clause-rows
unfolding lane_schedule_text
returns-clause-rows c =
    let N = c.args.report.now.net.now.network in
    let at_end : take c.items.item-index c.lane_items-items.result.now ≡ c.lane_items-items.result.now = take_all _ _ (omega arith) in
    c.items.invariant.so_far
    ∙ ap (λ (items : List ItemNo). written c.args.rows.now ++ flat_map (item_text N (lane_at N c.args.lane.0)) items)
    (at_end ∙ c.lane_items-items.ensures.value ∙ ap (λ (M : Table). lane_items M (lane_at M c.args.lane.0)) c.network.ensures.value)
