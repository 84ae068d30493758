use Rattle.std.proofs.Common.{◌++◌, List, ap, subst, sym, ◌∙◌}
use Rattle.std.specs.Prelude.{Contains}
use Rattle.mrp_master_data.specs.Table.{Table}
use Rattle.mrp_net.specs.Lanes.{lane_at, lane_items}
use Rattle.mrp_schedules.specs.declared.line.ScheduleLine.{ScheduleLine}
use Rattle.mrp_schedules.specs.Schedule.{schedule_of}
use Rattle.mrp_schedules.proofs.schedule.add_schedule.Goals as goal

pub add_lines-requires-clause-item : goal.add_lines-requires-clause-item
add_lines-requires-clause-item c =
    subst (λ (N : Table). Contains (lane_items N (lane_at N c.args.lane.0)) c.args.item) (sym c.network-network.ensures.value) c.requires.item

pub returns-clause-lines : goal.returns-clause-lines
returns-clause-lines c =
    let N = c.args.net.now.network in
    c.add_lines.ensures.lines
    ∙ ap (λ (N : Table). c.make_room.new.lines.items ++ schedule_of N (lane_at N c.args.lane.0) c.args.item) c.network-network.ensures.value
    ∙ ap (λ (z : List ScheduleLine). z ++ schedule_of N (lane_at N c.args.lane.0) c.args.item) c.make_room.ensures.kept
