use Rattle.std.proofs.Common.{◌≤◌, ◌++◌, ◌∙◌, List, length, ap, arith}
use Rattle.std.specs.List.{flat_map}
use Rattle.std.proofs.lemmas.List.{take_all}
use Rattle.mrp_master_data.specs.Table.{Table}
use Rattle.mrp_net.specs.declared.lane.Lane.{Lane}
use Rattle.mrp_net.specs.Lanes.{lanes}
use Rattle.mrp_csv_out.specs.Writing.{written}
use Rattle.mrp_schedules.specs.ItemRows.{asked_text}
use Rattle.mrp_commands.specs.Given.{name_of}
use Rattle.mrp_schedules.specs.ScheduleRows.{lanes_text}
use Rattle.mrp_schedules.proofs.RowFacts.{asked_are_kept}
use Rattle.mrp_schedules.proofs.report.put_lanes.Goals as goal

pub returns-clause-rows : goal.returns-clause-rows
unfolding lanes_text
returns-clause-rows c =
    let N = c.args.report.now.net.now.network in
    let from = name_of c.args.report.now.from in
    let to = name_of c.args.report.now.to in
    let all : length (lanes N) ≤ c.lanes.l = omega (arith, ap (λ (M : Table). length (lanes M)) c.network.ensures.value) in
    c.lanes.invariant.so_far
    ∙ ap (λ (ls : List Lane). written c.args.rows.now ++ flat_map (asked_text from to N) ls) (take_all c.lanes.l (lanes N) all)
    ∙ ap (λ text. written c.args.rows.now ++ text) (asked_are_kept from to N (lanes N))
