use Rattle.std.specs.Prelude.{codes}
use Rattle.mrp_command_line.specs.CommandLine.{advice_words, check_words, cums_words, mrp, orders_words, peg_words, pegs_words, plan_words}
use Rattle.mrp_command_line.specs.CommandLine.{program_words, schedule_words, shortages_words, with_command}
use Rattle.mrp_command_line.specs.CommandLine.{up_to_advice, up_to_check, up_to_cums, up_to_orders, up_to_peg, up_to_pegs, up_to_schedule}
use Rattle.mrp_command_line.proofs.words.program.Goals as goal

pub returns : goal.returns
unfolding mrp
returns c =
    let planned = c.with-line.ensures (program_words (codes "mrp")) plan_words c.described.ensures c.plan_command.ensures in
    let checked = c.with-line-2.ensures (with_command (program_words (codes "mrp")) plan_words) check_words planned c.check_command.ensures in
    let pegged = c.with-line-3.ensures up_to_check peg_words checked c.peg_command.ensures in
    let figured = c.with-line-4.ensures up_to_peg cums_words pegged c.headed_command-cums.ensures in
    let ordered = c.with-line-5.ensures up_to_cums orders_words figured c.orders_command.ensures in
    let scheduled = c.with-line-6.ensures up_to_orders schedule_words ordered c.schedule_command.ensures in
    let traced = c.with-line-7.ensures up_to_schedule pegs_words scheduled c.headed_command-pegs.ensures in
    let advised = c.with-line-8.ensures up_to_pegs advice_words traced c.advice_command.ensures in
    c.with.ensures up_to_advice shortages_words advised c.headed_command-shortages.ensures
