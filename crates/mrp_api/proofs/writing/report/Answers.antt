use Rattle.std.proofs.Common.{ℕ, ◌≤◌, Bool, true, false, subst}
use Rattle.mrp_master_data.specs.Table.{Table}
use Rattle.mrp_report.specs.Headings.{code_names}
use Rattle.mrp_commands.specs.declared.choice.Choice.TheVariants.{Plan}
use Rattle.mrp_commands.specs.declared.choice.TheConstants.{MOST_CAPACITY}
use Rattle.mrp_api.specs.Answer.{IsAlone}
use Rattle.mrp_api.specs.Reports.{IsCodeReport, IsHeaded}
use Rattle.mrp_api.specs.Text.{Writes}
use Rattle.mrp_api.proofs.RowFacts.{rows-kept}
use Rattle.mrp_api.proofs.TextFacts.{late-refuses}
use Rattle.mrp_api.proofs.writing.report.Goals as goal

-- the plan, which is one that one thread makes

room : (workers capacity : ℕ) (single : Bool) → IsAlone (Plan workers capacity single) → (1 ≤ capacity) × (capacity ≤ MOST_CAPACITY)
room workers capacity true alone = alone
room workers capacity false alone = absurd alone

pub report_driven-requires-clause-capacity : goal.report_driven-requires-clause-capacity
report_driven-requires-clause-capacity g c = room c.in-Plan.workers c.in-Plan.capacity c.in-Plan.single (rw (c.in-Plan.is) at c.requires.alone)

pub returns-in-Plan-clause-text : goal.returns-in-Plan-clause-text
returns-in-Plan-clause-text g c = rw (c.in-Plan.is) c.report_driven.ensures.text

pub returns-in-Plan-clause-refusal : goal.returns-in-Plan-clause-refusal
returns-in-Plan-clause-refusal g c = late-refuses _ _ c.report_driven.result c.report_driven.ensures.fault

-- the other reports

pub returns-in-Check-clause-text : goal.returns-in-Check-clause-text
returns-in-Check-clause-text g c = rw (c.in-Check.is)
    (subst (λ (N : Table). Writes (g.W.Write.contents c.args.writer.now) (g.W.Write.contents c.report_codes.new.writer) c.report_codes.result
    (IsHeaded c.in-Check.heading code_names (IsCodeReport N)))
    c.network.ensures.value c.report_codes.ensures.text)

pub returns-in-Reach-clause-text : goal.returns-in-Reach-clause-text
returns-in-Reach-clause-text g c = rw (c.in-Reach.is) c.report_reach.ensures.text

pub returns-in-Peg-clause-text : goal.returns-in-Peg-clause-text
returns-in-Peg-clause-text g c = rw (c.in-Peg.is) c.report_pegs.ensures.text

pub returns-in-Cums-clause-text : goal.returns-in-Cums-clause-text
returns-in-Cums-clause-text g c = rw (c.in-Cums.is) c.report_cums.ensures.text

pub returns-in-Orders-clause-text : goal.returns-in-Orders-clause-text
returns-in-Orders-clause-text g c = rw (c.in-Orders.is) c.report_orders.ensures.text

pub returns-in-Schedule-clause-text : goal.returns-in-Schedule-clause-text
returns-in-Schedule-clause-text g c = rw (c.in-Schedule.is) c.report_schedule.ensures.text

pub returns-in-Pegs-clause-text : goal.returns-in-Pegs-clause-text
returns-in-Pegs-clause-text g c = rw (c.in-Pegs.is) c.report_all_pegs.ensures.text

pub returns-in-Advice-clause-text : goal.returns-in-Advice-clause-text
returns-in-Advice-clause-text g c = rw (c.in-Advice.is) c.report_advice.ensures.text

pub returns-in-Shortages-clause-text : goal.returns-in-Shortages-clause-text
returns-in-Shortages-clause-text g c = rw (c.in-Shortages.is) c.report_shortages.ensures.text

pub returns-in-Check-clause-refusal : goal.returns-in-Check-clause-refusal
returns-in-Check-clause-refusal g c = late-refuses _ _ c.report_codes.result c.report_codes.ensures.fault

pub returns-in-Check-clause-rows : goal.returns-in-Check-clause-rows
returns-in-Check-clause-rows g c = rows-kept g.W.Write.contents _ _ c.report_codes.result _ c.report_codes.ensures.untouched

pub returns-in-Reach-clause-refusal : goal.returns-in-Reach-clause-refusal
returns-in-Reach-clause-refusal g c = late-refuses _ _ c.report_reach.result c.report_reach.ensures.fault

pub returns-in-Reach-clause-rows : goal.returns-in-Reach-clause-rows
returns-in-Reach-clause-rows g c = rows-kept g.W.Write.contents _ _ c.report_reach.result _ c.report_reach.ensures.untouched

pub returns-in-Peg-clause-rows : goal.returns-in-Peg-clause-rows
returns-in-Peg-clause-rows g c = rows-kept g.W.Write.contents _ _ c.report_pegs.result _ c.report_pegs.ensures.untouched

pub returns-in-Cums-clause-refusal : goal.returns-in-Cums-clause-refusal
returns-in-Cums-clause-refusal g c = late-refuses _ _ c.report_cums.result c.report_cums.ensures.fault

pub returns-in-Cums-clause-rows : goal.returns-in-Cums-clause-rows
returns-in-Cums-clause-rows g c = rows-kept g.W.Write.contents _ _ c.report_cums.result _ c.report_cums.ensures.untouched

pub returns-in-Orders-clause-refusal : goal.returns-in-Orders-clause-refusal
returns-in-Orders-clause-refusal g c = late-refuses _ _ c.report_orders.result c.report_orders.ensures.fault

pub returns-in-Orders-clause-rows : goal.returns-in-Orders-clause-rows
returns-in-Orders-clause-rows g c = rows-kept g.W.Write.contents _ _ c.report_orders.result _ c.report_orders.ensures.untouched

pub returns-in-Schedule-clause-rows : goal.returns-in-Schedule-clause-rows
returns-in-Schedule-clause-rows g c = rows-kept g.W.Write.contents _ _ c.report_schedule.result _ c.report_schedule.ensures.untouched

pub returns-in-Pegs-clause-refusal : goal.returns-in-Pegs-clause-refusal
returns-in-Pegs-clause-refusal g c = late-refuses _ _ c.report_all_pegs.result c.report_all_pegs.ensures.fault

pub returns-in-Pegs-clause-rows : goal.returns-in-Pegs-clause-rows
returns-in-Pegs-clause-rows g c = rows-kept g.W.Write.contents _ _ c.report_all_pegs.result _ c.report_all_pegs.ensures.untouched

pub returns-in-Advice-clause-refusal : goal.returns-in-Advice-clause-refusal
returns-in-Advice-clause-refusal g c = late-refuses _ _ c.report_advice.result c.report_advice.ensures.fault

pub returns-in-Advice-clause-rows : goal.returns-in-Advice-clause-rows
returns-in-Advice-clause-rows g c = rows-kept g.W.Write.contents _ _ c.report_advice.result _ c.report_advice.ensures.untouched

pub returns-in-Shortages-clause-refusal : goal.returns-in-Shortages-clause-refusal
returns-in-Shortages-clause-refusal g c = late-refuses _ _ c.report_shortages.result c.report_shortages.ensures.fault

pub returns-in-Shortages-clause-rows : goal.returns-in-Shortages-clause-rows
returns-in-Shortages-clause-rows g c = rows-kept g.W.Write.contents _ _ c.report_shortages.result _ c.report_shortages.ensures.untouched
