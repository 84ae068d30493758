use Rattle.std.proofs.Common.{length, subst}
use Rattle.mrp_qty.specs.declared.limits.TheConstants.{MOST_TURNS}
use Rattle.mrp_master_data.specs.Table.{Table}
use Rattle.mrp_run.specs.Faults.{AllTurned}
use Rattle.mrp_api.specs.Text.{IsPlanReport, Writes}
use Rattle.mrp_api.specs.Reports.{IsPlanRows, WritesRows}
use Rattle.mrp_api.proofs.GateFacts.{gate_fails, gate_late}
use Rattle.mrp_api.proofs.run.write_run.Goals as goal

pub returns-clause-text : goal.returns-clause-text
returns-clause-text g c =
    subst (λ (N : Table). Writes (g.W.Write.contents c.args.writer.now) (g.W.Write.contents c.report_run.new.writer) c.report_run.result (IsPlanReport N))
    c.in_ok-net.ensures.network c.report_run.ensures.text

pub returns-clause-rows : goal.returns-clause-rows
returns-clause-rows g c =
    subst (λ (N : Table). WritesRows g.W.Write.contents c.args.writer.now c.report_run.new.writer c.report_run.result (IsPlanRows N))
    c.in_ok-net.ensures.network c.report_run.ensures.rows

pub returns-clause-gate : goal.returns-clause-gate
returns-clause-gate g c =
    let Turned : Table → Type 0 = λ N. AllTurned g.G.Gate.turn_open MOST_TURNS (length N.plants) in
    gate_late g.G.Gate.turn_open g.G.Gate.turn_shut g.G.Gate.worker_shut c.args.settings.workers MOST_TURNS c.args.network.now c.report_run.result
    (subst Turned c.in_ok-net.ensures.network c.in_ok-outcome.ensures.gate.turned) c.report_run.ensures.fault

-- the run's network is the one that was given
pub returns-in_err-outcome-clause-gate : goal.returns-in_err-outcome-clause-gate
returns-in_err-outcome-clause-gate g c =
    gate_fails g.G.Gate.turn_open g.G.Gate.turn_shut g.G.Gate.worker_shut c.args.settings.workers MOST_TURNS c.in_ok-net.net.network c.args.network.now
    c.from_residual-in_err-outcome.result c.in_err-outcome.field-0.0 c.in_ok-net.ensures.network c.from_residual-in_err-outcome.ensures.1
    c.in_err-outcome.ensures.gate.shut
