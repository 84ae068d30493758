use Rattle.mrp_qty.specs.declared.limits.TheConstants.{MOST_TURNS}
use Rattle.mrp_api.specs.Text.{IsPlanReport}
use Rattle.mrp_api.specs.Refusals.{AskByThreads}
use Rattle.mrp_api.specs.Reports.{IsPlanRows}
use Rattle.mrp_api.proofs.GateFacts.{gate_of}
use Rattle.mrp_api.proofs.RowFacts.{rows-of}
use Rattle.mrp_api.proofs.TextFacts.{refuses-of, writes-of}
use Rattle.mrp_api.proofs.text.plan_as.Goals as goal

pub returns-clause-text : goal.returns-clause-text
returns-clause-text g c =
    writes-of _ _ c.write_run-written.result (IsPlanReport c.in_ok-network.network) _
    (λ text is. (c.in_ok-network.network, c.in_ok-network.ensures.rows, (c.in_ok-network.ensures.whole, is))) c.write_run-written.ensures.text

pub returns-clause-refusal : goal.returns-clause-refusal
returns-clause-refusal g c =
    refuses-of c.args.reading _ AskByThreads c.in_ok-network.network c.write_run-written.result
    c.in_ok-network.ensures.rows c.in_ok-network.ensures.whole c.write_run-written.ensures.refusal

pub returns-clause-rows : goal.returns-clause-rows
returns-clause-rows g c =
    rows-of g.W.Write.contents _ _ c.write_run-written.result (IsPlanRows c.in_ok-network.network) _
    (λ rows is. (c.in_ok-network.network, c.in_ok-network.ensures.rows, is)) c.write_run-written.ensures.rows

pub returns-clause-gate : goal.returns-clause-gate
returns-clause-gate g c =
    gate_of g.G.Gate.turn_open g.G.Gate.turn_shut g.G.Gate.worker_shut c.args.settings.workers MOST_TURNS _ _ c.in_ok-network.network c.write_run-written.result
    c.in_ok-network.ensures.rows c.write_run-written.ensures.gate
