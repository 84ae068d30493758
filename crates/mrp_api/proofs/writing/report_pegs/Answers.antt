use Rattle.std.proofs.Common.{subst}
use Rattle.mrp_master_data.specs.Table.{Table}
use Rattle.mrp_net.specs.Names.{IsNamed}
use Rattle.mrp_report.specs.Headings.{peg_names}
use Rattle.mrp_api.specs.Reports.{IsHeaded, IsPegReport, IsPegs}
use Rattle.mrp_api.proofs.TextFacts.{writes-of}
use Rattle.mrp_api.proofs.writing.report_pegs.Goals as goal

-- the pair that was found has these names
pub returns-clause-text : goal.returns-clause-text
returns-clause-text g c =
    let N = c.args.net.now.network in
    writes-of _ _ c.report_pegs_at.result (IsHeaded c.args.heading peg_names (IsPegs N c.in-Some.x.0 c.args.period))
    (IsHeaded c.args.heading peg_names (IsPegReport c.args.plant.now c.args.item.now c.args.period N))
    (λ text is. (
      is.0,
      (
        c.in-Some.x.0,
        subst (λ (M : Table). IsNamed M c.in-Some.x.0 c.args.plant.now c.args.item.now) c.network-network.ensures.value c.in-Some.ensures.found,
        is.1,
      ),
      is.2,
    )) c.report_pegs_at.ensures.text
