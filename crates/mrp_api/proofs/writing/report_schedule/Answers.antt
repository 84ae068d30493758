use Rattle.std.proofs.Common.{subst}
use Rattle.mrp_master_data.specs.Table.{Table}
use Rattle.mrp_commands.specs.Given.{name_of}
use Rattle.mrp_api.specs.Reports.{AreSchedules, IsKnownPlant, IsKnownSupplier, IsScheduleReport}
use Rattle.mrp_api.proofs.TextFacts.{writes-of}
use Rattle.mrp_api.proofs.writing.report_schedule.Goals as goal

-- the names are those of a supplier and of a plant
pub returns-clause-text : goal.returns-clause-text
returns-clause-text g c =
    let N = c.args.net.now.network in
    let from = name_of c.args.from in
    let to = name_of c.args.to in
    writes-of _ _ c.report_schedules.result (AreSchedules from to c.args.heading N) (IsScheduleReport from to c.args.heading N)
    (λ text is. (
      subst (λ (M : Table). IsKnownSupplier M from) c.network-network.ensures.value c.in_ok-know_supplier.ensures.known,
      subst (λ (M : Table). IsKnownPlant M to) c.network-network.ensures.value c.in_ok-know_plant.ensures.known,
      is,
    ))
    c.report_schedules.ensures.text
