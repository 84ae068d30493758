use Rattle.std.proofs.Common.{◌++◌, List, ap, subst, sym, ◌∙◌}
use Rattle.std.specs.Prelude.{Contains}
use Rattle.mrp_master_data.specs.Rows.{vendor_of}
use Rattle.mrp_master_data.specs.Table.{Table}
use Rattle.mrp_schedules.specs.declared.line.ScheduleLine.{ScheduleLine}
use Rattle.mrp_schedules.specs.Vendors.{vendor_schedule}
use Rattle.mrp_schedules.proofs.schedule.add_vendor_schedule.Goals as goal

pub add_vendor_lines-requires-clause-vendor : goal.add_vendor_lines-requires-clause-vendor
add_vendor_lines-requires-clause-vendor c =
    subst (λ (N : Table). Contains N.vendors (vendor_of c.args.vendor.now)) (sym c.network-network.ensures.value) c.requires.vendor

pub returns-clause-lines : goal.returns-clause-lines
returns-clause-lines c =
    let N = c.args.net.now.network in
    let v = vendor_of c.args.vendor.now in
    c.add_vendor_lines.ensures.lines
    ∙ ap (λ (N : Table). c.make_room.new.lines.items ++ vendor_schedule N v) c.network-network.ensures.value
    ∙ ap (λ (z : List ScheduleLine). z ++ vendor_schedule N v) c.make_room.ensures.kept
