use Rattle.std.proofs.Common.{◌<◌, length, subst, sym}
use Rattle.mrp_master_data.specs.Rows.{vendor_of}
use Rattle.mrp_master_data.specs.declared.rows.PairRow.{PairRow}
use Rattle.mrp_schedules.proofs.Delivering.{vendor_pair, vendor_row}
use Rattle.mrp_schedules.proofs.report.is_vendor_to.Goals as goal

pub pair-pair-requires : goal.pair-pair-requires
pair-pair-requires c = (vendor_row c.args.network.now c.requires.table (vendor_of c.args.vendor.now) c.requires.vendor).pair

pub plant_name-requires : goal.plant_name-requires
plant_name-requires c =
    subst (λ (p : PairRow). p.plant.0 < length c.args.network.now.plants) (sym c.pair-pair.ensures)
    (vendor_pair c.args.network.now c.requires.table (vendor_of c.args.vendor.now) c.requires.vendor).plant
