-- Delivery schedules of vendors: each made as that of a lane's item, from the releases of the
-- pair that the vendor delivers.
use Rattle.std.specs.Prelude.{ℕ, ◌+◌, List}
use Rattle.mrp_master_data.specs.Rows.{Vendor}
use Rattle.mrp_master_data.specs.Table.{Table, horizon}
use Rattle.mrp_net.specs.Plan.{plan_of, release_at}
use Rattle.mrp_net.specs.Sums.{pair_at}
use Rattle.mrp_record.specs.Text.{Load}
use Rattle.mrp_protocol.specs.Loads.{by_period}
use Rattle.mrp_schedules.specs.declared.line.ScheduleLine.{ScheduleLine}
use Rattle.mrp_schedules.specs.Schedule.{load_schedule}

-- who takes what the vendor delivers
abbrev pub vendor_customer : Table → Vendor → ℕ
vendor_customer N v = (pair_at N v.pair.0).plant.0

-- and which item it is
abbrev pub vendor_item : Table → Vendor → ℕ
vendor_item N v = (pair_at N v.pair.0).item.0

-- the figures go on from what was received and what is on its way; each period calls for what the plan releases
abbrev pub vendor_load : Table → Vendor → Load
vendor_load N v = record {
  item = vendor_item N v;
  opening = v.figure + v.transit;
  reset = v.reset;
  lines = by_period (λ t. release_at (plan_of N) v.pair.0 t) (horizon N);
}

abbrev pub vendor_schedule : Table → Vendor → List ScheduleLine
vendor_schedule N v = load_schedule v.transit (vendor_load N v)
