-- Tests of the library: the table with firm planned orders that was worked by hand, computed.
use Rattle.std.proofs.Common.{refl}
use Rattle.std.specs.Fmt.{digits}
use Rattle.mrp_cal.specs.Days.{date_at}
use Rattle.mrp_netting.specs.PlanningData.{balance_before, greatest, incoming_at, one, order_at, short}
use Rattle.mrp_csv_out.specs.Dates.{period_date}
use Rattle.mrp_csv_out.specs.Rows.{row}
use Rattle.mrp_report.specs.Orders.{listed_order_row, order_text, orders_text, pair_orders_text}
use Rattle.mrp_report.specs.Report.{late_text, pair_text, plan_text}
use Rattle.mrp_schedules.specs.ScheduleRows.{item_text, lane_schedule_text, lanes_text, schedule_line_row, schedule_text, vendors_text}
use Rattle.mrp_api_tests.specs.FirmOrders.{FirmAndPlannedIsOrdered, FirmAndPlannedIsPlanned, FirmAndPlannedIsWritten, FirmCallIsScheduled}

pub firm_and_planned_is_written : FirmAndPlannedIsWritten
unfolding digits date_at
firm_and_planned_is_written = refl

pub firm_and_planned_is_planned : FirmAndPlannedIsPlanned
unfolding digits date_at short incoming_at greatest balance_before order_at one period_date row pair_text plan_text late_text
firm_and_planned_is_planned = refl

pub firm_and_planned_is_ordered : FirmAndPlannedIsOrdered
unfolding digits date_at short incoming_at greatest balance_before order_at one period_date row listed_order_row pair_orders_text orders_text order_text
firm_and_planned_is_ordered = refl

pub firm_call_is_scheduled : FirmCallIsScheduled
unfolding digits date_at short incoming_at greatest balance_before order_at one period_date row schedule_line_row item_text lane_schedule_text lanes_text vendors_text schedule_text
firm_call_is_scheduled = refl
