-- Tests of the library: the other reports of the pumps, worked by hand, computed.
use Rattle.std.proofs.Common.{refl}
use Rattle.std.specs.Fmt.{digits}
use Rattle.mrp_cal.specs.Days.{date_at}
use Rattle.mrp_netting.specs.PlanningData.{balance_before, greatest, incoming_at, one, order_at, short}
use Rattle.mrp_csv_out.specs.Dates.{period_date}
use Rattle.mrp_csv_out.specs.Rows.{row}
use Rattle.mrp_report.specs.Lanes as lanes
use Rattle.mrp_report.specs.Orders.{listed_order_row, order_text, orders_text, pair_orders_text}
use Rattle.mrp_schedules.specs.ScheduleRows.{item_text, lane_schedule_text, lanes_text, schedule_line_row, schedule_text, vendors_text}
use Rattle.mrp_advice.specs.AdviceRows.{advice_row, advice_text, messages_text, pair_advice_text}
use Rattle.mrp_world.specs.Figures.{last_figures}
use Rattle.mrp_api_tests.specs.PumpsReports.{PumpsAreAdvised, PumpsAreCounted, PumpsAreOrdered, PumpsAreScheduled}

pub pumps_are_ordered : PumpsAreOrdered
unfolding digits date_at short incoming_at greatest balance_before order_at one period_date row listed_order_row pair_orders_text orders_text order_text
pumps_are_ordered = refl

pub pumps_are_scheduled : PumpsAreScheduled
unfolding digits date_at short incoming_at greatest balance_before order_at one period_date row schedule_line_row item_text lane_schedule_text lanes_text vendors_text schedule_text
pumps_are_scheduled = refl

pub pumps_are_advised : PumpsAreAdvised
unfolding digits date_at short incoming_at greatest balance_before order_at one period_date row advice_row pair_advice_text messages_text advice_text
pumps_are_advised = refl

pub pumps_are_counted : PumpsAreCounted
unfolding digits short incoming_at greatest balance_before order_at one row lanes.figure_row lanes.lane_text last_figures
pumps_are_counted = refl
