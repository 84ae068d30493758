-- Tests of the library: the tables with vendors, and with periods whose first days are given, that
-- were worked by hand, computed.
use Rattle.std.proofs.Common.{refl}
use Rattle.std.specs.Fmt.{digits}
use Rattle.mrp_cal.specs.Days.{date_at}
use Rattle.mrp_netting.specs.PlanningData.{balance_before, greatest, incoming_at, one, order_at, short}
use Rattle.mrp_csv_out.specs.Dates.{period_date}
use Rattle.mrp_csv_out.specs.Rows.{row}
use Rattle.mrp_report.specs.Orders.{listed_order_row, order_text, orders_text, pair_orders_text}
use Rattle.mrp_report.specs.Report.{late_text, pair_text, plan_text}
use Rattle.mrp_schedules.specs.ScheduleRows.{item_text, lane_schedule_text, lanes_text, schedule_line_row, schedule_text}
use Rattle.mrp_schedules.specs.ScheduleRows.{vendor_text, vendors_text}
use Rattle.mrp_api_tests.specs.Vendors.{ByVendorIsPlanned, ByVendorIsScheduled, ByVendorIsWritten}
use Rattle.mrp_api_tests.specs.Vendors.{CustomerIsAskedFor, TwoVendorsAreScheduled, TwoVendorsAreWritten, VendorIsAskedFor}
use Rattle.mrp_api_tests.specs.Vendors.{OverNewYearIsPlanned, OverNewYearIsWritten}
use Rattle.mrp_api_tests.specs.Vendors.{WorkingDaysAreOrdered, WorkingDaysArePlanned, WorkingDaysAreScheduled, WorkingDaysAreWritten}

pub by_vendor_is_written : ByVendorIsWritten
unfolding digits date_at
by_vendor_is_written = refl

pub by_vendor_is_planned : ByVendorIsPlanned
unfolding digits date_at short incoming_at greatest balance_before order_at one period_date row pair_text plan_text late_text
by_vendor_is_planned = refl

pub by_vendor_is_scheduled : ByVendorIsScheduled
unfolding digits date_at short incoming_at greatest balance_before order_at one period_date row schedule_line_row item_text vendor_text lane_schedule_text lanes_text vendors_text schedule_text
by_vendor_is_scheduled = refl

pub two_vendors_are_written : TwoVendorsAreWritten
unfolding digits date_at
two_vendors_are_written = refl

pub two_vendors_are_scheduled : TwoVendorsAreScheduled
unfolding digits date_at short incoming_at greatest balance_before order_at one period_date row schedule_line_row item_text vendor_text lane_schedule_text lanes_text vendors_text schedule_text
two_vendors_are_scheduled = refl

pub vendor_is_asked_for : VendorIsAskedFor
unfolding digits date_at short incoming_at greatest balance_before order_at one period_date row schedule_line_row item_text vendor_text lane_schedule_text lanes_text vendors_text schedule_text
vendor_is_asked_for = refl

pub customer_is_asked_for : CustomerIsAskedFor
unfolding digits date_at short incoming_at greatest balance_before order_at one period_date row schedule_line_row item_text vendor_text lane_schedule_text lanes_text vendors_text schedule_text
customer_is_asked_for = refl

pub over_new_year_is_written : OverNewYearIsWritten
unfolding digits date_at
over_new_year_is_written = refl

pub over_new_year_is_planned : OverNewYearIsPlanned
unfolding digits date_at short incoming_at greatest balance_before order_at one period_date row pair_text plan_text late_text
over_new_year_is_planned = refl

pub working_days_are_written : WorkingDaysAreWritten
unfolding digits date_at
working_days_are_written = refl

pub working_days_are_planned : WorkingDaysArePlanned
unfolding digits date_at short incoming_at greatest balance_before order_at one period_date row pair_text plan_text late_text
working_days_are_planned = refl

pub working_days_are_ordered : WorkingDaysAreOrdered
unfolding digits date_at short incoming_at greatest balance_before order_at one period_date row listed_order_row pair_orders_text orders_text order_text
working_days_are_ordered = refl

pub working_days_are_scheduled : WorkingDaysAreScheduled
unfolding digits date_at short incoming_at greatest balance_before order_at one period_date row schedule_line_row item_text vendor_text lane_schedule_text lanes_text vendors_text schedule_text
working_days_are_scheduled = refl
