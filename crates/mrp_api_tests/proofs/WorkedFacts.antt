-- Tests of the library: tables of one plant, of two and of the pumps, worked by hand, computed.
use Rattle.std.proofs.Common.{refl}
use Rattle.std.specs.Fmt.{digits}
use Rattle.mrp_cal.specs.Days.{date_at}
use Rattle.mrp_netting.specs.PlanningData.{balance_before, greatest, incoming_at, one, order_at, short}
use Rattle.mrp_csv_out.specs.Dates.{period_date}
use Rattle.mrp_csv_out.specs.Rows.{row}
use Rattle.mrp_report.specs.Report.{late_text, pair_text, plan_text}
use Rattle.mrp_api_tests.specs.Pumps.{PumpsArePlanned, PumpsAreWritten}
use Rattle.mrp_api_tests.specs.Worked.{BicycleIsPlanned, BicycleIsWritten, FirmOfTwoIsPlanned, FirmOfTwoIsWritten}

pub bicycle_is_written : BicycleIsWritten
unfolding digits date_at
bicycle_is_written = refl

pub bicycle_is_planned : BicycleIsPlanned
unfolding digits date_at short incoming_at greatest balance_before order_at one period_date row pair_text plan_text late_text
bicycle_is_planned = refl

pub firm_of_two_is_written : FirmOfTwoIsWritten
unfolding digits date_at
firm_of_two_is_written = refl

pub firm_of_two_is_planned : FirmOfTwoIsPlanned
unfolding digits date_at short incoming_at greatest balance_before order_at one period_date row pair_text plan_text late_text
firm_of_two_is_planned = refl

pub pumps_are_written : PumpsAreWritten
unfolding digits date_at
pumps_are_written = refl

pub pumps_are_planned : PumpsArePlanned
unfolding digits date_at short incoming_at greatest balance_before order_at one period_date row pair_text plan_text late_text
pumps_are_planned = refl
