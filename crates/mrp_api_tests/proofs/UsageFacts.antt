-- Tests of the library: the tables with usages that were worked by hand, computed.
use Rattle.std.proofs.Common.{refl}
use Rattle.std.specs.Fmt.{digits}
use Rattle.mrp_cal.specs.Days.{date_at}
use Rattle.mrp_netting.specs.PlanningData.{balance_before, greatest, incoming_at, one, order_at, short}
use Rattle.mrp_csv_out.specs.Dates.{period_date}
use Rattle.mrp_csv_out.specs.Rows.{row}
use Rattle.mrp_report.specs.Pegs.{pair_pegs_text, pegs_row, pegs_text, period_pegs_text}
use Rattle.mrp_report.specs.Report.{late_text, pair_text, plan_text}
use Rattle.mrp_api_tests.specs.Usages.{ByUsageIsPegged, ByUsageIsPlanned, ByUsageIsWritten, ScrappedThriceIsPlanned, ScrappedThriceIsWritten}

pub by_usage_is_written : ByUsageIsWritten
unfolding digits date_at
by_usage_is_written = refl

pub by_usage_is_planned : ByUsageIsPlanned
unfolding digits date_at short incoming_at greatest balance_before order_at one period_date row pair_text plan_text late_text
by_usage_is_planned = refl

pub by_usage_is_pegged : ByUsageIsPegged
unfolding digits date_at short incoming_at greatest balance_before order_at one row pegs_row period_pegs_text pair_pegs_text pegs_text
by_usage_is_pegged = refl

pub scrapped_thrice_is_written : ScrappedThriceIsWritten
unfolding digits date_at
scrapped_thrice_is_written = refl

pub scrapped_thrice_is_planned : ScrappedThriceIsPlanned
unfolding digits date_at short incoming_at greatest balance_before order_at one period_date row pair_text plan_text late_text
scrapped_thrice_is_planned = refl
