-- Tests of the library: the tables with policies that were worked by hand, computed.
use Rattle.std.proofs.Common.{refl}
use Rattle.std.specs.Fmt.{digits}
use Rattle.mrp_cal.specs.Days.{date_at}
use Rattle.mrp_netting.specs.PlanningData.{balance_before, greatest, incoming_at, one, order_at, short}
use Rattle.mrp_csv_out.specs.Dates.{period_date}
use Rattle.mrp_csv_out.specs.Rows.{row}
use Rattle.mrp_advice.specs.AdviceRows.{advice_row, advice_text, messages_text, pair_advice_text}
use Rattle.mrp_report.specs.Orders.{listed_order_row, order_text, orders_text, pair_orders_text}
use Rattle.mrp_report.specs.Report.{late_text, pair_text, plan_text}
use Rattle.mrp_api_tests.specs.Policies.{ByPolicyIsAdvised, ByPolicyIsOrdered, ByPolicyIsPlanned, ByPolicyIsWritten}

pub by_policy_is_written : ByPolicyIsWritten
unfolding digits date_at
by_policy_is_written = refl

pub by_policy_is_planned : ByPolicyIsPlanned
unfolding digits date_at short incoming_at greatest balance_before order_at one period_date row pair_text plan_text late_text
by_policy_is_planned = refl

pub by_policy_is_ordered : ByPolicyIsOrdered
unfolding digits date_at short incoming_at greatest balance_before order_at one period_date row listed_order_row pair_orders_text orders_text order_text
by_policy_is_ordered = refl

pub by_policy_is_advised : ByPolicyIsAdvised
unfolding digits date_at short incoming_at greatest balance_before order_at one period_date row advice_row pair_advice_text messages_text advice_text
by_policy_is_advised = refl
