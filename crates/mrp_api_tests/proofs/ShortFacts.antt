-- Tests of the library: the tables with requirements that lack parts that were worked by hand, computed.
use Rattle.std.proofs.Common.{refl}
use Rattle.std.specs.Fmt.{digits}
use Rattle.mrp_cal.specs.Days.{date_at}
use Rattle.mrp_netting.specs.PlanningData.{balance_before, greatest, incoming_at, one, order_at, short}
use Rattle.mrp_csv_out.specs.Rows.{row}
use Rattle.mrp_shortages.specs.ShortageRows.{pair_shortages_text, shortage_row, shortage_text, shortages_text}
use Rattle.mrp_api_tests.specs.ShortParts.{PhantomIsWritten, PhantomLacks, TwoDemandersAreWritten, TwoDemandersLack}

pub phantom_is_written : PhantomIsWritten
unfolding digits date_at
phantom_is_written = refl

pub phantom_lacks : PhantomLacks
unfolding digits short incoming_at greatest balance_before order_at one row shortage_row pair_shortages_text shortages_text shortage_text
phantom_lacks = refl

pub two_demanders_are_written : TwoDemandersAreWritten
unfolding digits date_at
two_demanders_are_written = refl

pub two_demanders_lack : TwoDemandersLack
unfolding digits short incoming_at greatest balance_before order_at one row shortage_row pair_shortages_text shortages_text shortage_text
two_demanders_lack = refl
