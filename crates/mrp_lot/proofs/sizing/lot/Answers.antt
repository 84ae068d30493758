use Rattle.std.proofs.Common.{rules}
use Rattle.mrp_lot.proofs.sizing.lot.Goals as goal

pub returns-in-LotForLot : goal.returns-in-LotForLot
returns-in-LotForLot c = search rules

pub returns-in-Fixed : goal.returns-in-Fixed
returns-in-Fixed c = search rules

pub returns-in-Periods : goal.returns-in-Periods
returns-in-Periods c = search rules

pub returns-in-MinMultiple : goal.returns-in-MinMultiple
returns-in-MinMultiple c = search rules
