use Rattle.mrp_master_data.proofs.Wholes.{supply_is}
use Rattle.mrp_master_data.proofs.spelling_laws.supplies_are_whole.Goals as goal

pub returns : goal.returns
returns c = λ text supply is. supply_is text supply is
