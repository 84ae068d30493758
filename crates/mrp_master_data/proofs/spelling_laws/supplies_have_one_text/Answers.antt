use Rattle.mrp_master_data.proofs.Wholes.{supply_is}
use Rattle.mrp_master_data.proofs.Written.{supply_is_text, supply_written}
use Rattle.mrp_master_data.proofs.spelling_laws.supplies_have_one_text.Goals as goal

pub returns : goal.returns
returns c = record { read = supply_written; text = λ text supply is. (supply_is_text text supply is, supply_is text supply is) }
