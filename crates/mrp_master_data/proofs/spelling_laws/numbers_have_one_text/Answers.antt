use Rattle.mrp_master_data.proofs.Decimals.{number-spelled, number-written}
use Rattle.mrp_master_data.proofs.spelling_laws.numbers_have_one_text.Goals as goal

pub returns : goal.returns
returns c = record { read = number-written; text = number-spelled }
