use Rattle.mrp_cal.proofs.Written.{day_is_written}
use Rattle.mrp_cal.proofs.laws.a_day_has_one_text.Goals as goal

pub returns : goal.returns
returns c = λ text day by spells. day_is_written text day spells
