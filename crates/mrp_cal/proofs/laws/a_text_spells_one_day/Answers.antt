use Rattle.mrp_cal.proofs.Days.{one_day}
use Rattle.mrp_cal.proofs.laws.a_text_spells_one_day.Goals as goal

pub returns : goal.returns
returns c = one_day
