use Rattle.std.proofs.Common.{subst, sym}
use Rattle.std.specs.Prelude.{pos}
use Rattle.mrp_cal.specs.DateText.{SpellsDay}
use Rattle.mrp_cal.proofs.Days.{spells_day}
use Rattle.mrp_cal.proofs.Spelled.{day_spelled-spells, text-day_spelled}
use Rattle.mrp_cal.proofs.laws.given_days_are_spelled.Goals as goal

pub returns : goal.returns
returns c = λ text day. (
  λ e. let found = text-day_spelled text day e in subst (λ t. SpellsDay t (pos day)) (sym found.1) (spells_day day found.0),
  λ spells. day_spelled-spells text spells.0 day spells.1 spells.2,
)
