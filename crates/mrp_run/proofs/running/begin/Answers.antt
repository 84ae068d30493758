use Rattle.std.proofs.Common.{inr, refl}
use Rattle.mrp_run.proofs.running.begin.Goals as goal

pub returns-else-turn : goal.returns-else-turn
returns-else-turn g c = record { opened = tt; fault = inr (refl, c.turn.ensures.shut c.if-turn.false) }
