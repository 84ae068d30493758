use Rattle.std.proofs.Common.{arith}
use Rattle.std.proofs.lemmas.Grind.{common_steps}
use Rattle.mrp_record.proofs.cursor.OutCursor.push.Goals as goal

pub returns-then-self-size : goal.returns-then-self-size
returns-then-self-size c = grind (arith, common_steps)
