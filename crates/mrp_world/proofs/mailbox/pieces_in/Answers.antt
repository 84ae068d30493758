use Rattle.std.proofs.Common.{rules}
use Rattle.mrp_world.proofs.mailbox.pieces_in.Goals as goal

pub returns-in-Line : goal.returns-in-Line
returns-in-Line c = search rules
