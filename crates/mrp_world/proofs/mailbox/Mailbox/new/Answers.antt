use Rattle.std.proofs.Common.{rules}
use Rattle.mrp_world.proofs.mailbox.Mailbox.new.Goals as goal

pub returns : goal.returns
returns c = search rules
