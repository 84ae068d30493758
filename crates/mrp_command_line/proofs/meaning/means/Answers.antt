use Rattle.std.proofs.Common.{rules}
use Rattle.mrp_command_line.proofs.meaning.means.Goals as goal

pub returns-else-use_stderr : goal.returns-else-use_stderr
returns-else-use_stderr c = search rules
