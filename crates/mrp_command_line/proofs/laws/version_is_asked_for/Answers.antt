use Rattle.std.proofs.Common.{refl}
use Rattle.clap.proofs.OnLiterals.{clap_on_literals}
use Rattle.mrp_command_line.specs.CommandLine.{mrp}
use Rattle.mrp_command_line.proofs.laws.version_is_asked_for.Goals as goal

pub returns-clause-long : goal.returns-clause-long
unfolding mrp clap_on_literals
returns-clause-long c = refl

pub returns-clause-short : goal.returns-clause-short
unfolding mrp clap_on_literals
returns-clause-short c = refl
