use Rattle.std.proofs.Common.{rules}
use Rattle.mrp_run.proofs.settings.Settings.new.Goals as goal

pub invariant_of-result : goal.invariant_of-result
invariant_of-result c = search rules

pub returns-then-fits-clause-exact : goal.returns-then-fits-clause-exact
returns-then-fits-clause-exact c = search rules
