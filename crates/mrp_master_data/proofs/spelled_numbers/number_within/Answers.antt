use Rattle.std.proofs.Common.{rules}
use Rattle.mrp_master_data.proofs.spelled_numbers.number_within.Goals as goal

pub returns-then-value-high-clause-within : goal.returns-then-value-high-clause-within
returns-then-value-high-clause-within c = search rules
