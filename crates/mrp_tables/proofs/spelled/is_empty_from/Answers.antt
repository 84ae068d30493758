use Rattle.std.proofs.Common.{rules}
use Rattle.mrp_tables.proofs.spelled.is_empty_from.Goals as goal

pub returns-then-is_free-6 : goal.returns-then-is_free-6
returns-then-is_free-6 c = search rules
