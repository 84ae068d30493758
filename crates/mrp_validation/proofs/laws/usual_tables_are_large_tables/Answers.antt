use Rattle.std.proofs.Common.{Ok}
use Rattle.mrp_validation.proofs.LargeReading.{read_is_large}
use Rattle.mrp_validation.proofs.laws.usual_tables_are_large_tables.Goals as goal

pub returns : goal.returns
returns c = λ rows N. read_is_large rows (Ok N) tt
