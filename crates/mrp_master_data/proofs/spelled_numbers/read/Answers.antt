use Rattle.std.proofs.Common.{rules}
use Rattle.mrp_master_data.specs.Parsing.{spelled_number}
use Rattle.mrp_master_data.proofs.spelled_numbers.read.Goals as goal

pub returns : goal.returns
unfolding spelled_number
returns c = search rules
