use Rattle.std.proofs.Common.{sym}
use Rattle.mrp_master_data.proofs.Decimals.{number-exact}
use Rattle.mrp_master_data.proofs.spelled_numbers.number.Goals as goal

pub returns-clause-spelled : goal.returns-clause-spelled
returns-clause-spelled c = number-exact c.args.text.now c.read.result (sym c.read.ensures)
