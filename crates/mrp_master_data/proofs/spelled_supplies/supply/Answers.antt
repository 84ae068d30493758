use Rattle.mrp_master_data.proofs.Written.{tells_written}
use Rattle.mrp_master_data.proofs.spelled_supplies.supply.Goals as goal

pub returns-clause-written : goal.returns-clause-written
returns-clause-written c = tells_written c.args.text.now c.read.result c.read.ensures.exact c.read.ensures.memory
