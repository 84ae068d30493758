use Rattle.mrp_api.proofs.TableFacts.{tables_are_read}
use Rattle.mrp_api.proofs.laws.tables_are_read.Goals as goal

pub returns : goal.returns
returns c = tables_are_read
