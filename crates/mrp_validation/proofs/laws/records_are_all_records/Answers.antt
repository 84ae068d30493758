use Rattle.std.proofs.Common.{◌+◌, length, arith}
use Rattle.csv.specs.Reading.{default_config}
use Rattle.csv.specs.declared.parser.State.TheVariants.{StartRecord}
use Rattle.mrp_validation.proofs.Records.{records_all}
use Rattle.mrp_validation.proofs.laws.records_are_all_records.Goals as goal

pub returns : goal.returns
returns c = λ text. records_all default_config (length text + 1) StartRecord text (omega arith)
