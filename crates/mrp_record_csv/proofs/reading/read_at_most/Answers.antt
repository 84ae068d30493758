use Rattle.std.proofs.Common.{rules}
use Rattle.mrp_record_csv.proofs.reading.read_at_most.Goals as goal

pub read_rows-requires-clause-gives : goal.read_rows-requires-clause-gives
read_rows-requires-clause-gives g c = search rules
