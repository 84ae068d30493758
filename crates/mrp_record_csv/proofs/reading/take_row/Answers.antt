use Rattle.csv.specs.Records.{fields_of}
use Rattle.mrp_tables.proofs.Taken.{came, has_stopped}
use Rattle.mrp_record_csv.specs.declared.fault.RecordFaultKind.TheVariants as fault
use Rattle.mrp_record_csv.specs.Left.{record_fault_of}
use Rattle.mrp_record_csv.proofs.Taking.{explains_as_kind, found_or_not}
use Rattle.mrp_record_csv.proofs.reading.take_row.Goals as goal

pub returns-in-Ok-clause-exact : goal.returns-in-Ok-clause-exact
returns-in-Ok-clause-exact g c =
    found_or_not g.R.Read.remaining c.args.rows.now c.read_record.new.self (fields_of c.read_record.new.row) c.in-Ok.found c.requires.gives
    (c.in-Ok.ensures.reads c.requires.gives.1 c.requires.gives.2)

pub read_fault-requires : goal.read_fault-requires
read_fault-requires g c =
    record { comes = came g.R.Read.remaining c.args.rows.now c.read_record.new.self c.requires.gives _ _ c.in-Err.ensures.why c.kind.ensures }

pub returns-in-Err-clause-exact : goal.returns-in-Err-clause-exact
returns-in-Err-clause-exact g c =
    explains_as_kind g.R.Read.remaining c.args.rows.now c.read_record.new.self _ _ _ c.requires.gives c.in-Err.ensures.why c.kind.ensures
    c.read_fault.ensures.value

pub returns-in-Err-clause-failed : goal.returns-in-Err-clause-failed
returns-in-Err-clause-failed g c =
    has_stopped g.R.Read.remaining c.args.rows.now c.read_record.new.self c.requires.gives _ _ c.in-Err.ensures.why c.kind.ensures record_fault_of
    fault.ReadFault _ (λ pos e is. cc) c.in-Err.ensures.fails c.read_fault.ensures.value
