use Rattle.std.proofs.Common.{Bool, true, false, Ok, List, ℕ}
use Rattle.csv.specs.Reading.{ReadRecord}
use Rattle.csv.specs.declared.reader.Reader.{Reader}
use Rattle.mrp_validation.specs.declared.fault.TableFaultKind.TheVariants as fault
use Rattle.mrp_validation.specs.Left.{fault_of, GivesAll, rows_left, TellsTaken}
use Rattle.mrp_tables.proofs.Taken.{came, ends_rows, explains_as, has_stopped, takes_row}
use Rattle.mrp_tables.proofs.reading.next_row.Goals as goal

found_or_not : {R : Type 0} (rem : R → _) (old new : Reader R) (number : ℕ) (row : List (List ℕ)) (found : Bool) → GivesAll old
    → ReadRecord rem old new found row
    → TellsTaken (rows_left rem old) (rows_left rem new) number row (Ok found)
found_or_not rem old new number row true gives r = takes_row rem old new row gives r
found_or_not rem old new number row false gives r = ends_rows rem old new row gives r

pub returns-in-Ok-clause-exact : goal.returns-in-Ok-clause-exact
returns-in-Ok-clause-exact g c =
    found_or_not g.R.Read.remaining c.args.rows.now c.read_record.new.self c.args.number _ c.in-Ok.found c.requires.gives
    (c.in-Ok.ensures.reads c.requires.gives.1 c.requires.gives.2)

pub read_fault-requires : goal.read_fault-requires
read_fault-requires g c =
    record { comes = came g.R.Read.remaining c.args.rows.now c.read_record.new.self c.requires.gives _ _ c.in-Err.ensures.why c.kind.ensures }

pub returns-in-Err-clause-exact : goal.returns-in-Err-clause-exact
returns-in-Err-clause-exact g c =
    explains_as g.R.Read.remaining c.args.rows.now c.read_record.new.self c.requires.gives _ _ c.in-Err.ensures.why c.kind.ensures c.args.number _
    c.read_fault.ensures.value

pub returns-in-Err-clause-failed : goal.returns-in-Err-clause-failed
returns-in-Err-clause-failed g c =
    has_stopped g.R.Read.remaining c.args.rows.now c.read_record.new.self c.requires.gives _ _ c.in-Err.ensures.why c.kind.ensures fault_of fault.ReadFault _
    (λ pos e is. cc) c.in-Err.ensures.fails c.read_fault.ensures.value
