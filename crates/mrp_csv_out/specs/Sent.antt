-- CSV output: what sending rows out answers. All were written, or a prefix where writing fails.
use Rattle.std.specs.Prelude.{ℕ, List, Option, Result, Ok, Err}
use Rattle.std.specs.Io.KnownBytes.{Appends}
use Rattle.mrp_csv_out.specs.declared.fault.ReportFault.{ReportFault}
use Rattle.mrp_csv_out.specs.declared.fault.ReportFault.TheVariants.{WriteFault, Memory}
use Rattle.mrp_csv_out.specs.Sending.{AppendsPrefix}

-- the whole text was written, or a prefix of it that lacks something at a failed write. Of want of memory it says
-- nothing: the writer is then as it was
abbrev pub SendsReport : {U : Type 0} → Option (List ℕ) → Option (List ℕ) → Result U ReportFault → List ℕ → Type 0
SendsReport old new (Ok _) text = Appends old new text
SendsReport old new (Err WriteFault) text = AppendsPrefix old new text
SendsReport old new (Err Memory) text = Unit {0}
