-- The library: with which status a program that calls it ends, and what is reported then.
use Rattle.std.specs.Prelude.{◌≡◌, ℕ, List, codes, Option, Some, None, Result, Ok, Err, IfErr}
use Rattle.std.specs.declared.io.ErrorKind.{ErrorKind}
use Rattle.std.specs.declared.io.ErrorKind.TheVariants as cause
use Rattle.mrp_csv_out.specs.declared.fault.ReportFault.{ReportFault}
use Rattle.mrp_csv_out.specs.declared.fault.ReportFault.TheVariants.{WriteFault}
use Rattle.mrp_api.specs.declared.fault.TextFault.{TextFault}
use Rattle.mrp_api.specs.declared.fault.TextFault.TheVariants as fault
use Rattle.mrp_api.specs.Lines.{SendsText, fault_line}

-- after help or the version: 0 where it was printed, and else 3
abbrev pub help_status : {U E : Type 0} → Result U E → ℕ
help_status (Ok printed) = 0
help_status (Err failed) = 3

-- where the words can't be read: 2 for a word that is no text, and else 3
abbrev pub IsStatusOfUnread : ErrorKind → ℕ → Type 0
IsStatusOfUnread cause.InvalidData status = status ≡ 2
IsStatusOfUnread _ status = status ≡ 3

-- ---- what is reported

-- a line, or a prefix of it where a write failed
pub record TellsLine (old new : Option (List ℕ)) (reported : Result (Unit {0}) ReportFault)
    (line : List ℕ) : Type 0 where
  pub sent : SendsText old new reported line
  pub failed : IfErr reported (λ met. met ≡ WriteFault)

-- where there is a fault, its line; else nothing, and nothing failed
abbrev pub Reports : {W : Type 0} → (W → Option (List ℕ)) → W → W → Result (Unit {0}) ReportFault → Option TextFault
    → Type 0
Reports contents old new reported None = (new ≡ old) × (reported ≡ Ok tt)
Reports contents old new reported (Some met) = TellsLine (contents old) (contents new) reported (fault_line met)

-- after help or the version: that it could not be printed
abbrev pub help_fault : {U E : Type 0} → Result U E → Option TextFault
help_fault (Ok printed) = None
help_fault (Err failed) = Some fault.WriteFault

-- where the words can't be read
abbrev pub unread_line : ErrorKind → List ℕ
unread_line cause.InvalidData = codes "mrp: a word of the command is not UTF-8\n"
unread_line _ = fault_line fault.Memory

-- where a period above 103 is asked about, and the table is to be within the usual limits
abbrev pub beyond_line : List ℕ
beyond_line = codes "mrp: a period above 103 wants --large\n"
