-- The program `mrp`: with which status it ends, and what it reports, where its arguments are refused
-- or ask for help or the version.
use Rattle.std.specs.Prelude.{ℕ, Option, Some, None, Result, Ok, Err}
use Rattle.mrp_command_line.specs.declared.meaning.Meaning.{Meaning}
use Rattle.mrp_command_line.specs.declared.meaning.Meaning.TheVariants as means
use Rattle.mrp_csv_out.specs.declared.fault.ReportFault.{ReportFault}
use Rattle.mrp_csv_out.specs.declared.fault.ReportFault.TheVariants as report
use Rattle.mrp_api.specs.declared.fault.TextFault.{TextFault}
use Rattle.mrp_api.specs.declared.fault.TextFault.TheVariants as fault
use Rattle.mrp_api.specs.Ending.{help_fault, help_status}

-- after the words were refused: 3 for want of memory, that of help after help or the version, and else 2
abbrev pub refusal_status : {U E : Type 0} → Meaning → Result U E → ℕ
refusal_status means.Memory printed = 3
refusal_status means.Asked printed = help_status printed
refusal_status means.Refused printed = 2

-- what printing answered; for want of memory nothing was to be printed
abbrev pub refusal_printed : {U E : Type 0} → Meaning → Result U E → Result (Unit {0}) ReportFault
refusal_printed means.Memory printed = Ok tt
refusal_printed _ (Ok printed) = Ok tt
refusal_printed _ (Err failed) = Err report.WriteFault

-- after the words were refused, `clap` has said why; want of memory is for the program to say
abbrev pub refusal_fault : {U E : Type 0} → Meaning → Result U E → Option TextFault
refusal_fault means.Memory printed = Some fault.Memory
refusal_fault means.Asked printed = help_fault printed
refusal_fault means.Refused printed = None
