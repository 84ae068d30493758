-- The library: what the faults of a text function are called, and with which status the program ends.
use Rattle.std.specs.Prelude.{◌≡◌, ℕ}
use Rattle.mrp_csv_out.specs.declared.fault.ReportFault.{ReportFault}
use Rattle.mrp_csv_out.specs.declared.fault.ReportFault.TheVariants as report
use Rattle.mrp_validation.specs.declared.fault.TableFaultKind.{TableFaultKind}
use Rattle.mrp_validation.specs.declared.fault.TableFaultKind.TheVariants as kind
use Rattle.mrp_api.specs.declared.fault.TextFault.{TextFault}
use Rattle.mrp_api.specs.declared.fault.TextFault.TheVariants.{Table, Loop, SupplyTooLarge, NeedTooLarge, NoPair}
use Rattle.mrp_api.specs.declared.fault.TextFault.TheVariants.{NoPeriod, NoPlant}
use Rattle.mrp_api.specs.declared.fault.TextFault.TheVariants.{ThreadRefused, GateShut, Stopped, WriteFault, Memory}

-- the fault of a text after a fault of a report
abbrev pub IsOfReport : ReportFault → TextFault → Type 0
IsOfReport report.WriteFault fault = fault ≡ WriteFault
IsOfReport report.Memory fault = fault ≡ Memory

-- 1 for a table that is refused, 3 where it could not be read
abbrev pub table_status_of : TableFaultKind → ℕ
table_status_of kind.ReadFault = 3
table_status_of kind.Memory = 3
table_status_of _ = 1

-- 1 for input that is refused, 3 for what the machine refused
abbrev pub status_of : TextFault → ℕ
status_of (Table fault) = table_status_of fault.kind
status_of (Loop pairs) = 1
status_of (SupplyTooLarge pair) = 1
status_of (NeedTooLarge pair) = 1
status_of NoPair = 1
status_of NoPeriod = 1
status_of NoPlant = 1
status_of ThreadRefused = 3
status_of (GateShut plant) = 3
status_of Stopped = 3
status_of WriteFault = 3
status_of Memory = 3

-- the faults that are met before the first byte is sent
abbrev pub IsBeforeWriting : TextFault → Type 0
IsBeforeWriting WriteFault = ⊥
IsBeforeWriting Memory = ⊥
IsBeforeWriting _ = Unit {0}

-- the faults after the tests of the input
abbrev pub IsLate : TextFault → Type 0
IsLate WriteFault = Unit {0}
IsLate Memory = Unit {0}
IsLate _ = ⊥
