-- The library for C: what a call answers, a status, and a text in the caller's buffer. `old` and `new` are the bytes
-- of the buffer before the call and after it, and `size` is the length that was told.
use Rattle.std.specs.Prelude.{◌≡◌, ◌≢◌, ℕ, ◌⊎◌, List, codes, Some, Result, Ok, Err, IsUtf8}
use Rattle.mrp_commands.specs.declared.choice.Heading.{Heading}
use Rattle.mrp_commands.specs.declared.reading.Reading.{Reading}
use Rattle.mrp_master_data.specs.Table.{Table}
use Rattle.mrp_api.specs.declared.fault.TextFault.{TextFault}
use Rattle.mrp_api.specs.declared.fault.TextFault.TheVariants.{Memory, WriteFault}
use Rattle.mrp_api.specs.Fault.{status_of}
use Rattle.mrp_api.specs.Lines.{fault_line}
use Rattle.mrp_api.specs.Refusals.{Question, AskPlants, RefusesAs}
use Rattle.mrp_api.specs.Reports.{IsScheduleReport}
use Rattle.mrp_api.specs.Text.{OfTableWithin, Suits}
use Rattle.mrp_c_api.specs.Buffer.{HandsOver}
use Rattle.mrp_c_api.specs.Options.{name_given}

-- ---- after the work

-- a fault, by its status and its whole line
abbrev pub TellsFault : TextFault → ℕ → List ℕ → List ℕ → ℕ → Type 0
TellsFault fault status old new size = (status ≡ status_of fault) × HandsOver (fault_line fault) old new size

-- the fault of the work, or where its line lacks memory that fault
abbrev pub TellsOrMemory : TextFault → ℕ → List ℕ → List ℕ → ℕ → Type 0
TellsOrMemory fault status old new size = TellsFault fault status old new size ⊎ TellsFault Memory status old new size

-- the report, or a fault: a report in memory isn't written only where that is wanting
abbrev pub Tells : {U : Type 0} → Result U TextFault → List ℕ → ℕ → List ℕ → List ℕ → ℕ → Type 0
Tells (Ok done) report status old new size = (status ≡ 0) × HandsOver report old new size
Tells (Err WriteFault) report status old new size = TellsFault Memory status old new size
Tells (Err fault) report status old new size = TellsOrMemory fault status old new size

-- ---- of a table

-- at 0 the text is the report of the table that these bytes are, and the table is as it has to be; else it is the line of
-- a fault that is theirs, never of a failed write, and the status is that of the fault, 1 or 3
abbrev pub Answers : List ℕ → Reading → Question → (Table → List ℕ → Type 0) → ℕ → List ℕ → List ℕ → ℕ → Type 0
Answers bytes reading asked IsReport status old new size =
    ((text : List ℕ) × OfTableWithin reading.limits (Some bytes) (λ N. Suits reading N × IsReport N text) × (status ≡ 0)
    × HandsOver text old new size)
    ⊎ ((fault : TextFault) × (fault ≢ WriteFault) × RefusesAs reading (Some bytes) asked fault
    × TellsFault fault status old new size)

-- what a name is refused by that is no text
abbrev pub name_line : List ℕ
name_line = codes "mrp: a name is not UTF-8\n"

-- of schedules, where names are given by their bytes: 2 where one is no text, and else so of the plants of these names
abbrev pub AnswersNamed : List ℕ → Reading → List ℕ → List ℕ → Heading → ℕ → List ℕ → List ℕ → ℕ → Type 0
AnswersNamed bytes reading from to heading status old new size =
    (IsUtf8 from × IsUtf8 to
    × Answers bytes reading (AskPlants (name_given from) (name_given to))
    (IsScheduleReport (name_given from) (name_given to) heading) status old new size)
    ⊎ (((¬ IsUtf8 from) ⊎ (¬ IsUtf8 to)) × (status ≡ 2) × HandsOver name_line old new size)
