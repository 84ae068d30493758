-- The library: what it answers to a choice, which report its text is.
use Rattle.std.specs.Prelude.{◌≢◌, ◌≤◌, ℕ, true, false, List, Result, Ok, Err}
use Rattle.mrp_master_data.specs.Table.{Table}
use Rattle.mrp_commands.specs.declared.choice.Choice.{Choice}
use Rattle.mrp_commands.specs.declared.choice.Choice.TheVariants.{Plan, Check, Reach, Peg, Cums}
use Rattle.mrp_commands.specs.declared.choice.Choice.TheVariants.{Orders, Schedule, Pegs, Advice, Shortages}
use Rattle.mrp_commands.specs.declared.choice.TheConstants.{MOST_CAPACITY}
use Rattle.mrp_commands.specs.declared.request.Request.{Request}
use Rattle.mrp_api.specs.declared.fault.TextFault.{TextFault}
use Rattle.mrp_api.specs.declared.fault.TextFault.TheVariants.{GateShut, WriteFault}
use Rattle.mrp_api.specs.Fault.{IsBeforeWriting, status_of}
use Rattle.mrp_report.specs.Headings.{code_names, lane_names, peg_names, pegs_names}
use Rattle.mrp_api.specs.Text.{IsPlanReport, Suits}
use Rattle.mrp_api.specs.Reports.{IsCodeReport, IsPegReport, IsCumReport, IsOrderReport, IsHeaded}
use Rattle.mrp_api.specs.Refusals.{Question, AskWhole, AskByThreads, AskPair, AskPlants}
use Rattle.mrp_commands.specs.Given.{name_of}
use Rattle.mrp_api.specs.Reports.{IsReachReport, IsScheduleReport, IsPegsReport, IsAdviceReport, IsShortagesReport}

-- what one thread can be asked for: every report but a plan by threads; a plan with mailboxes for 1 to MOST_CAPACITY
-- records
abbrev pub IsAlone : Choice → Type 0
IsAlone (Plan workers capacity true) = (1 ≤ capacity) × (capacity ≤ MOST_CAPACITY)
IsAlone (Plan workers capacity false) = ⊥
IsAlone _ = Unit {0}

-- the report that a choice asks for
abbrev pub IsAnswer : Choice → Table → List ℕ → Type 0
IsAnswer (Plan workers capacity single) = IsPlanReport
IsAnswer (Check heading) = λ N. IsHeaded heading code_names (IsCodeReport N)
IsAnswer (Reach heading) = IsReachReport heading
IsAnswer (Peg plant item period heading) = λ N. IsHeaded heading peg_names (IsPegReport plant.now item.now period N)
IsAnswer (Cums heading) = λ N. IsHeaded heading lane_names (IsCumReport N)
IsAnswer (Orders until heading) = IsOrderReport until heading
IsAnswer (Schedule from to heading) = IsScheduleReport (name_of from) (name_of to) heading
IsAnswer (Pegs heading) = λ N. IsHeaded heading pegs_names (IsPegsReport N)
IsAnswer (Advice until reach heading) = IsAdviceReport until reach heading
IsAnswer (Shortages heading) = IsShortagesReport heading

-- and so it is of a table that is as a request wants it
abbrev pub IsRequested : Request → Table → List ℕ → Type 0
IsRequested request N text = Suits request.reading N × IsAnswer request.choice N text

-- what a choice asks of a table
abbrev pub question_of : Choice → Question
question_of (Plan workers capacity true) = AskWhole
question_of (Plan workers capacity false) = AskByThreads
question_of (Check heading) = AskWhole
question_of (Reach heading) = AskWhole
question_of (Peg plant item period heading) = AskPair plant.now item.now period
question_of (Cums heading) = AskWhole
question_of (Orders until heading) = AskWhole
question_of (Schedule from to heading) = AskPlants (name_of from) (name_of to)
question_of (Pegs heading) = AskWhole
question_of (Advice until reach heading) = AskWhole
question_of (Shortages heading) = AskWhole

-- the faults after which nothing of the report is written: of a plan those that are met before its first byte,
-- of every other report all but a failed write
abbrev pub IsBeforeReport : Choice → TextFault → Type 0
IsBeforeReport (Plan workers capacity single) fault = IsBeforeWriting fault
IsBeforeReport (Check heading) fault = fault ≢ WriteFault
IsBeforeReport (Reach heading) fault = fault ≢ WriteFault
IsBeforeReport (Peg plant item period heading) fault = fault ≢ WriteFault
IsBeforeReport (Cums heading) fault = fault ≢ WriteFault
IsBeforeReport (Orders until heading) fault = fault ≢ WriteFault
IsBeforeReport (Schedule from to heading) fault = fault ≢ WriteFault
IsBeforeReport (Pegs heading) fault = fault ≢ WriteFault
IsBeforeReport (Advice until reach heading) fault = fault ≢ WriteFault
IsBeforeReport (Shortages heading) fault = fault ≢ WriteFault

-- no shut gate
abbrev pub IsNoShutGate : TextFault → Type 0
IsNoShutGate (GateShut plant) = ⊥
IsNoShutGate _ = Unit {0}

-- the status of the process: 0 where the work was done, else that of the fault
abbrev pub exit_status_of : {U : Type 0} → Result U TextFault → ℕ
exit_status_of (Ok done) = 0
exit_status_of (Err fault) = status_of fault
