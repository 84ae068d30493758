-- The library: what its text functions are about, the table of some bytes, the plan report of it, and what
-- becomes of a text that is written.
use Rattle.std.specs.Prelude.{◌≡◌, true, ℕ, ◌⊎◌, List, ◌++◌, Option, option_map, length, Result, Ok, Err}
use Rattle.std.specs.Io.KnownBytes.{Appends, Keeps}
use Rattle.csv.specs.Reading.{strip_bom}
use Rattle.mrp_commands.specs.declared.reading.Reading.{Reading}
use Rattle.mrp_qty.specs.declared.limits.LimitSet.{LimitSet}
use Rattle.mrp_qty.specs.declared.limits.LimitSet.TheVariants as set
use Rattle.mrp_master_data.specs.Table.{Table, IsTable}
use Rattle.mrp_validation.specs.Written.{OfRecords}
use Rattle.mrp_validation.specs.Written.{AreNumbered, rows_of}
use Rattle.mrp_net.specs.PlanLaws.{OfPlan}
use Rattle.mrp_loops.specs.Sized.{IsSized}
use Rattle.mrp_csv_out.specs.Sending.{AppendsPrefix, AppendsSome}
use Rattle.mrp_report.specs.Report.{plan_text, late_text}
use Rattle.mrp_api.specs.declared.fault.TextFault.{TextFault}
use Rattle.mrp_api.specs.declared.fault.TextFault.TheVariants as fault

-- ---- the table of a text

-- the bytes are the table of these limits, written out: it says what a table says, the records of the bytes, without
-- a byte order mark, are its rows, and its items are numbered in the order in which its pairs name them. Of bytes that
-- aren't known nothing is said but that it is a table of these limits
pub record IsTableOf (limits : LimitSet) (known : Option (List ℕ)) (N : Table) : Type 0 where
  pub limits_are : N.limits ≡ limits
  pub table : IsTable N
  pub rows : OfRecords (option_map strip_bom known)
      (λ rows. (rows ≡ rows_of N) × AreNumbered 0 N.pairs (length N.items))

-- so it is of some table of these bytes within the limits, of which there is one at most; where they aren't known, of
-- some table
abbrev pub OfTableWithin : LimitSet → Option (List ℕ) → (Table → Type 0) → Type 0
OfTableWithin limits known says = (N : Table) × IsTableOf limits known N × says N

-- so it is of some table within the usual limits
abbrev pub OfTable : Option (List ℕ) → (Table → Type 0) → Type 0
OfTable = OfTableWithin set.Usual

-- a table that has to be whole ends with an `end` row
abbrev pub Suits : Reading → Table → Type 0
Suits reading N = reading.whole ≡ true → N.ended ≡ true

-- ---- reports

-- the network has no loop and is within the bound, and these are the plan rows and then the late rows of its plan
abbrev pub IsPlanReport : Table → List ℕ → Type 0
IsPlanReport N text = IsSized N × OfPlan N (λ plans. text ≡ plan_text N plans ++ late_text N plans)

-- what became of a text: all of it was written; a prefix that lacks something, at a failed write; nothing or some
-- prefix, out of memory; nothing, at every other fault
abbrev pub Writes : {U : Type 0} → Option (List ℕ) → Option (List ℕ) → Result U TextFault → (List ℕ → Type 0) → Type 0
Writes old new (Ok _) IsReport = (text : List ℕ) × IsReport text × Appends old new text
Writes old new (Err fault.WriteFault) IsReport = (text : List ℕ) × IsReport text × AppendsPrefix old new text
Writes old new (Err fault.Memory) IsReport = Keeps old new
    ⊎ ((text : List ℕ) × IsReport text × AppendsSome old new text)
Writes old new (Err _) IsReport = Keeps old new
