-- The library: what holds of its text functions' reports and refusals of one table's bytes.
use Rattle.std.specs.Prelude.{◌≡◌, ◌↔◌, true, List, ◌++◌, ℕ, Some, Ok}
use Rattle.csv.specs.Reading.{default_config, records, strip_bom}
use Rattle.mrp_qty.specs.declared.limits.LimitSet.{LimitSet}
use Rattle.mrp_master_data.specs.Table.{Table}
use Rattle.mrp_validation.specs.Reading.{Reads}
use Rattle.mrp_commands.specs.declared.choice.Choice.{Choice}
use Rattle.mrp_commands.specs.declared.request.Request.{Request}
use Rattle.mrp_api.specs.declared.fault.TextFault.{TextFault}
use Rattle.mrp_api.specs.Answer.{IsAnswer, IsRequested, question_of}
use Rattle.mrp_api.specs.Fault.{status_of}
use Rattle.mrp_api.specs.Text.{IsTableOf, OfTable, OfTableWithin}
use Rattle.mrp_api.specs.Refusals.{Refuses, RefusesAs}

-- bytes are a table exactly where the grammar reads that table in their records
abbrev pub TablesAreRead : Type 0
TablesAreRead = (limits : LimitSet) (bytes : List ℕ) (N : Table) → IsTableOf limits (Some bytes) N
    ↔ Reads limits (records default_config (strip_bom bytes)) (Ok N)

-- bytes make one table at most
abbrev pub BytesMakeOneTable : Type 0
BytesMakeOneTable =
    (limits : LimitSet) (bytes : List ℕ) (N M : Table) → IsTableOf limits (Some bytes) N
    → IsTableOf limits (Some bytes) M
    → N ≡ M

-- bytes have one report at most of the kind that is chosen
abbrev pub ReportsAreOne : Type 0
ReportsAreOne =
    (limits : LimitSet) (choice : Choice) (bytes a b : List ℕ)
    → OfTableWithin limits (Some bytes) (λ N. IsAnswer choice N a)
    → OfTableWithin limits (Some bytes) (λ N. IsAnswer choice N b)
    → a ≡ b

-- where bytes have a report, no fault is theirs but one of the machine
abbrev pub ReportsExcludeRefusals : Type 0
ReportsExcludeRefusals =
    (choice : Choice) (bytes text : List ℕ) (fault : TextFault)
    → OfTable (Some bytes) (λ N. IsAnswer choice N text) → Refuses (Some bytes) (question_of choice) fault
    → status_of fault ≡ 3

-- so it is of a request
abbrev pub RequestsExcludeRefusals : Type 0
RequestsExcludeRefusals =
    (request : Request) (bytes text : List ℕ) (fault : TextFault)
    → OfTableWithin request.reading.limits (Some bytes) (λ N. IsRequested request N text)
    → RefusesAs request.reading (Some bytes) (question_of request.choice) fault
    → status_of fault ≡ 3

-- bytes that begin others, where both are tables and the first one ends with an `end` row, are those of the same table
abbrev pub CutTablesAreOne : Type 0
CutTablesAreOne =
    (limits : LimitSet) (bytes more : List ℕ) (N M : Table) → IsTableOf limits (Some bytes) N
    → IsTableOf limits (Some (bytes ++ more)) M → N.ended ≡ true → N ≡ M

-- so where a table has to be whole, what was cut off it has no report, or the report of all of it
abbrev pub CutTablesHaveNoOtherReport : Type 0
CutTablesHaveNoOtherReport =
    (request : Request) (bytes more a b : List ℕ) → request.reading.whole ≡ true
    → OfTableWithin request.reading.limits (Some bytes) (λ N. IsRequested request N a)
    → OfTableWithin request.reading.limits (Some (bytes ++ more)) (λ N. IsRequested request N b) → a ≡ b
