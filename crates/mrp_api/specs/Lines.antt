-- The library: the lines that faults of a text function are reported by.
use Rattle.std.specs.Prelude.{ℕ, List, [], ◌∷◌, ◌++◌, decimal, codes, string_bytes, Option, Result, MatchResult}
use Rattle.std.specs.Io.KnownBytes.{Appends}
use Rattle.mrp_csv_out.specs.Sending.{AppendsPrefix}
use Rattle.std.specs.List.{flat_map}
use Rattle.mrp_cal.specs.declared.fault.CalFault.{CalFault}
use Rattle.mrp_cal.specs.declared.fault.CalFault.TheVariants.{BadDate, DaysOutOfRange, PastEnd}
use Rattle.mrp_validation.specs.declared.fault.TableFault.{TableFault}
use Rattle.mrp_validation.specs.declared.fault.TableFaultKind.{TableFaultKind}
use Rattle.mrp_validation.specs.declared.fault.TableFaultKind.TheVariants as kind
use Rattle.mrp_api.specs.declared.fault.PairName.{PairName}
use Rattle.mrp_api.specs.declared.fault.TextFault.{TextFault}
use Rattle.mrp_api.specs.declared.fault.TextFault.TheVariants.{Table, Loop, SupplyTooLarge, NeedTooLarge, NoPair}
use Rattle.mrp_api.specs.declared.fault.TextFault.TheVariants.{NoPeriod, NoPlant}
use Rattle.mrp_api.specs.declared.fault.TextFault.TheVariants.{ThreadRefused, GateShut, Stopped, WriteFault, Memory}

-- the whole text was sent, or else a prefix of it
abbrev pub SendsText : {U E : Type 0} → Option (List ℕ) → Option (List ℕ) → Result U E → List ℕ → Type 0
SendsText old new result text = MatchResult result (λ _. Appends old new text) (λ _. AppendsPrefix old new text)

-- pieces of text one after the other
abbrev pub concatenated : List (List ℕ) → List ℕ
concatenated pieces = flat_map (λ piece. piece) pieces

-- what a fault of the calendar is called
abbrev pub calendar_word : CalFault → List ℕ
calendar_word BadDate = codes "CalendarFault BadDate"
calendar_word DaysOutOfRange = codes "CalendarFault DaysOutOfRange"
calendar_word PastEnd = codes "CalendarFault PastEnd"

-- what a fault of the table is called
abbrev pub table_fault_word : TableFaultKind → List ℕ
table_fault_word kind.ReadFault = codes "ReadFault"
table_fault_word kind.NotUtf8 = codes "NotUtf8"
table_fault_word kind.FieldCount = codes "FieldCount"
table_fault_word kind.UnknownKind = codes "UnknownKind"
table_fault_word kind.KindOrder = codes "KindOrder"
table_fault_word kind.BadName = codes "BadName"
table_fault_word kind.BadNumber = codes "BadNumber"
table_fault_word kind.BadRule = codes "BadRule"
table_fault_word kind.BadSupply = codes "BadSupply"
table_fault_word (kind.CalendarFault fault) = calendar_word fault
table_fault_word kind.Repeated = codes "Repeated"
table_fault_word kind.UnknownPlant = codes "UnknownPlant"
table_fault_word kind.UnknownPair = codes "UnknownPair"
table_fault_word kind.NotMade = codes "NotMade"
table_fault_word kind.NotSourced = codes "NotSourced"
table_fault_word kind.SelfSource = codes "SelfSource"
table_fault_word kind.TooMany = codes "TooMany"
table_fault_word kind.Empty = codes "Empty"
table_fault_word kind.Memory = codes "Memory"
table_fault_word kind.ResetOrder = codes "ResetOrder"
table_fault_word kind.Cut = codes "Cut"

unfoldable pub row_line : TableFault → List ℕ
row_line fault = concatenated (codes "mrp: row " ∷ decimal fault.row ∷ codes ": " ∷ table_fault_word fault.kind
    ∷ codes "\n" ∷ [])

-- the line of a fault of the table: want of memory has no row
abbrev pub table_line_of : TableFault → TableFaultKind → List ℕ
table_line_of fault kind.Memory = codes "mrp: Memory\n"
table_line_of fault _ = row_line fault

unfoldable pub table_line : TableFault → List ℕ
table_line fault = table_line_of fault fault.kind

-- a fault that names a pair
unfoldable pub pair_line : List ℕ → PairName → List ℕ
pair_line words pair = concatenated (words ∷ string_bytes pair.plant ∷ codes "/" ∷ string_bytes pair.item ∷ codes "\n"
    ∷ [])

-- a pair of a loop
unfoldable pub loop_word : PairName → List ℕ
loop_word pair = concatenated (codes " " ∷ string_bytes pair.plant ∷ codes "/" ∷ string_bytes pair.item ∷ [])

unfoldable pub loop_line : List PairName → List ℕ
loop_line pairs = codes "mrp: loop" ++ (flat_map loop_word pairs ++ codes "\n")

-- the line of a gate that was shut for a plant
unfoldable pub gate_line : List ℕ → List ℕ
gate_line plant = concatenated (codes "mrp: GateShut " ∷ plant ∷ codes "\n" ∷ [])

-- the line of each fault
abbrev pub fault_line : TextFault → List ℕ
fault_line (Table fault) = table_line fault
fault_line (Loop pairs) = loop_line pairs.items
fault_line (SupplyTooLarge pair) = pair_line (codes "mrp: SupplyTooLarge ") pair
fault_line (NeedTooLarge pair) = pair_line (codes "mrp: NeedTooLarge ") pair
fault_line NoPair = codes "mrp: no pair\n"
fault_line NoPeriod = codes "mrp: no period\n"
fault_line ThreadRefused = codes "mrp: ThreadRefused\n"
fault_line (GateShut plant) = gate_line (string_bytes plant)
fault_line Stopped = codes "mrp: Stopped\n"
fault_line WriteFault = codes "mrp: WriteFault\n"
fault_line Memory = codes "mrp: Memory\n"
fault_line NoPlant = codes "mrp: no plant\n"
