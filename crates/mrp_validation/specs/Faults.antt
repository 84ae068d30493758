-- The faults for which validation may refuse a row, for each kind of row a list in the order in which its tests are
-- made.
use Rattle.std.specs.Prelude.{ℕ, ◌<◌, List, [], ◌∷◌, ◌++◌, Result, Ok, Err, IfErr}
use Rattle.std.specs.List.{Contains}
use Rattle.mrp_cal.specs.declared.fault.CalFault.TheVariants as cal
use Rattle.mrp_master_data.specs.Table.{Table}
use Rattle.mrp_validation.specs.declared.fault.TableFaultKind.{TableFaultKind}
use Rattle.mrp_validation.specs.declared.fault.TableFaultKind.TheVariants as fault
use Rattle.mrp_validation.specs.declared.kind.Kind.{Kind}
use Rattle.mrp_validation.specs.declared.kind.Kind.TheVariants as kind
use Rattle.mrp_qty.specs.declared.limits.LimitSet.{LimitSet}
use Rattle.mrp_validation.specs.Reading.{kind_of_row, row_after, Starts}

-- the number of a fault: its place in the order of the tests. A failed read comes before all of a row, and after its
-- tests that there is no row, that memory is wanting, that shipments don't stand in the order of their arrival, and last
-- that the table was cut off
abbrev pub fault_number : TableFaultKind → ℕ
fault_number fault.ReadFault = 0
fault_number fault.NotUtf8 = 1
fault_number fault.FieldCount = 2
fault_number fault.UnknownKind = 3
fault_number fault.KindOrder = 4
fault_number fault.BadName = 5
fault_number fault.BadNumber = 6
fault_number fault.BadRule = 7
fault_number fault.BadSupply = 8
fault_number (fault.CalendarFault cal.BadDate) = 9
fault_number (fault.CalendarFault cal.DaysOutOfRange) = 10
fault_number (fault.CalendarFault cal.PastEnd) = 11
fault_number fault.Repeated = 12
fault_number fault.UnknownPlant = 13
fault_number fault.UnknownPair = 14
fault_number fault.NotMade = 15
fault_number fault.NotSourced = 16
fault_number fault.SelfSource = 17
fault_number fault.TooMany = 18
fault_number fault.Empty = 19
fault_number fault.Memory = 20
fault_number fault.ResetOrder = 21
fault_number fault.Cut = 22

-- the tests of every row
abbrev pub faults_of_any : List TableFaultKind
faults_of_any = fault.NotUtf8 ∷ fault.FieldCount ∷ fault.UnknownKind ∷ fault.KindOrder ∷ []

-- and then those of its kind
abbrev pub faults_of_kind : Kind → List TableFaultKind
faults_of_kind kind.Run =
    fault.BadNumber ∷ fault.CalendarFault cal.BadDate ∷ fault.CalendarFault cal.DaysOutOfRange
    ∷ fault.CalendarFault cal.PastEnd ∷ []
faults_of_kind kind.Plant = fault.BadName ∷ fault.Repeated ∷ fault.TooMany ∷ []
faults_of_kind kind.Pair =
    fault.BadName ∷ fault.BadNumber ∷ fault.BadRule ∷ fault.BadSupply ∷ fault.Repeated ∷ fault.UnknownPlant
    ∷ fault.SelfSource ∷ fault.TooMany ∷ []
faults_of_kind kind.Bill =
    fault.BadName ∷ fault.BadNumber ∷ fault.Repeated ∷ fault.UnknownPlant ∷ fault.UnknownPair ∷ fault.NotMade
    ∷ fault.TooMany ∷ []
faults_of_kind kind.Demand = fault.BadName ∷ fault.BadNumber ∷ fault.UnknownPlant ∷ fault.UnknownPair ∷ fault.TooMany
    ∷ []
faults_of_kind kind.Receipt = fault.BadName ∷ fault.BadNumber ∷ fault.UnknownPlant ∷ fault.UnknownPair ∷ fault.TooMany
    ∷ []
faults_of_kind kind.Ship =
    fault.BadName ∷ fault.BadNumber ∷ fault.UnknownPlant ∷ fault.UnknownPair ∷ fault.NotSourced ∷ fault.TooMany ∷ []
faults_of_kind kind.Cum =
    fault.BadName ∷ fault.BadNumber ∷ fault.Repeated ∷ fault.UnknownPlant ∷ fault.UnknownPair ∷ fault.NotSourced
    ∷ fault.TooMany ∷ []
faults_of_kind kind.Reset =
    fault.BadName ∷ fault.BadNumber ∷ fault.Repeated ∷ fault.UnknownPlant ∷ fault.UnknownPair ∷ fault.NotSourced
    ∷ fault.ResetOrder ∷ []
faults_of_kind kind.Firm = fault.BadName ∷ fault.BadNumber ∷ fault.UnknownPlant ∷ fault.UnknownPair ∷ fault.TooMany
    ∷ []
faults_of_kind kind.Policy = fault.BadName ∷ fault.BadNumber ∷ fault.Repeated ∷ fault.UnknownPlant ∷ fault.UnknownPair
    ∷ []
faults_of_kind kind.Usage =
    fault.BadName ∷ fault.BadNumber ∷ fault.Repeated ∷ fault.UnknownPlant ∷ fault.UnknownPair ∷ fault.NotMade
    ∷ fault.TooMany ∷ []
faults_of_kind kind.Vendor =
    fault.BadName ∷ fault.BadNumber ∷ fault.Repeated ∷ fault.UnknownPlant ∷ fault.UnknownPair ∷ fault.NotSourced
    ∷ fault.SelfSource ∷ []
faults_of_kind kind.Day = fault.BadNumber ∷ fault.CalendarFault cal.BadDate ∷ fault.CalendarFault cal.PastEnd ∷ []
faults_of_kind kind.End = fault.BadNumber ∷ []

-- the faults that a row may have, where it has a kind and where it has none
abbrev pub faults_of : Result Kind TableFaultKind → List TableFaultKind
faults_of (Ok k) = faults_of_any ++ faults_of_kind k
faults_of (Err e) = faults_of_any

-- the numbers of faults rise
abbrev pub RiseFrom : TableFaultKind → List TableFaultKind → Type 0
RiseFrom e [] = Unit {0}
RiseFrom e (f ∷ fs) = (fault_number e < fault_number f) × RiseFrom f fs

abbrev pub Rise : List TableFaultKind → Type 0
Rise [] = Unit {0}
Rise (e ∷ es) = RiseFrom e es

-- a fault of the row's list
abbrev pub IsListedFault : List (List ℕ) → TableFaultKind → Type 0
IsListedFault row e = Contains (faults_of (kind_of_row row)) e

-- whatever the rows above, a row is refused for a fault of its list, as the first row and as a later one
pub record HasListedFaults (row : List (List ℕ)) : Type 0 where
  pub first : (limits : LimitSet) (e : TableFaultKind) → Starts limits row (Err e) → IsListedFault row e
  pub later : (s : Table × Kind) → IfErr (row_after s row) (IsListedFault row)
