-- The library: what a text function's refusal says of the bytes, the first fault of their rows, or
-- what their table has or lacks.
use Rattle.std.specs.Prelude.{◌≡◌, ℕ, ◌≤◌, ◌⊎◌, List, [], ◌∷◌, Option, Some, None, option_map, slice_get, length}
use Rattle.std.specs.Prelude.{Contains, Err, false, string_bytes}
use Rattle.csv.specs.Reading.{strip_bom}
use Rattle.mrp_master_data.specs.Table.{Table, horizon}
use Rattle.mrp_commands.specs.declared.reading.Reading.{Reading}
use Rattle.mrp_validation.specs.Reading.{TellsRows, TellsRowsAs}
use Rattle.mrp_validation.specs.Written.{OfRecords}
use Rattle.mrp_net.specs.Names.{IsNamed}
use Rattle.mrp_loops.specs.Loop.{IsLoopFree}
use Rattle.mrp_loops.specs.Codes.{AreCodes}
use Rattle.mrp_loops.specs.Upstream.{IsLoopAnswered}
use Rattle.mrp_loops.specs.Sized.{IsSized}
use Rattle.mrp_loops.specs.BoundFaults.{IsSupplyTooLarge, IsNeedTooLarge}
use Rattle.mrp_api.specs.declared.fault.PairName.{PairName}
use Rattle.mrp_api.specs.declared.fault.TextFault.{TextFault}
use Rattle.mrp_api.specs.declared.fault.TextFault.TheVariants as fault
use Rattle.mrp_api.specs.Reports.{is_vendor}
use Rattle.mrp_api.specs.Text.{OfTable, OfTableWithin, Suits}
use Rattle.mrp_qty.specs.declared.limits.LimitSet.TheVariants as set

-- the names of the pair
abbrev pub IsPairName : Table → ℕ → PairName → Type 0
IsPairName N x name = IsNamed N x (string_bytes name.plant) (string_bytes name.item)

-- the names of the pairs, in their order
abbrev pub AreCalled : Table → List ℕ → List PairName → Type 0
AreCalled N [] [] = Unit {0}
AreCalled N [] (name ∷ names) = ⊥
AreCalled N (x ∷ xs) [] = ⊥
AreCalled N (x ∷ xs) (name ∷ names) = IsPairName N x name × AreCalled N xs names

-- the loop of the network that is answered, by the names of its pairs
abbrev pub IsLoopNamed : Table → List PairName → Type 0
IsLoopNamed N names = (pairs : List ℕ) × IsLoopAnswered N pairs × AreCalled N pairs names

-- the first pair in the table whose supply is above the bound
abbrev pub IsSupplyNamed : Table → PairName → Type 0
IsSupplyNamed N name = (x : ℕ) × IsSupplyTooLarge N x × IsPairName N x name

-- the first pair, by its code and then in the table, whose supply and need are above the bound,
-- where no supply is by itself
abbrev pub IsNeedNamed : Table → List ℕ → PairName → Type 0
IsNeedNamed N codes name = (x : ℕ) × IsNeedTooLarge N codes x × IsPairName N x name

-- what is asked of a table: its plan, or a report of all of it; the plan by threads; a pair in a period; a supplier and a
-- customer by their names
pub data Question : Type 0 where
  AskWhole : Question
  AskByThreads : Question
  AskPair : (plant item : List ℕ) (period : ℕ) → Question
  AskPlants : (from to : Option (List ℕ)) → Question

-- a pair is asked for, and the table has none of these names
abbrev pub LacksPair : Question → Table → Type 0
LacksPair (AskPair plant item period) N = (x : ℕ) → ¬ (IsNamed N x plant item)
LacksPair _ N = ⊥

-- the table has the pair that is asked for, and no such period
abbrev pub LacksPeriod : Question → Table → Type 0
LacksPeriod (AskPair plant item period) N = (x : ℕ) × IsNamed N x plant item × (horizon N ≤ period)
LacksPeriod _ N = ⊥

-- a name is given, and no plant has it
abbrev pub IsNoPlant : Table → Option (List ℕ) → Type 0
IsNoPlant N None = ⊥
IsNoPlant N (Some name) = ¬ Contains N.plants name

-- a name is given, and neither a plant nor a vendor has it
abbrev pub IsNoSupplier : Table → Option (List ℕ) → Type 0
IsNoSupplier N None = ⊥
IsNoSupplier N (Some name) = (¬ Contains N.plants name) × (is_vendor N name ≡ false)

-- a supplier and a customer are asked for, and the one's name is given and no plant's and no vendor's, or the other's no
-- plant's
abbrev pub LacksPlant : Question → Table → Type 0
LacksPlant (AskPlants from to) N = IsNoSupplier N from ⊎ IsNoPlant N to
LacksPlant _ N = ⊥

-- plants run in threads
abbrev pub IsThreaded : Question → Type 0
IsThreaded AskByThreads = Unit {0}
IsThreaded _ = ⊥

-- a plant of the network has the name
abbrev pub IsPlantName : Table → List ℕ → Type 0
IsPlantName N name = (p : ℕ) × (slice_get N.plants p ≡ Some name)

-- What a fault says of a table that was read. All but a loop and a quantity past the bound come of a table that can be
-- planned. Of a failed write and of refused memory it says nothing, and of a refused thread that threads were asked
-- for. For whom a gate was shut, and that turns were used, `GateExplains` says
abbrev pub RefusesTable : Question → Table → TextFault → Type 0
RefusesTable asked N (fault.Table e) = ⊥
RefusesTable asked N (fault.Loop names) = IsLoopNamed N names.items
RefusesTable asked N (fault.SupplyTooLarge name) = IsLoopFree N × IsSupplyNamed N name
RefusesTable asked N (fault.NeedTooLarge name) =
    IsLoopFree N × ((codes : List ℕ) × AreCodes N codes × IsNeedNamed N codes name)
RefusesTable asked N fault.NoPair = IsSized N × LacksPair asked N
RefusesTable asked N fault.NoPeriod = IsSized N × LacksPeriod asked N
RefusesTable asked N fault.NoPlant = IsSized N × LacksPlant asked N
RefusesTable asked N fault.ThreadRefused = IsSized N × IsThreaded asked
RefusesTable asked N (fault.GateShut name) = IsSized N × IsThreaded asked × IsPlantName N (string_bytes name)
RefusesTable asked N fault.Stopped = IsSized N × IsThreaded asked × (1 ≤ length N.plants)
RefusesTable asked N fault.WriteFault = Unit {0}
RefusesTable asked N fault.Memory = Unit {0}

-- what a fault says of these bytes: it is the first fault of their rows; or they make a table, and the fault says this
-- of it. Of refused memory it says nothing
abbrev pub Refuses : Option (List ℕ) → Question → TextFault → Type 0
Refuses known asked (fault.Table e) = OfRecords (option_map strip_bom known) (TellsRows set.Usual (Err e))
Refuses known asked fault.Memory = Unit {0}
Refuses known asked other = OfTable known (λ N. RefusesTable asked N other)

-- and what it says of bytes that are read as is asked: their table is as it has to be, where the fault isn't of a row
abbrev pub RefusesAs : Reading → Option (List ℕ) → Question → TextFault → Type 0
RefusesAs reading known asked (fault.Table e) = OfRecords (option_map strip_bom known) (TellsRowsAs reading (Err e))
RefusesAs reading known asked fault.Memory = Unit {0}
RefusesAs reading known asked other =
    OfTableWithin reading.limits known (λ N. Suits reading N × RefusesTable asked N other)
