-- The library: the faults of a text function that each step before a report may answer, and those that faults of the
-- loop check and of the bound are.
use Rattle.std.specs.Prelude.{ℕ, List, map, All, Err, Option, option_map}
use Rattle.csv.specs.Reading.{strip_bom}
use Rattle.mrp_commands.specs.declared.reading.Reading.{Reading}
use Rattle.mrp_validation.specs.Reading.{TellsRowsAs}
use Rattle.mrp_validation.specs.Written.{OfRecords}
use Rattle.mrp_master_data.specs.Table.{Table, IsPair}
use Rattle.mrp_loops.specs.declared.loops.LoopFault.{LoopFault}
use Rattle.mrp_loops.specs.declared.loops.LoopFault.TheVariants as check
use Rattle.mrp_loops.specs.declared.sized.BoundFault.{BoundFault}
use Rattle.mrp_loops.specs.declared.sized.BoundFault.TheVariants as bound
use Rattle.mrp_api.specs.declared.fault.TextFault.{TextFault}
use Rattle.mrp_api.specs.declared.fault.TextFault.TheVariants as fault
use Rattle.mrp_api.specs.Refusals.{AreCalled, IsLoopNamed, IsNeedNamed, IsPairName, IsSupplyNamed}

-- a loop is of pairs of the network
abbrev pub AreLoopPairs : Table → LoopFault → Type 0
AreLoopPairs N (check.Loop pairs) = All (λ x. IsPair N x.0) pairs.items
AreLoopPairs N check.Memory = Unit {0}

-- the same loop, by the names of its pairs
abbrev pub IsOfLoop : Table → LoopFault → TextFault → Type 0
IsOfLoop N (check.Loop pairs) (fault.Loop names) = AreCalled N (map (λ x. x.0) pairs.items) names.items
IsOfLoop N check.Memory fault.Memory = Unit {0}
IsOfLoop N _ _ = ⊥

-- a pair past the bound is one of the network
abbrev pub IsBoundPair : Table → BoundFault → Type 0
IsBoundPair N (bound.SupplyTooLarge x) = IsPair N x.0
IsBoundPair N (bound.NeedTooLarge x) = IsPair N x.0
IsBoundPair N bound.Memory = Unit {0}

-- the same fault, by the names of its pair
abbrev pub IsOfBound : Table → BoundFault → TextFault → Type 0
IsOfBound N (bound.SupplyTooLarge x) (fault.SupplyTooLarge name) = IsPairName N x.0 name
IsOfBound N (bound.NeedTooLarge x) (fault.NeedTooLarge name) = IsPairName N x.0 name
IsOfBound N bound.Memory fault.Memory = Unit {0}
IsOfBound N _ _ = ⊥

-- ---- the faults of each step

-- reading answers the first fault of the rows, or memory was wanting for the network
abbrev pub NetworkAnswers : Reading → Option (List ℕ) → TextFault → Type 0
NetworkAnswers reading known (fault.Table e) = OfRecords (option_map strip_bom known) (TellsRowsAs reading (Err e))
NetworkAnswers reading known fault.Memory = Unit {0}
NetworkAnswers reading known _ = ⊥

-- the loop check answers a loop, or that memory was wanting
abbrev pub LoopCheckAnswers : Table → TextFault → Type 0
LoopCheckAnswers N (fault.Loop names) = IsLoopNamed N names.items
LoopCheckAnswers N fault.Memory = Unit {0}
LoopCheckAnswers N _ = ⊥

-- the bound answers a pair past it, or that memory was wanting
abbrev pub BoundAnswers : Table → List ℕ → TextFault → Type 0
BoundAnswers N codes (fault.SupplyTooLarge name) = IsSupplyNamed N name
BoundAnswers N codes (fault.NeedTooLarge name) = IsNeedNamed N codes name
BoundAnswers N codes fault.Memory = Unit {0}
BoundAnswers N codes _ = ⊥
