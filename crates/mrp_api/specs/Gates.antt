-- The library: what the fault of a text function says of the gate and of the turns of the
-- plants that it ran by threads.
use Rattle.std.specs.Prelude.{◌≡◌, ℕ, ◌<◌, List, length, Some, slice_get, Result, IfErr, OnOk, string_bytes}
use Rattle.mrp_master_data.specs.Table.{Table}
use Rattle.mrp_run.specs.Faults.{AllTurned, WasShut, WasSpent}
use Rattle.mrp_api.specs.declared.fault.TextFault.{TextFault}
use Rattle.mrp_api.specs.declared.fault.TextFault.TheVariants as fault

-- the name of a plant of the network of which this holds
abbrev pub IsShutPlant : (ℕ → Type 0) → Table → List ℕ → Type 0
IsShutPlant Shut N name = (p : ℕ) × (slice_get N.plants p ≡ Some name) × Shut p

-- some plant of the network has used its turns
abbrev pub IsTurnsSpent : (ℕ → Type 0) → Table → Type 0
IsTurnsSpent Spent N = (p : ℕ) × (p < length N.plants) × Spent p

-- the gate was shut for the plant that is named; where the run was stopped, a plant has used its turns
abbrev pub IsGateFault : (ℕ → Type 0) → (ℕ → Type 0) → ((Table → Type 0) → Type 0) → TextFault → Type 0
IsGateFault Shut Spent Of (fault.GateShut name) = Of (λ N. IsShutPlant Shut N (string_bytes name))
IsGateFault Shut Spent Of fault.Stopped = Of (λ N. IsTurnsSpent Spent N)
IsGateFault Shut Spent Of _ = Unit {0}

-- of a plant and a number counted from 1: `Open` holds of a turn to which the gate was open, `Shut` of one to which it
-- was shut, and `Worker` of a worker to which it was shut. A program that has a gate of its own says what each of
-- the three means; `Of` says which table the input spells

-- where a run ended well, the gate was open to the first turns of each plant, one or more. A shut gate was shut for the
-- plant that is named, and where the run was stopped, some plant has used its turns
pub record GateExplains {U : Type 0} (Open Shut Worker : ℕ → ℕ → Type 0) (workers turns : ℕ)
    (Of : (Table → Type 0) → Type 0)
    (result : Result U TextFault) : Type 0 where
  pub turned : OnOk result (Of (λ N. AllTurned Open turns (length N.plants)))
  pub shut : IfErr result (IsGateFault (WasShut Open Shut Worker workers turns) (WasSpent Open turns) Of)
