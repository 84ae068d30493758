-- The run by threads: which fault it answers where several plants met one.
use Rattle.std.specs.Prelude.{◌≡◌, ◌⊎◌, ℕ, ◌<◌, ◌≤◌, List, [], length, Option, All, Contains, MatchOption}
use Rattle.mrp_master_data.specs.Table.{Table}
use Rattle.mrp_run.specs.declared.fault.RunFault.{RunFault}
use Rattle.mrp_run.specs.declared.fault.RunFault.TheVariants.{Memory, ThreadRefused, GateShut, Stopped}

-- the number of a fault
abbrev pub run_fault_number : RunFault → ℕ
run_fault_number Memory = 1
run_fault_number ThreadRefused = 2
run_fault_number (GateShut plant) = 3
run_fault_number Stopped = 4

-- the plant whose gate was shut
abbrev pub plant_in_fault : RunFault → ℕ
plant_in_fault Memory = 0
plant_in_fault ThreadRefused = 0
plant_in_fault (GateShut plant) = plant.0
plant_in_fault Stopped = 0

-- its number is lower; or the numbers are the same, and of shut gates it is that of the lower plant
abbrev pub IsBefore : RunFault → RunFault → Type 0
IsBefore a b = (run_fault_number a < run_fault_number b)
    ⊎ ((run_fault_number a ≡ run_fault_number b) × (plant_in_fault a ≤ plant_in_fault b))

-- one of these faults, and none of them is before it
pub record IsWorst (fault : RunFault) (faults : List RunFault) : Type 0 where
  pub met : Contains faults fault
  pub first : All (IsBefore fault) faults

-- the worst of these faults, and none where there are none
abbrev pub IsWorstOf : Option RunFault → List RunFault → Type 0
IsWorstOf worst faults = MatchOption worst (faults ≡ []) (λ fault. IsWorst fault faults)

-- ---- whose it is

-- a shut gate is that of one of the first so many plants, and it was shut; where the run was stopped, one of them
-- has used its turns
abbrev pub IsOfFirst : (ℕ → Type 0) → (ℕ → Type 0) → ℕ → RunFault → Type 0
IsOfFirst Shut Spent plants Memory = Unit {0}
IsOfFirst Shut Spent plants ThreadRefused = Unit {0}
IsOfFirst Shut Spent plants (GateShut plant) = (plant.0 < plants) × Shut plant.0
IsOfFirst Shut Spent plants Stopped = (plant : ℕ) × (plant < plants) × Spent plant

-- or of a plant of the network
abbrev pub IsFaultIn : (ℕ → Type 0) → (ℕ → Type 0) → Table → RunFault → Type 0
IsFaultIn Shut Spent N fault = IsOfFirst Shut Spent (length N.plants) fault

-- the rule of a run's stop holds of each fault that one of the first so many plants may meet
abbrev pub AllowsOfFirst : (RunFault → Type 0) → (ℕ → Type 0) → (ℕ → Type 0) → ℕ → Type 0
AllowsOfFirst Rule Shut Spent plants = (fault : RunFault) → IsOfFirst Shut Spent plants fault → Rule fault
