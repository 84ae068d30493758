-- The run by threads: whose fault it is that it ends early, and what a crew's fault is to it.
use Rattle.std.specs.Prelude.{◌≡◌, ◌+◌, ◌≤◌, ◌<◌, ◌⊎◌, ℕ}
use Rattle.mrp_master_data.specs.declared.numbers.PlantNo.{PlantNo}
use Rattle.mrp_crew.specs.Shut as crews
use Rattle.mrp_crew.specs.declared.fault.CrewFault.{CrewFault}
use Rattle.mrp_crew.specs.declared.fault.CrewFault.TheVariants as crew
use Rattle.mrp_run.specs.declared.fault.RunFault.{RunFault}
use Rattle.mrp_run.specs.declared.fault.RunFault.TheVariants.{Memory, ThreadRefused, GateShut, Stopped}

-- a plant has used so many turns: the gate was open to each of them
abbrev pub WasSpent : (ℕ → ℕ → Type 0) → ℕ → ℕ → Type 0
WasSpent Open turns plant = (turn : ℕ) → 1 ≤ turn → turn ≤ turns → Open plant turn

-- a plant has taken some of so many turns, at least one: the gate was open to each that it took
abbrev pub HasTurned : (ℕ → ℕ → Type 0) → ℕ → ℕ → Type 0
HasTurned Open turns plant = (used : ℕ) × (1 ≤ used) × (used ≤ turns) × WasSpent Open used plant

-- so has each of the first so many plants
abbrev pub AllTurned : (ℕ → ℕ → Type 0) → ℕ → ℕ → Type 0
AllTurned Open turns plants = (plant : ℕ) → plant < plants → HasTurned Open turns plant

-- the gate was shut to the turn of a plant that came after those that it had used, one of those that it was given, or
-- to one of its workers, of whom there are so many
abbrev pub WasShut : (ℕ → ℕ → Type 0) → (ℕ → ℕ → Type 0) → (ℕ → ℕ → Type 0) → ℕ → ℕ → ℕ → Type 0
WasShut Open Shut Worker workers turns plant =
    ((used : ℕ) × (used < turns) × WasSpent Open used plant × Shut plant (used + 1))
    ⊎ crews.WasShutToWorker Worker workers plant

-- no plant has used its turns
abbrev pub never_spent : ℕ → Type 0
never_spent plant = ⊥

-- a fault that a plant met: a shut gate is this plant's, and it was shut; one that was stopped has used its turns
abbrev pub IsOf : (ℕ → Type 0) → (ℕ → Type 0) → PlantNo → RunFault → Type 0
IsOf Shut Spent plant Memory = Unit {0}
IsOf Shut Spent plant ThreadRefused = Unit {0}
IsOf Shut Spent plant (GateShut shut) = (shut ≡ plant) × Shut shut.0
IsOf Shut Spent plant Stopped = Spent plant.0

-- ---- the rule of a run's stop

-- the rule holds of each fault that a plant may meet
abbrev pub AllowsOf : (RunFault → Type 0) → (ℕ → Type 0) → (ℕ → Type 0) → PlantNo → Type 0
AllowsOf Rule Shut Spent plant = (fault : RunFault) → IsOf Shut Spent plant fault → Rule fault

-- a fault that another plant told, or that this plant met
abbrev pub IsToldOrOf : (RunFault → Type 0) → (ℕ → Type 0) → (ℕ → Type 0) → PlantNo → RunFault → Type 0
IsToldOrOf Rule Shut Spent plant fault = Rule fault ⊎ IsOf Shut Spent plant fault

-- ---- crews

-- the fault of a plant's crew, as the run answers it
abbrev pub of_crew : PlantNo → CrewFault → RunFault
of_crew plant crew.Memory = Memory
of_crew plant crew.ThreadRefused = ThreadRefused
of_crew plant crew.GateShut = GateShut plant
