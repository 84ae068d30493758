-- The library: the faults that a text function may answer from a run by threads, and the one that a fault of a run is,
-- where there is memory for the name of a plant.
use Rattle.std.specs.Prelude.{◌≡◌, ◌<◌, ◌≤◌, length, Some, slice_get, string_bytes}
use Rattle.mrp_master_data.specs.Table.{Table}
use Rattle.mrp_master_data.specs.declared.numbers.PlantNo.{PlantNo}
use Rattle.mrp_run.specs.declared.fault.RunFault.{RunFault}
use Rattle.mrp_run.specs.declared.fault.RunFault.TheVariants as run
use Rattle.mrp_api.specs.Refusals.{IsPlantName}
use Rattle.mrp_api.specs.declared.fault.TextFault.{TextFault}
use Rattle.mrp_api.specs.declared.fault.TextFault.TheVariants as fault

-- the gate was shut for the plant of this name
abbrev pub IsShutFor : Table → PlantNo → TextFault → Type 0
IsShutFor N plant (fault.GateShut name) = slice_get N.plants plant.0 ≡ Some (string_bytes name)
IsShutFor N plant _ = ⊥

abbrev pub IsOfRun : Table → RunFault → TextFault → Type 0
IsOfRun N run.Memory said = said ≡ fault.Memory
IsOfRun N run.ThreadRefused said = said ≡ fault.ThreadRefused
IsOfRun N (run.GateShut plant) said = IsShutFor N plant said
IsOfRun N run.Stopped said = said ≡ fault.Stopped

-- what a run by threads meets: a thread was refused, a shut gate with the name of a plant of the network, turns that
-- were used by one of its plants, or refused memory
abbrev pub IsRunFault : Table → TextFault → Type 0
IsRunFault N fault.ThreadRefused = Unit {0}
IsRunFault N (fault.GateShut name) = IsPlantName N (string_bytes name)
IsRunFault N fault.Stopped = 1 ≤ length N.plants
IsRunFault N fault.Memory = Unit {0}
IsRunFault N _ = ⊥

-- a shut gate is that of a plant of the network
abbrev pub IsInNetwork : Table → RunFault → Type 0
IsInNetwork N run.Memory = Unit {0}
IsInNetwork N run.ThreadRefused = Unit {0}
IsInNetwork N (run.GateShut plant) = plant.0 < length N.plants
IsInNetwork N run.Stopped = Unit {0}
