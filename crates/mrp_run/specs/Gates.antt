-- The run by threads: what its end says of its gate and of the turns of its plants.
use Rattle.std.specs.Prelude.{ℕ, length, Result, IfErr, OnOk}
use Rattle.mrp_master_data.specs.Table.{Table}
use Rattle.mrp_run.specs.declared.fault.RunFault.{RunFault}
use Rattle.mrp_run.specs.Faults.{AllTurned, WasShut, WasSpent}
use Rattle.mrp_run.specs.Worst.{IsFaultIn}

-- where a run ended well, the gate was open to the first turns of each plant, one or more. A shut gate is that of a
-- plant of the network, and was shut; where a run was stopped, a plant has used its turns
pub record GateTells {U : Type 0} (Open Shut Worker : ℕ → ℕ → Type 0) (workers turns : ℕ) (N : Table)
    (result : Result U RunFault) : Type 0 where
  pub turned : OnOk result (AllTurned Open turns (length N.plants))
  pub fault : IfErr result (IsFaultIn (WasShut Open Shut Worker workers turns) (WasSpent Open turns) N)
