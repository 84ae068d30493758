-- The run by threads: what the steps of a plant's thread keep, in the words of `Plant` of the code.
use Rattle.std.specs.Prelude.{◌≡◌, ◌⊎◌, ℕ, false, length}
use Rattle.mrp_master_data.specs.Table.{Table}
use Rattle.mrp_agent.specs.Shows.{is_done}
use Rattle.mrp_run.specs.declared.moving.Lanes.{Lanes}
use Rattle.mrp_run.specs.declared.moving.Lanes.TheVariants.{Incoming, Outgoing}
use Rattle.mrp_run.specs.declared.plant.Plant.{Plant}
use Rattle.mrp_run.specs.Plant as plant

abbrev pub PlantWorks : Table → ℕ → Plant → Type 0
PlantWorks N p P = plant.AtWork N p P.agent P.sends.items P.takes.items

abbrev pub PlantIsAtWork : Plant → Type 0
PlantIsAtWork P = plant.IsAtWork P.agent P.sends.items P.takes.items

abbrev pub PlantIsDone : Table → ℕ → Plant → Type 0
PlantIsDone N p P = plant.AgentIsDone N p P.agent P.sends.items P.takes.items

abbrev pub KeepsPlant : Plant → Plant → Type 0
KeepsPlant P Q = plant.Kept P.agent P.sends.items P.takes.items Q.agent Q.sends.items Q.takes.items

-- its clock
abbrev pub clock : Plant → ℕ
clock P = plant.clock_at P.sends.items P.takes.items

-- how many lanes come to it, or go from it
abbrev pub lane_count : Lanes → Plant → ℕ
lane_count Incoming P = length P.takes.items
lane_count Outgoing P = length P.sends.items

-- its work is kept and done
pub record Finishes (P Q : Plant) : Type 0 where
  pub kept : KeepsPlant P Q
  pub finished : plant.HasFinished P.agent P.sends.items P.takes.items Q.agent Q.sends.items Q.takes.items

-- it has taken no turn, or isn't done after those that it took
abbrev pub IsUnfinished : Plant → Plant → Type 0
IsUnfinished before now = (now ≡ before) ⊎ (is_done now.agent ≡ false)
