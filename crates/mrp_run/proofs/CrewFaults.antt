-- The run by threads: the fault of a crew as that of the run.
use Rattle.std.proofs.Common.{◌≡◌, ℕ, refl, sym, subst}
use Rattle.mrp_master_data.specs.declared.numbers.PlantNo.{PlantNo}
use Rattle.mrp_crew.specs.declared.fault.CrewFault.{CrewFault}
use Rattle.mrp_crew.specs.declared.fault.CrewFault.TheVariants.{Memory, ThreadRefused, GateShut}
use Rattle.mrp_run.specs.declared.fault.RunFault.{RunFault}
use Rattle.mrp_run.specs.Faults.{IsOf, never_spent, of_crew}

is_of : (Shut : ℕ → Type 0) (plant : PlantNo) (why : CrewFault) → (why ≡ GateShut → Shut plant.0) → IsOf Shut never_spent plant (of_crew plant why)
is_of Shut plant Memory shut = tt
is_of Shut plant ThreadRefused shut = tt
is_of Shut plant GateShut shut = (refl, shut refl)

-- where it is a shut gate, the gate was shut to the plant
pub crew_is_of : (Shut : ℕ → Type 0) (plant : PlantNo) (why : CrewFault) (fault : RunFault) → fault ≡ of_crew plant why
    → (why ≡ GateShut → Shut plant.0) → IsOf Shut never_spent plant fault
crew_is_of Shut plant why fault is shut = subst (IsOf Shut never_spent plant) (sym is) (is_of Shut plant why shut)
