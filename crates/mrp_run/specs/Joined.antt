-- The run by threads: the threads of its plants, and what they bring back.
use Rattle.std.specs.Prelude.{◌≡◌, ℕ, ◌≤◌, List, [], map, Result, All, IfOk, IfErr, OnOk, filter_map}
use Rattle.std.specs.Result.{result_err}
use Rattle.std.specs.Vec.{vec_capacity}
use Rattle.std.specs.declared.thread.PromisedHandle.{PromisedHandle}
use Rattle.mrp_run.specs.declared.fault.RunFault.{RunFault}
use Rattle.mrp_run.specs.declared.plant.Plant.{Plant}
use Rattle.mrp_run.specs.declared.results.Duty.{Duty}
use Rattle.mrp_run.specs.declared.threads.Rooms.{Rooms}
use Rattle.mrp_run.specs.Ends.{EachAt}
use Rattle.mrp_run.specs.Faults.{HasTurned}
use Rattle.mrp_run.specs.Steps.{Finishes}

-- ---- threads

-- what a thread brings back: its plant, or the fault that it met or was told
abbrev pub Back : Type 0
Back = Result Plant RunFault

-- a plant that is brought back is finished
abbrev pub Finished : Plant → Back → Type 0
Finished before back = IfOk back (Finishes before)

-- what the thread of a duty brings back: its plant, which took some of its turns and is finished, or a fault by the
-- rule of the run's stop
pub record FulfilsDuty {G S : Type 0} (Open : ℕ → ℕ → Type 0) (Rule : RunFault → Type 0) (duty : Duty G S)
    (back : Back) : Type 0 where
  pub finished : Finished duty.plant.value back
  pub turned : OnOk back (HasTurned Open duty.turns duty.number.0)
  pub fault : IfErr back Rule

-- it is what the thread was started for
abbrev pub HasKept : {G S : Type 0} → (ℕ → ℕ → Type 0) → (RunFault → Type 0) → PromisedHandle Back (Duty G S) → Back
    → Type 0
HasKept Open Rule thread back = FulfilsDuty Open Rule thread.promise back

-- the plants that threads were started for
abbrev pub started_plants : {G S : Type 0} → List (PromisedHandle Back (Duty G S)) → List Plant
started_plants threads = map (λ thread. thread.promise.plant.value) threads

-- each thread has its plant's number, and the plant has so many turns
abbrev pub AreNumberedThreads : {G S : Type 0} → ℕ → List (PromisedHandle Back (Duty G S)) → Type 0
AreNumberedThreads turns threads = EachAt (λ number thread. (thread.promise.number.0 ≡ number)
    × (thread.promise.turns ≡ turns)) threads

-- ---- faults

-- each fault that was brought back is by the rule of the run's stop
abbrev pub AreByRule : (RunFault → Type 0) → List Back → Type 0
AreByRule Rule backs = All (λ back. IfErr back Rule) backs

-- all faults that were brought back
abbrev pub faults_in : List Back → List RunFault
faults_in backs = filter_map result_err backs

-- ---- rooms

-- room for what so many threads bring back, and for their plants
pub record AreRooms (plants : ℕ) (rooms : Rooms) : Type 0 where
  pub no_backs : rooms.backs.items ≡ []
  pub no_plants : rooms.plants.items ≡ []
  pub backs : plants ≤ vec_capacity rooms.backs
  pub again : plants ≤ vec_capacity rooms.plants
