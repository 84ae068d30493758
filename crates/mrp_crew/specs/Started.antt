-- A crew's workers: their threads in a wave.
use Rattle.std.specs.Prelude.{◌≡◌, ◌≤◌, ℕ, List, map}
use Rattle.std.specs.declared.thread.PromisedHandle.{PromisedHandle}
use Rattle.mrp_master_data.specs.declared.numbers.PairNo.{PairNo}
use Rattle.mrp_agent.specs.State.{AgentState}
use Rattle.mrp_crew.specs.declared.work.Order.{Order}
use Rattle.mrp_crew.specs.declared.work.Work.{Work}

-- the pairs that threads were started for
abbrev pub ordered : {G : Type 0} → List (PromisedHandle Work (Order G)) → List PairNo
ordered workers = map (λ worker. worker.promise.pair) workers

-- a thread that was started for the agent as it stands
abbrev pub IsFor : {G : Type 0} → AgentState → PromisedHandle Work (Order G) → Type 0
IsFor A worker = worker.promise.agent.value ≡ A

-- for one of so many workers of the plant
pub record IsWorkerOf {G : Type 0} (plant workers : ℕ) (worker : PromisedHandle Work (Order G)) : Type 0 where
  pub plant_is : worker.promise.plant ≡ plant
  pub first : 1 ≤ worker.promise.number
  pub last : worker.promise.number ≤ workers

-- for a worker of the plant by its number, and for a pair
pub record IsStarted {G : Type 0} (A : AgentState) (plant number : ℕ) (pair : PairNo)
    (worker : PromisedHandle Work (Order G)) : Type 0 where
  pub agent : IsFor A worker
  pub plant_is : worker.promise.plant ≡ plant
  pub number_is : worker.promise.number ≡ number
  pub pair_is : worker.promise.pair ≡ pair
