-- A crew's wave: what the agent keeps of it, and what the plan of one pair leaves of another.
use Rattle.std.specs.Prelude.{◌≡◌, ◌≢◌, List, All, AllPairs, Contains}
use Rattle.mrp_master_data.specs.declared.numbers.PairNo.{PairNo}
use Rattle.mrp_agent.specs.Drafts.{drafted, ready_numbers}
use Rattle.mrp_agent.specs.State.{AgentState}
use Rattle.mrp_crew.specs.declared.work.Work.{Work}
use Rattle.mrp_crew.specs.Rooms.{WorkedFor}

-- the pair is ready, and the agent drafts the same for it
pub record StaysReady (old new : AgentState) (pair : PairNo) : Type 0 where
  pub ready : Contains (ready_numbers new) pair
  pub drafts : drafted new pair ≡ drafted old pair

-- results for pairs that are ready, each once
pub record AreToSettle (A : AgentState) (works : List Work) : Type 0 where
  pub ready : All (λ work. Contains (ready_numbers A) work.pair) works
  pub once : AllPairs (λ v w. v.pair ≢ w.pair) works
  pub worked : All (WorkedFor A) works
