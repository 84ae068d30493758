-- Histories of plants, laws: they merge to a run, and stamps are causal.
use Rattle.std.specs.Prelude.{◌≡◌, ℕ, ◌≤◌, List, ◌++◌}
use Rattle.mrp_master_data.specs.Table.{Table, IsTable}
use Rattle.mrp_loops.specs.Loop.{IsLoopFree}
use Rattle.mrp_record.specs.declared.record.Record.{Record}
use Rattle.mrp_protocol.specs.State.{State, IsFinished, IsReached}
use Rattle.mrp_history.specs.History.{IsPrefix, IsMerged, HasRoom, HaveFinished, AreHistories, at_moment}
use Rattle.mrp_history.specs.Stamps.{SentAt, TakenAt, Passage, AreExplained}

-- ---- merging

-- histories that agree over each lane merge: at each moment at which no mailbox holds more than its capacity some
-- events lead to the state that is put together of the plants' states then
abbrev pub HistoriesMerge : Type 0
HistoriesMerge =
    (N : Table) → IsTable N → IsLoopFree N
    → (histories : ℕ → ℕ → State) → AreHistories N histories
    → (capacity : ℕ) → 1 ≤ capacity → (n : ℕ) → HasRoom N capacity (at_moment histories n)
    → (s : State) × IsReached N capacity s × IsMerged N (at_moment histories n) s

-- where they have finished by then that state is finished, and there is one for every capacity
abbrev pub FinishedHistoriesMerge : Type 0
FinishedHistoriesMerge =
    (N : Table) → IsTable N → IsLoopFree N
    → (histories : ℕ → ℕ → State) → AreHistories N histories
    → (capacity : ℕ) → 1 ≤ capacity → (n : ℕ) → HaveFinished N (at_moment histories n)
    → (s : State) × IsReached N capacity s × IsMerged N (at_moment histories n) s × IsFinished N s

-- ---- causality

-- where what one plant sent over a lane is what the other has taken and then what waits, stamps too, their histories
-- agree over it: what the one has taken at a moment is a prefix of what the other has sent by then
abbrev pub LanesAreCausal : Type 0
LanesAreCausal =
    (sender receiver : ℕ → State) (l : ℕ) (sent taken waits : List Record) (sent_at taken_at waits_at : List ℕ)
    → SentAt sender l sent sent_at → TakenAt receiver l taken taken_at
    → sent ≡ taken ++ waits → sent_at ≡ taken_at ++ waits_at
    → (n : ℕ) → IsPrefix ((receiver n).taken l) ((sender n).sent l)

-- so the states of plants that are explained merge as well
abbrev pub ExplainedStatesMerge : Type 0
ExplainedStatesMerge =
    (N : Table) → IsTable N → IsLoopFree N
    → (states : ℕ → State) (sends takes : ℕ → List Passage) → AreExplained N states sends takes
    → (capacity : ℕ) → 1 ≤ capacity → HasRoom N capacity states
    → (s : State) × IsReached N capacity s × IsMerged N states s

abbrev pub FinishedStatesMerge : Type 0
FinishedStatesMerge =
    (N : Table) → IsTable N → IsLoopFree N
    → (states : ℕ → State) (sends takes : ℕ → List Passage) → AreExplained N states sends takes
    → (capacity : ℕ) → 1 ≤ capacity → HaveFinished N states
    → (s : State) × IsReached N capacity s × IsMerged N states s × IsFinished N s
