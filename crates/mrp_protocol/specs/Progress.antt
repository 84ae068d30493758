-- The protocol: how far a run is from its end. No deadlock, and termination.
use Rattle.std.specs.Prelude.{◌≡◌, ℕ, ◌+◌, ◌-◌, ◌≤◌, ◌↔◌, ◌⊎◌, not, Bool, List, [], ◌∷◌, length, sum_by, count_by}
use Rattle.std.specs.List.{range_with_len}
use Rattle.mrp_master_data.specs.Table.{Table, IsTable}
use Rattle.mrp_net.specs.Lanes.{lanes, lane_at}
use Rattle.mrp_loops.specs.Loop.{IsLoopFree}
use Rattle.mrp_record.specs.Lengths.{length_of_text}
use Rattle.mrp_protocol.specs.declared.event.Event.{Event}
use Rattle.mrp_protocol.specs.Loads.{loads}
use Rattle.mrp_protocol.specs.Steps.{steps}
use Rattle.mrp_protocol.specs.State.{State, opening_state, Step, IsEnabled, IsReached, IsFinished}

-- the pairs still to be planned, and the records of a lane still to be sent and still to be taken
abbrev pub pairs_unplanned : Table → (ℕ → Bool) → ℕ
pairs_unplanned N planned = count_by (λ x. not (planned x)) (range_with_len 0 (length N.pairs))

abbrev pub text_length : Table → ℕ → ℕ
text_length N l = length_of_text (loads N (lane_at N l))

abbrev pub left_on : Table → State → ℕ → ℕ
left_on N s l = (text_length N l - length (s.sent l)) + (text_length N l - length (s.taken l))

abbrev pub steps_left : Table → State → ℕ
steps_left N s = pairs_unplanned N s.planned + sum_by (left_on N s) (range_with_len 0 (length (lanes N)))

-- a run begins with as many steps to go as the network has
abbrev pub RunsBeginWithSteps : Type 0
RunsBeginWithSteps = (N : Table) → steps_left N opening_state ≡ steps N

-- each event that is enabled is one step
abbrev pub EventsAreSteps : Type 0
EventsAreSteps =
    (N : Table) (capacity : ℕ) (s t : State) (event : Event) → IsReached N capacity s → Step N capacity s event t
    → steps_left N t + 1 ≡ steps_left N s

-- no step is left exactly where the run is finished
abbrev pub NoneIsLeftAtTheEnd : Type 0
NoneIsLeftAtTheEnd =
    (N : Table) (capacity : ℕ) (s : State) → IsReached N capacity s → (steps_left N s ≡ 0) ↔ IsFinished N s

-- no deadlock: without loops, where a mailbox holds at least one record, a run is finished or
-- some event is enabled
abbrev pub NoScheduleSticks : Type 0
NoScheduleSticks =
    (N : Table) → IsTable N → IsLoopFree N → (capacity : ℕ) → 1 ≤ capacity → (s : State) → IsReached N capacity s
    → IsFinished N s ⊎ ((event : Event) × IsEnabled N capacity s event)

-- each event of the list is enabled in its turn
abbrev pub GoesBy : Table → ℕ → State → List Event → State → Type 0
GoesBy N capacity s [] t = t ≡ s
GoesBy N capacity s (event ∷ events) t = (next : State) × Step N capacity s event next × GoesBy N capacity next events t

-- such a list and what is left after it are all steps of the network
abbrev pub EventsAndStepsLeft : Type 0
EventsAndStepsLeft =
    (N : Table) (capacity : ℕ) (events : List Event) (s : State) → GoesBy N capacity opening_state events s
    → length events + steps_left N s ≡ steps N

-- and where it can't be made longer it has taken all of them, and the run is finished
abbrev pub LongestRunsFinish : Type 0
LongestRunsFinish =
    (N : Table) → IsTable N → IsLoopFree N → (capacity : ℕ) → 1 ≤ capacity → (events : List Event) (s : State)
    → GoesBy N capacity opening_state events s → ((event : Event) → ¬ IsEnabled N capacity s event)
    → (length events ≡ steps N) × IsFinished N s
