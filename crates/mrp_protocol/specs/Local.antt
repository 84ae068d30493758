-- The protocol's local plans: what a pair's plan is made of at its own plant, and that it is the plan of the network.
use Rattle.std.specs.Prelude.{◌≡◌, ℕ, ◌+◌, ◌<◌, ◌==◌, ◌&&◌, if◌then◌else◌, Bool, true, List, length, sum_by}
use Rattle.std.specs.List.{range_with_len}
use Rattle.mrp_netting.specs.PlanRows.{PlanRows}
use Rattle.mrp_netting.specs.PlanningData.{planned, one}
use Rattle.mrp_master_data.specs.Table.{Table, IsTable, IsPair, horizon}
use Rattle.mrp_net.specs.declared.lane.LaneKind.{LaneKind}
use Rattle.mrp_net.specs.Lanes.{lanes, lane_at}
use Rattle.mrp_net.specs.LaneLaws.{is_despatch, is_schedule}
use Rattle.mrp_net.specs.PlanLaws.{asked_by_bill}
use Rattle.mrp_net.specs.Plan.{rows_at, plan_of, gross}
use Rattle.mrp_net.specs.Sums.{pair_at, terms_at, row_of, demand, received_when_due, incoming}
use Rattle.mrp_loops.specs.Loop.{IsLoopFree}
use Rattle.mrp_record.specs.declared.record.Record.{Record}
use Rattle.mrp_record.specs.Entries.{contents}
use Rattle.mrp_record.specs.Blocks.{deliveries}
use Rattle.mrp_record.specs.Laws.{quantity_in}
use Rattle.mrp_record.specs.Text.{IsBeginning}
use Rattle.mrp_protocol.specs.Loads.{loads}
use Rattle.mrp_protocol.specs.State.{State, IsReady, IsReached}

-- what one lane has brought of a pair's item in a period
abbrev pub brought_by : Table → (ℕ → List Record) → ℕ → ℕ → ℕ → ℕ
brought_by N taken x period l = quantity_in period (deliveries (pair_at N x).item.0 (contents (taken l)))

-- a lane of the kind that arrives at the plant
abbrev pub arrives : Table → (LaneKind → Bool) → ℕ → ℕ → Bool
arrives N is_kind plant l = is_kind (lane_at N l).kind && ((lane_at N l).receiver.0 == plant)

-- what all lanes of the kind that arrive at its plant have brought
abbrev pub brought : Table → (ℕ → List Record) → (LaneKind → Bool) → ℕ → ℕ → ℕ
brought N taken is_kind x period =
    sum_by (λ l. if arrives N is_kind (pair_at N x).plant.0 l then brought_by N taken x period l else 0)
    (range_with_len 0 (length (lanes N)))

-- what comes in for a pair at its time, beside firm planned orders: its receipt rows that count when they come, and what
-- despatch lanes have brought
abbrev pub incoming_brought : Table → (ℕ → List Record) → ℕ → ℕ → ℕ
incoming_brought N taken x period = received_when_due N x period + brought N taken is_despatch x period

-- its gross requirements: its demand rows, what its parents at the plant ask, and what schedule lanes have called for
abbrev pub gross_brought : Table → (ℕ → List Record) → List PlanRows → ℕ → ℕ → ℕ
gross_brought N taken plans x period =
    demand N x period + sum_by (asked_by_bill N plans x period) N.bills + brought N taken is_schedule x period

-- its local plan, beside the plans of its parents
abbrev pub plan_brought : Table → (ℕ → List Record) → List PlanRows → ℕ → PlanRows
plan_brought N taken plans x =
    one (planned (terms_at N x) (row_of N (incoming_brought N taken x)) (row_of N (gross_brought N taken plans x)))

-- what has been taken is a legal beginning on each lane to the plant
abbrev pub AreLegal : Table → ℕ → (ℕ → List Record) → Type 0
AreLegal N plant taken =
    (l : ℕ) → l < length (lanes N) → (lane_at N l).receiver.0 ≡ plant → IsBeginning (loads N (lane_at N l)) (taken l)

-- ---- laws

-- a pair that is planned was ready, and stays so
abbrev pub PlannedStayReady : Type 0
PlannedStayReady =
    (N : Table) (capacity : ℕ) (s : State) → IsReached N capacity s → (x : ℕ) → IsPair N x → s.planned x ≡ true
    → IsReady N s.planned s.taken x

-- to a ready pair the lanes have brought what comes in at its time beside firm planned orders
abbrev pub DespatchesBringIncoming : Type 0
DespatchesBringIncoming =
    (N : Table) → IsTable N → (planned : ℕ → Bool) (taken : ℕ → List Record) (x : ℕ) → IsPair N x
    → AreLegal N (pair_at N x).plant.0 taken → IsReady N planned taken x
    → (period : ℕ) → incoming_brought N taken x period ≡ incoming N x period

-- and what its customers call for by that plan
abbrev pub SchedulesBringGross : Type 0
SchedulesBringGross =
    (N : Table) → IsTable N → (planned : ℕ → Bool) (taken : ℕ → List Record) (x : ℕ) → IsPair N x
    → AreLegal N (pair_at N x).plant.0 taken → IsReady N planned taken x
    → (period : ℕ) → period < horizon N → gross_brought N taken (plan_of N) x period ≡ gross N (plan_of N) x period

-- plans of a plant's ready pairs, each made from its own rows, its parents' plans and what has been taken
abbrev pub AreLocal : Table → ℕ → (ℕ → Bool) → (ℕ → List Record) → List PlanRows → Type 0
AreLocal N plant planned taken plans =
    (x : ℕ) → IsPair N x → (pair_at N x).plant.0 ≡ plant → planned x ≡ true
    → IsReady N planned taken x × (rows_at plans x ≡ plan_brought N taken plans x)

-- local plans are the plan: each is that of the one plan of the whole network
abbrev pub LocalPlansAreThePlan : Type 0
LocalPlansAreThePlan =
    (N : Table) → IsTable N → IsLoopFree N
    → (plant : ℕ) (planned : ℕ → Bool) (taken : ℕ → List Record) (plans : List PlanRows)
    → AreLegal N plant taken → AreLocal N plant planned taken plans
    → (x : ℕ) → IsPair N x → (pair_at N x).plant.0 ≡ plant → planned x ≡ true → rows_at plans x ≡ rows_at (plan_of N) x

-- so in each state that events lead to, plans that are made so are those of the plan, at every plant
abbrev pub ReachedPlansAreThePlan : Type 0
ReachedPlansAreThePlan =
    (N : Table) → IsTable N → IsLoopFree N → (capacity : ℕ) (s : State) → IsReached N capacity s
    → (plans : List PlanRows)
    → ((x : ℕ) → IsPair N x → s.planned x ≡ true → rows_at plans x ≡ plan_brought N s.taken plans x)
    → (x : ℕ) → IsPair N x → s.planned x ≡ true → rows_at plans x ≡ rows_at (plan_of N) x
