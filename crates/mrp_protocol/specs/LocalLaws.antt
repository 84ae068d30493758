-- The protocol: laws of local plans. They are the plan of the network, and what is sent
-- by them is what its lanes carry.
use Rattle.std.specs.Prelude.{◌≡◌, ◌↔◌, ℕ, ◌<◌, Bool, true, List, length, slice_get, Some, All, Contains}
use Rattle.mrp_netting.specs.PlanRows.{PlanRows}
use Rattle.mrp_netting.specs.PlanningBound.{IsWithinData}
use Rattle.mrp_master_data.specs.Table.{Table, IsTable, IsPair, horizon}
use Rattle.mrp_net.specs.Lanes.{lane_at}
use Rattle.mrp_net.specs.Plan.{plan_of, gross}
use Rattle.mrp_net.specs.Sums.{pair_at, incoming}
use Rattle.mrp_plant_view.specs.declared.view.OutgoingLane.{OutgoingLane}
use Rattle.mrp_plant_view.specs.View.{PlantRows, plant_pair, plant_rows}
use Rattle.mrp_loops.specs.Loop.{IsLoopFree}
use Rattle.mrp_loops.specs.Sized.{IsSized}
use Rattle.mrp_loops.specs.Within.{plan_at}
use Rattle.mrp_record.specs.declared.record.Record.{Record}
use Rattle.mrp_protocol.specs.Loads.{loads}
use Rattle.mrp_protocol.specs.Local.{AreLegal}
use Rattle.mrp_protocol.specs.State.{State, CanPlan}
use Rattle.mrp_record.specs.Cursor.{OutFigures, Goods, goods_load}
use Rattle.mrp_record.specs.CursorLaws.{Agrees, IsSmallGoods, IsBounded}
use Rattle.mrp_record.specs.Shows.{ShowsSent}
use Rattle.mrp_protocol.specs.Goods.{IsSendable, goods_of}
use Rattle.mrp_protocol.specs.LocalPlans.{local_incoming, local_gross, local_data, local_plan}
use Rattle.mrp_protocol.specs.LocalPlans.{AwaitsNothing, CanBePlanned, IsLocal}

-- a pair of the plant
pub record IsPairAt (N : Table) (plant x : ℕ) : Type 0 where
  pub pair : IsPair N x
  pub at_plant : (pair_at N x).plant.0 ≡ plant

-- what has come to a plant is on each lane a legal beginning of the lane's text, and its plans are made of that
pub record PlansLocally (N : Table) (plant : ℕ) (taken : ℕ → List Record) (planned : ℕ → Bool) (plans : ℕ → PlanRows)
    : Type 0 where
  pub legal : AreLegal N plant taken
  pub local : IsLocal (plant_rows N plant) taken planned plans

-- nothing is missing for one of its pairs
abbrev pub IsReadyAt : Table → ℕ → (ℕ → List Record) → (ℕ → Bool) → ℕ → Type 0
IsReadyAt N plant taken planned x = AwaitsNothing (plant_rows N plant) taken planned (plant_pair N x)

-- ---- plans

-- the pairs that a plant has planned have the plan of the network
abbrev pub PlantPlansAreThePlan : Type 0
PlantPlansAreThePlan =
    (N : Table) → IsTable N → IsLoopFree N
    → (plant : ℕ) (taken : ℕ → List Record) (planned : ℕ → Bool) (plans : ℕ → PlanRows)
    → PlansLocally N plant taken planned plans
    → (x : ℕ) → IsPairAt N plant x → planned x ≡ true → plans x ≡ plan_at N x

-- and a pair for which nothing is missing gets it: what comes in at its time beside firm planned orders and what is
-- asked for are the network's, and so is the plan
pub record GetsThePlan (N : Table) (V : PlantRows) (taken : ℕ → List Record) (plans : ℕ → PlanRows) (x : ℕ)
    : Type 0 where
  pub incoming : (t : ℕ) → t < horizon N → local_incoming V taken (plant_pair N x) t ≡ incoming N x t
  pub gross : (t : ℕ) → t < horizon N → local_gross V taken plans (plant_pair N x) t ≡ gross N (plan_of N) x t
  pub plan : local_plan V taken plans (plant_pair N x) ≡ plan_at N x

abbrev pub DraftsAreThePlan : Type 0
DraftsAreThePlan =
    (N : Table) → IsTable N → IsLoopFree N
    → (plant : ℕ) (taken : ℕ → List Record) (planned : ℕ → Bool) (plans : ℕ → PlanRows)
    → PlansLocally N plant taken planned plans
    → (x : ℕ) → IsPairAt N plant x → IsReadyAt N plant taken planned x
    → GetsThePlan N (plant_rows N plant) taken plans x

-- in a sized network the quantities of its rows are together within 10^15
abbrev pub HasSmallRows : Table → PlantRows → (ℕ → List Record) → (ℕ → PlanRows) → ℕ → Type 0
HasSmallRows N V taken plans x = IsWithinData (local_data V taken plans (plant_pair N x))

abbrev pub DraftsAreWithin : Type 0
DraftsAreWithin =
    (N : Table) → IsSized N
    → (plant : ℕ) (taken : ℕ → List Record) (planned : ℕ → Bool) (plans : ℕ → PlanRows)
    → PlansLocally N plant taken planned plans
    → (x : ℕ) → IsPairAt N plant x → IsReadyAt N plant taken planned x
    → HasSmallRows N (plant_rows N plant) taken plans x

-- ---- which pairs can be planned

-- a plant sees which of its pairs can be planned
abbrev pub PlannableIsLocal : Type 0
PlannableIsLocal =
    (N : Table) → IsTable N → (plant : ℕ) (s : State) (x : ℕ) → IsPairAt N plant x
    → CanPlan N s x ↔ CanBePlanned (plant_rows N plant) s.taken s.planned (plant_pair N x)

-- ---- what is sent

-- a plant has for each item of a lane that may be sent the goods that the lane is to carry of it
pub record HasGoods (N : Table) (planned : ℕ → Bool) (lane : OutgoingLane) (goods : ℕ → Goods) : Type 0 where
  pub size : length (loads N (lane_at N lane.number.0)) ≡ length lane.items
  pub each : (place : ℕ) → IsSendable planned lane place
      → slice_get (loads N (lane_at N lane.number.0)) place ≡ Some (goods_load (goods place))

abbrev pub LocalGoodsAreTheLoads : Type 0
LocalGoodsAreTheLoads =
    (N : Table) → IsTable N → IsLoopFree N
    → (plant : ℕ) (taken : ℕ → List Record) (planned : ℕ → Bool) (plans : ℕ → PlanRows)
    → PlansLocally N plant taken planned plans
    → All (λ lane. HasGoods N planned lane (goods_of (plant_rows N plant) taken plans lane))
    (plant_rows N plant).outgoing

-- a queue of places that may be sent
pub record QueuesSendable (planned : ℕ → Bool) (lane : OutgoingLane) (o : OutFigures) : Type 0 where
  pub size : o.size ≡ length lane.items
  pub each : (place : ℕ) → Contains o.queue place → IsSendable planned lane place

-- so the goods agree with the loads of the network at the places of such a queue
abbrev pub LocalGoodsAgree : Type 0
LocalGoodsAgree =
    (N : Table) (planned : ℕ → Bool) (lane : OutgoingLane) (goods : ℕ → Goods) → HasGoods N planned lane goods
    → (o : OutFigures) → QueuesSendable planned lane o → Agrees goods o (loads N (lane_at N lane.number.0))

-- in a sized network they are small, and a cursor that shows what was sent of them stays within 64 bits
pub record HasSmallGoods (planned : ℕ → Bool) (lane : OutgoingLane) (goods : ℕ → Goods) : Type 0 where
  pub small : (place : ℕ) → IsSendable planned lane place → IsSmallGoods (goods place)
  pub bounded : (o : OutFigures) (sent : List Record)
      → QueuesSendable planned lane o → ShowsSent goods o sent → IsBounded goods o

abbrev pub LocalGoodsAreSmall : Type 0
LocalGoodsAreSmall =
    (N : Table) → IsSized N
    → (plant : ℕ) (taken : ℕ → List Record) (planned : ℕ → Bool) (plans : ℕ → PlanRows)
    → PlansLocally N plant taken planned plans
    → All (λ lane. HasSmallGoods planned lane (goods_of (plant_rows N plant) taken plans lane))
    (plant_rows N plant).outgoing
