-- The world: what holds in each state that it shows.
use Rattle.std.specs.Prelude.{◌≡◌, ℕ, ◌+◌, ◌<◌, true, length, slice_get, Contains, IsSomeAnd}
use Rattle.mrp_netting.specs.PlanRows.{PlanRows}
use Rattle.mrp_master_data.specs.declared.numbers.ItemNo.{ItemNo}
use Rattle.mrp_master_data.specs.Table.{IsPair}
use Rattle.mrp_net.specs.Lanes.{lanes, lane_at, lane_items}
use Rattle.mrp_net.specs.Plan.{rows_at, plan_of}
use Rattle.mrp_net.specs.Sums.{pair_at}
use Rattle.mrp_record.specs.Entries.{contents, is_closed, moved}
use Rattle.mrp_record.specs.Text.{IsWhole}
use Rattle.mrp_protocol.specs.LaneOrder.{KeepsOrder, cum_on}
use Rattle.mrp_protocol.specs.Loads.{loads}
use Rattle.mrp_protocol.specs.State.{State}
use Rattle.mrp_world.specs.World.{WorldState, box_at}

-- each lane has booked its sender's records in order and at most once, and nothing follows its closing record
abbrev pub OrderIsKept : {A : Type 0} → WorldState A → State → Type 0
OrderIsKept w s = (l : ℕ) → l < length (lanes w.network) → KeepsOrder w.network w.capacity s l

-- what has been shipped is what has been received and what lies in the mailbox, for each lane and item, closed
-- years added
abbrev pub NothingIsLost : {A : Type 0} → WorldState A → State → Type 0
NothingIsLost w s =
    (l : ℕ) → l < length (lanes w.network) → (item : ItemNo)
    → Contains (lane_items w.network (lane_at w.network l)) item
    → cum_on w.network l item (s.sent l) ≡ cum_on w.network l item (s.taken l)
    + moved item.0 (contents (box_at w.boxes l).records)

-- a lane has brought its whole text: each line was booked once, and nothing else was sent
pub record HasBroughtAll {A : Type 0} (w : WorldState A) (s : State) (l : ℕ) : Type 0 where
  pub whole : IsWhole (loads w.network (lane_at w.network l)) (s.taken l)
  pub all : s.sent l ≡ s.taken l

-- a lane whose closing record is booked has brought its whole text
abbrev pub ClosedLanesAreWhole : {A : Type 0} → WorldState A → State → Type 0
ClosedLanesAreWhole w s = (l : ℕ) → l < length (lanes w.network) → is_closed (contents (s.taken l)) ≡ true
    → HasBroughtAll w s l

-- the plan that a plant keeps of a pair with a number
abbrev pub Keeping : Type 0 → Type 0
Keeping A = A → ℕ → PlanRows

-- the plant of a pair keeps as its plan the pair's rows of the one plan of the whole network
abbrev pub KeepsThePlan : {A : Type 0} → Keeping A → WorldState A → ℕ → Type 0
KeepsThePlan kept w x = IsSomeAnd (slice_get w.plants (pair_at w.network x).plant.0)
    (λ plant. kept plant x ≡ rows_at (plan_of w.network) x)

-- so it is of each pair that is planned
abbrev pub PlansAreThePlan : {A : Type 0} → Keeping A → WorldState A → State → Type 0
PlansAreThePlan kept w s = (x : ℕ) → IsPair w.network x → s.planned x ≡ true → KeepsThePlan kept w x

-- each lane has brought its whole text, and the plant of each pair keeps its rows of the one plan
pub record IsComplete {A : Type 0} (kept : Keeping A) (w : WorldState A) (s : State) : Type 0 where
  pub whole : (l : ℕ) → l < length (lanes w.network) → HasBroughtAll w s l
  pub plans : (x : ℕ) → IsPair w.network x → KeepsThePlan kept w x
