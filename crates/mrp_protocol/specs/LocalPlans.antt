-- The protocol: what a plant may plan from its own view and from the records that have come to it.
-- `taken` has the records of each lane by the lane's number, `planned` and `plans` say which pairs are
-- planned and how, by the pair's number.
use Rattle.std.specs.Prelude.{◌≡◌, ℕ, ◌+◌, ◌*◌, ◌==◌, if◌then◌else◌, not, Bool, true, false}
use Rattle.std.specs.Prelude.{List, [], map, filter, sum_by, slice_index, slice_index_or, All, Contains}
use Rattle.std.specs.List.{position_or_len, range_with_len}
use Rattle.mrp_netting.specs.PlanRows.{PlanRows}
use Rattle.mrp_netting.specs.PlanningData.{PairData, PairTerms, planned, one}
use Rattle.mrp_master_data.specs.declared.numbers.ItemNo.{ItemNo}
use Rattle.mrp_master_data.specs.declared.numbers.PairNo.{PairNo}
use Rattle.mrp_master_data.specs.declared.rows.FirmRow.{FirmRow}
use Rattle.mrp_master_data.specs.declared.rows.UsageRow.{UsageRow}
use Rattle.mrp_net.specs.Terms.{terms_of}
use Rattle.mrp_net.specs.Usages.{pieces_for, usage_in}
use Rattle.mrp_net.specs.declared.lane.LaneKind.{LaneKind}
use Rattle.mrp_net.specs.declared.lane.LaneKind.TheVariants.{Despatch, Schedule}
use Rattle.mrp_net.specs.LaneLaws.{is_despatch}
use Rattle.mrp_plant_view.specs.declared.view.IncomingLane.{IncomingLane}
use Rattle.mrp_plant_view.specs.declared.view.PlantPair.{PlantPair}
use Rattle.mrp_plant_view.specs.View.{PlantRows}
use Rattle.mrp_record.specs.declared.record.Record.{Record}
use Rattle.mrp_record.specs.Entries.{Entry, contents, is_ended}
use Rattle.mrp_record.specs.Blocks.{deliveries}
use Rattle.mrp_record.specs.Laws.{quantity_in}

-- ---- what has come

-- the pieces of an item that are delivered in a period
abbrev pub pieces_in : ℕ → ℕ → List Entry → ℕ
pieces_in item period entries = quantity_in period (deliveries item entries)

-- the lanes that come in, of one kind
abbrev pub is_of_kind : LaneKind → LaneKind → Bool
is_of_kind Despatch kind = is_despatch kind
is_of_kind Schedule kind = not (is_despatch kind)

abbrev pub lanes_in : LaneKind → PlantRows → List IncomingLane
lanes_in kind V = filter (λ lane. is_of_kind kind lane.kind) V.incoming

-- what lanes of one kind have brought of an item for a period: on despatch lanes what is to arrive, on
-- schedule lanes what is called for
abbrev pub booked_on : LaneKind → PlantRows → (ℕ → List Record) → ItemNo → ℕ → ℕ
booked_on kind V taken item period =
    sum_by (λ lane. pieces_in item.0 period (contents (taken lane.number.0))) (lanes_in kind V)

-- ---- the plan of a pair

-- the place of a pair among the plant's, and its amount of a period
abbrev pub place_in : PlantRows → PairNo → ℕ
place_in V x = position_or_len (λ p. p.number.0 == x.0) V.pairs

abbrev pub amount_at : PlantRows → List ℕ → PairNo → ℕ → ℕ
amount_at V amounts x period = slice_index amounts (place_in V x * V.horizon + period)

-- the usage rows of a pair as a component
abbrev pub usages_in : PlantRows → PairNo → List UsageRow
usages_in V x = slice_index_or V.usages (place_in V x) []

-- what the releases of its parents ask of a pair, by the usages in force
abbrev pub asked_within : PlantRows → (ℕ → PlanRows) → PairNo → ℕ → ℕ
asked_within V plans x period =
    sum_by (λ e. if e.component.0 == x.0
    then pieces_for (usage_in (usages_in V x) e.parent.0 e.per period) (slice_index (plans e.parent.0).release period) else 0) V.edges

-- scheduled receipts beside firm planned orders: the receipt rows that count when they come, and what has come on
-- despatch lanes
abbrev pub local_incoming : PlantRows → (ℕ → List Record) → PlantPair → ℕ → ℕ
local_incoming V taken p period =
    amount_at V V.receipts p.number period + booked_on Despatch V taken p.item period

-- gross requirement: the demand rows, what the parents ask, and what is called for on schedule lanes
abbrev pub local_gross : PlantRows → (ℕ → List Record) → (ℕ → PlanRows) → PlantPair → ℕ → ℕ
local_gross V taken plans p period =
    amount_at V V.demands p.number period + asked_within V plans p.number period
    + booked_on Schedule V taken p.item period

-- an amount for each period, as a row
abbrev pub local_row : PlantRows → (ℕ → ℕ) → List ℕ
local_row V amount = map amount (range_with_len 0 V.horizon)

-- the firm planned orders of a pair, its receipts that may be counted sooner, and what planners say of it
abbrev pub firms_in : PlantRows → PairNo → List FirmRow
firms_in V x = slice_index_or V.firms (place_in V x) []

abbrev pub sooner_in : PlantRows → PairNo → List ℕ
sooner_in V x = slice_index_or V.sooner (place_in V x) []

abbrev pub terms_in : PlantRows → PlantPair → PairTerms
terms_in V p = terms_of V.horizon p.params p.policy (sooner_in V p.number) (firms_in V p.number)

-- what it is planned from, and its plan
abbrev pub local_data : PlantRows → (ℕ → List Record) → (ℕ → PlanRows) → PlantPair → PairData
local_data V taken plans p =
    planned (terms_in V p) (local_row V (local_incoming V taken p)) (local_row V (local_gross V taken plans p))

abbrev pub local_plan : PlantRows → (ℕ → List Record) → (ℕ → PlanRows) → PlantPair → PlanRows
local_plan V taken plans p = one (local_data V taken plans p)

-- ---- which pairs can be planned

-- a lane has the item
abbrev pub Carries : IncomingLane → ItemNo → Type 0
Carries lane item = Contains (map (λ i. i.item) lane.items) item

-- the item's whole block has come, if the lane has one
abbrev pub HasCome : (ℕ → List Record) → ItemNo → IncomingLane → Type 0
HasCome taken item lane = Carries lane item → is_ended item.0 (contents (taken lane.number.0)) ≡ true

-- nothing is missing for the plan of a pair: its parents are planned, and each lane that comes in has
-- brought what it has of the item
pub record AwaitsNothing (V : PlantRows) (taken : ℕ → List Record) (planned : ℕ → Bool) (p : PlantPair) : Type 0 where
  pub parents : All (λ e. e.component.0 ≡ p.number.0 → planned e.parent.0 ≡ true) V.edges
  pub brought : All (HasCome taken p.item) V.incoming

pub record CanBePlanned (V : PlantRows) (taken : ℕ → List Record) (planned : ℕ → Bool) (p : PlantPair) : Type 0 where
  pub unplanned : planned p.number.0 ≡ false
  pub ready : AwaitsNothing V taken planned p

-- ---- plans

-- a pair was planned when nothing was missing for it, and by the rules
pub record IsPlannedLocally (V : PlantRows) (taken : ℕ → List Record) (planned : ℕ → Bool) (plans : ℕ → PlanRows)
    (p : PlantPair) : Type 0 where
  pub ready : AwaitsNothing V taken planned p
  pub plan : plans p.number.0 ≡ local_plan V taken plans p

-- and so was each of the plant's pairs that is planned
abbrev pub IsLocal : PlantRows → (ℕ → List Record) → (ℕ → Bool) → (ℕ → PlanRows) → Type 0
IsLocal V taken planned plans = All (λ p. planned p.number.0 ≡ true → IsPlannedLocally V taken planned plans p) V.pairs
