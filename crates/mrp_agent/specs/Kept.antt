-- The agent: what stays true of its fields, and of the indexes that it keeps with them.
use Rattle.std.specs.Prelude.{◌≡◌, ℕ, ◌*◌, ◌<◌, ◌≤◌, List, length, map, slice_index_or, All}
use Rattle.std.specs.List.{range_with_len}
use Rattle.mrp_netting.specs.PlanRows.{PlanRows}
use Rattle.mrp_master_data.specs.declared.numbers.ItemNo.{ItemNo}
use Rattle.mrp_grouping.specs.Starts.{IsGrouped}
use Rattle.mrp_plant_view.specs.declared.view.IncomingLane.{IncomingLane}
use Rattle.mrp_plant_view.specs.declared.view.PlantEdge.{PlantEdge}
use Rattle.mrp_plant_view.specs.Seen.{IsView}
use Rattle.mrp_plant_view.specs.View.{PlantRows}
use Rattle.mrp_qty.specs.declared.quantity.TheConstants.{MOST}
use Rattle.mrp_record.specs.declared.record.Record.{Record}
use Rattle.mrp_record.specs.Form.{LaneForm}
use Rattle.mrp_book.specs.Figures as book
use Rattle.mrp_book.specs.Figures.{Figures}
use Rattle.mrp_record.specs.Cursor.{OutFigures}
use Rattle.mrp_readiness.specs.Counts.{components_of}
use Rattle.mrp_readiness.specs.Progress.{Progress}
use Rattle.mrp_agent.specs.declared.edges.ParentEdge.{ParentEdge}
use Rattle.mrp_agent.specs.declared.queues.QueuePlace.{QueuePlace}
use Rattle.mrp_agent.specs.After.{items_of}
use Rattle.mrp_agent.specs.Queues.{queue_places}
use Rattle.mrp_agent.specs.State.{AgentState, no_out, outgoing_at, pair_place}
use Rattle.mrp_agent.specs.Shows.{BooksShow, Awaits, joins_of}

-- an edge of the plant by places
abbrev pub parent_edge : PlantRows → PlantEdge → ParentEdge
parent_edge V e = record { component = pair_place V e.component.0; parent = pair_place V e.parent.0; per = e.per }

-- The indexes: the items of the pairs by place, the edges in groups by their components, the places of
-- the components that go into each pair, and where each pair is queued once it is planned, in groups by
-- pair. With them stands how many periods the room has in which plans are drafted.
pub record Indexes : Type 0 where
  pub items : List ItemNo
  pub edges : List ParentEdge
  pub starts : List ℕ
  pub components : List (List ℕ)
  pub queues : List QueuePlace
  pub queue_starts : List ℕ
  pub room : ℕ

pub record AreIndexes (V : PlantRows) (I : Indexes) : Type 0 where
  pub items : I.items ≡ map (λ p. p.item) V.pairs
  pub edges : IsGrouped (λ e. e.component) (length V.pairs) (map (parent_edge V) V.edges) I.edges I.starts
  pub components : I.components ≡ map (components_of (joins_of V)) (range_with_len 0 (length V.pairs))
  pub queues : IsGrouped (λ q. q.pair) (length V.pairs) (queue_places (items_of V) V.outgoing) I.queues I.queue_starts
  pub room : I.room ≡ V.horizon

-- a plan has a row's amount for each period
pub record HasPlanRows (V : PlantRows) (plan : PlanRows) : Type 0 where
  pub gross : length plan.gross ≡ V.horizon
  pub release : length plan.release ≡ V.horizon

-- each pair has a plan
pub record ArePlans (V : PlantRows) (plans : List PlanRows) : Type 0 where
  pub count : length plans ≡ length V.pairs
  pub periods : All (HasPlanRows V) plans

-- of each pair it is counted what it waits for, and whether it is planned
pub record IsOfPairs (V : PlantRows) (progress : Progress) : Type 0 where
  pub numbers : progress.numbers ≡ map (λ p. p.number) V.pairs
  pub waits : length progress.waits ≡ length V.pairs
  pub planned : length progress.planned ≡ length V.pairs

-- each lane that goes out has a cursor over its items
pub record AreCursors (V : PlantRows) (outs : List OutFigures) : Type 0 where
  pub count : length outs ≡ length V.outgoing
  pub sizes : (k : ℕ) → k < length V.outgoing → (slice_index_or outs k no_out).size ≡ length (outgoing_at V k).items

-- it has what it keeps of each lane and pair
pub record HasRooms (A : AgentState) : Type 0 where
  pub books : length A.books ≡ length A.view.incoming
  pub scheduled_receipts : length A.scheduled_receipts ≡ length A.view.pairs * A.view.horizon
  pub outside_demand : length A.outside_demand ≡ length A.view.pairs * A.view.horizon
  pub plans : ArePlans A.view A.plans
  pub progress : IsOfPairs A.view A.progress
  pub cursors : AreCursors A.view A.outs

-- a book shows some list
pub record IsShowing (b : Figures) : Type 0 where
  pub form : LaneForm
  pub records : List Record
  pub shows : book.BookShows form b records

-- its books show some lists, and it waits for what has not come
pub record HasTaken (A : AgentState) : Type 0 where
  pub taken : ℕ → List Record
  pub books : BooksShow A taken
  pub waits : Awaits A taken

pub record IsKept (A : AgentState) (I : Indexes) : Type 0 where
  pub view : IsView A.view
  pub indexes : AreIndexes A.view I
  pub rooms : HasRooms A
  pub taken : HasTaken A

-- the figures of the lanes that come in begin at 10^15 pieces at most
abbrev pub HasSmallItems : IncomingLane → Type 0
HasSmallItems lane = All (λ i. i.opening ≤ MOST) lane.items

abbrev pub HasSmallOpenings : PlantRows → Type 0
HasSmallOpenings V = All HasSmallItems V.incoming
