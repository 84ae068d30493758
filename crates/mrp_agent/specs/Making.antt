-- The agent: what it is made of.
use Rattle.std.specs.Prelude.{◌≡◌, ℕ, ◌<◌, ◌^◌, false, List, [], length, map, replicate, slice_index, slice_index_or}
use Rattle.std.specs.List.{flat_map, range_with_len}
use Rattle.mrp_net.specs.declared.lane.LaneKind.{LaneKind}
use Rattle.mrp_net.specs.declared.lane.LaneKind.TheVariants.{Despatch, Schedule}
use Rattle.mrp_plant_view.specs.declared.view.IncomingItem.{IncomingItem}
use Rattle.mrp_plant_view.specs.declared.view.IncomingLane.{IncomingLane}
use Rattle.mrp_plant_view.specs.declared.view.OutgoingLane.{OutgoingLane}
use Rattle.mrp_plant_view.specs.View.{PlantRows}
use Rattle.mrp_book.specs.Figures as book
use Rattle.mrp_book.specs.Figures.{Figures}
use Rattle.mrp_record.specs.Cursor.{OutFigures, Goods}
use Rattle.mrp_record.specs.Shows.{ShowsSent}
use Rattle.mrp_readiness.specs.Counts.{AreCounts}
use Rattle.mrp_readiness.specs.Progress.{Progress, times}
use Rattle.mrp_agent.specs.State.{pair_place, no_out, no_outgoing}
use Rattle.mrp_agent.specs.Shows.{form_of, joins_of}

-- the book of each lane, before its first record
abbrev pub new_figures : PlantRows → IncomingLane → Figures
new_figures V lane = book.figures (form_of V lane) []

-- the places of the pairs that await the blocks of the lanes that come in
abbrev pub place_awaited : PlantRows → IncomingItem → ℕ
place_awaited V i = pair_place V i.pair.0

abbrev pub awaited_places : PlantRows → List ℕ
awaited_places V = flat_map (λ lane. map (place_awaited V) lane.items) V.incoming

-- the cursor of a lane before its first record: all that is shipped may be sent, and nothing yet of what is called for
abbrev pub idle_queue : LaneKind → ℕ → List ℕ
idle_queue Despatch size = range_with_len 0 size
idle_queue Schedule size = []

pub record IsIdleOut (kind : LaneKind) (size : ℕ) (o : OutFigures) : Type 0 where
  pub shows : (goods : ℕ → Goods) → ShowsSent goods o []
  pub size_is : o.size ≡ size
  pub queue : o.queue ≡ idle_queue kind size

abbrev pub IsIdleLane : OutgoingLane → OutFigures → Type 0
IsIdleLane lane o = IsIdleOut lane.kind (length lane.items) o

pub record AreIdleOuts (lanes : List OutgoingLane) (outs : List OutFigures) : Type 0 where
  pub size : length outs ≡ length lanes
  pub idle : (k : ℕ) → k < length outs → IsIdleLane (slice_index_or lanes k no_outgoing) (slice_index_or outs k no_out)

-- the first progress of a plant
pub record IsFirstProgress (V : PlantRows) (progress : Progress) : Type 0 where
  pub numbers : progress.numbers ≡ map (λ p. p.number) V.pairs
  pub size : length progress.waits ≡ length V.pairs
  pub planned : progress.planned ≡ replicate (length V.pairs) false
  pub waits : AreCounts progress.waits (joins_of V) progress.planned (λ y. times y (awaited_places V))

-- each amount has 64 bits
abbrev pub AreFit : List ℕ → Type 0
AreFit amounts = (k : ℕ) → slice_index amounts k < 2 ^ 64
