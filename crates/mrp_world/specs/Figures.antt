-- The world: the cumulative figures of all lanes in a state that it shows.
use Rattle.std.specs.Prelude.{◌≡◌, ℕ, ◌+◌, List, length, map, All}
use Rattle.std.specs.List.{flat_map, range_with_len}
use Rattle.mrp_master_data.specs.declared.numbers.ItemNo.{ItemNo}
use Rattle.mrp_master_data.specs.Table.{Table, IsTable}
use Rattle.mrp_net.specs.declared.lane.Lane.{Lane}
use Rattle.mrp_net.specs.Lanes.{lanes, lane_at, lane_items, opening}
use Rattle.mrp_record.specs.Text.{total}
use Rattle.mrp_book.specs.declared.figure.LaneFigure.{LaneFigure}
use Rattle.mrp_book.specs.LaneFigures.{IsLaneFigure}
use Rattle.mrp_protocol.specs.LaneOrder.{cum_on}
use Rattle.mrp_protocol.specs.Loads.{load_of}
use Rattle.mrp_protocol.specs.State.{State, IsFinished, IsReached}

-- the figures of an item of a lane: where they begin, and what has been shipped and what has been received,
-- closed years added
abbrev pub lane_figure_at : Table → State → ℕ → ItemNo → LaneFigure
lane_figure_at N s l item = record {
  lane = record { 0 = l };
  item = item;
  opening = opening N (lane_at N l) item;
  shipped = cum_on N l item (s.sent l);
  received = cum_on N l item (s.taken l);
}

-- one for each item of the lane, in its order
abbrev pub figures_in_lane : Table → State → ℕ → List LaneFigure
figures_in_lane N s l = map (lane_figure_at N s l) (lane_items N (lane_at N l))

-- by lane, then lane item
abbrev pub figures_in : Table → State → List LaneFigure
figures_in N s = flat_map (figures_in_lane N s) (range_with_len 0 (length (lanes N)))

-- ---- each figure

-- in each state that events lead to
abbrev pub FiguresAreOfLanes : Type 0
FiguresAreOfLanes =
    (N : Table) → IsTable N → (capacity : ℕ) (s : State) → IsReached N capacity s
    → All (IsLaneFigure N) (figures_in N s)

-- ---- at the end

-- all pieces of an item that its lane carries, after those that its figures begin with: what the rows say of
-- it, whatever has happened
abbrev pub carried : Table → Lane → ItemNo → ℕ
carried N lane item = opening N lane item + total (load_of N lane item).lines

-- the figures of an item of a lane when all of them are shipped and received
abbrev pub settled_figure : Table → ℕ → ItemNo → LaneFigure
settled_figure N l item = record {
  lane = record { 0 = l };
  item = item;
  opening = opening N (lane_at N l) item;
  shipped = carried N (lane_at N l) item;
  received = carried N (lane_at N l) item;
}

abbrev pub last_on : Table → ℕ → List LaneFigure
last_on N l = map (settled_figure N l) (lane_items N (lane_at N l))

-- by lane, then lane item
unfoldable pub last_figures : Table → List LaneFigure
last_figures N = flat_map (last_on N) (range_with_len 0 (length (lanes N)))

-- so every finished run ends
abbrev pub FinishedFiguresAreLast : Type 0
FinishedFiguresAreLast =
    (N : Table) → IsTable N → (capacity : ℕ) (s : State) → IsReached N capacity s → IsFinished N s
    → figures_in N s ≡ last_figures N
