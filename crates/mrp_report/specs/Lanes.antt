-- The report of the cumulative figures of lanes.
use Rattle.std.specs.Prelude.{ℕ, ◌-◌, List, [], ◌∷◌, decimal, codes as text_bytes}
use Rattle.std.specs.List.{flat_map}
use Rattle.mrp_master_data.specs.Table.{Table}
use Rattle.mrp_net.specs.declared.lane.Lane.{Lane}
use Rattle.mrp_net.specs.declared.lane.LaneKind.{LaneKind}
use Rattle.mrp_net.specs.declared.lane.LaneKind.TheVariants.{Despatch, Schedule}
use Rattle.mrp_net.specs.Lanes.{lane_at}
use Rattle.mrp_book.specs.declared.figure.LaneFigure.{LaneFigure}
use Rattle.mrp_master_data.specs.Said.{item_name, plant_name}
use Rattle.mrp_csv_out.specs.Rows.{row}

-- what the row of a figure calls the kind of its lane
abbrev pub lane_kind_word : LaneKind → List ℕ
lane_kind_word Despatch = text_bytes "despatch"
lane_kind_word Schedule = text_bytes "schedule"

-- the fields of the row of a figure of that lane: opening, shipped, received, and what is in transit
abbrev pub figure_fields : Table → Lane → LaneFigure → List (List ℕ)
figure_fields N lane figure =
    text_bytes "lane" ∷ lane_kind_word lane.kind ∷ plant_name N lane.sender.0 ∷ plant_name N lane.receiver.0
    ∷ item_name N figure.item.0
    ∷ decimal figure.opening ∷ decimal figure.shipped ∷ decimal figure.received
    ∷ decimal (figure.shipped - figure.received) ∷ []

-- that row
unfoldable pub figure_row : Table → Lane → LaneFigure → List ℕ
figure_row N lane figure = row (figure_fields N lane figure)

abbrev pub lane_row : Table → LaneFigure → List ℕ
lane_row N figure = figure_row N (lane_at N figure.lane.0) figure

-- the report of the figures, in their order
unfoldable pub lane_text : Table → List LaneFigure → List ℕ
lane_text N figures = flat_map (lane_row N) figures
