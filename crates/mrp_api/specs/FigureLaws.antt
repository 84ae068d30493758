-- The library: what two of its texts of one table say of each other, the report of cumulative figures
-- and that of delivery schedules.
use Rattle.std.specs.Prelude.{◌≡◌, ◌+◌, All}
use Rattle.mrp_master_data.specs.Table.{Table}
use Rattle.mrp_net.specs.declared.lane.LaneKind.TheVariants.{Schedule}
use Rattle.mrp_net.specs.Lanes.{lane_at}
use Rattle.mrp_book.specs.declared.figure.LaneFigure.{LaneFigure}
use Rattle.mrp_world.specs.Figures.{last_figures}
use Rattle.mrp_schedules.specs.Laws.{called_pieces}
use Rattle.mrp_schedules.specs.Schedule.{schedule_of}

-- on a schedule lane what is shipped is the opening figure and all that the item's schedule calls for
abbrev pub IsCalledFor : Table → LaneFigure → Type 0
IsCalledFor N figure =
    (lane_at N figure.lane.0).kind ≡ Schedule
    → figure.shipped ≡ figure.opening + called_pieces (schedule_of N (lane_at N figure.lane.0) figure.item)

-- so it is with each figure of the cumulative report
abbrev pub FiguresAreCalledFor : Type 0
FiguresAreCalledFor = (N : Table) → All (IsCalledFor N) (last_figures N)
