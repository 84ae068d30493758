-- The book of a lane's receiver: what is true of each figure of the lane, as the book keeps it and reports tell it.
use Rattle.std.specs.Prelude.{◌<◌, ◌≤◌, length}
use Rattle.mrp_master_data.specs.Table.{Table}
use Rattle.mrp_net.specs.Lanes.{lanes}
use Rattle.mrp_book.specs.declared.figure.LaneFigure.{LaneFigure}

-- it is of a lane and an item of the network, with no more received than shipped
pub record IsLaneFigure (N : Table) (figure : LaneFigure) : Type 0 where
  pub lane : figure.lane.0 < length (lanes N)
  pub item : figure.item.0 < length N.items
  pub received : figure.received ≤ figure.shipped
