-- The network: what the lists behind its lanes hold, which is routes and their items.
use Rattle.std.specs.Prelude.{◌≡◌, ℕ, ◌+◌, ◌*◌, ◌<◌, List, length, map}
use Rattle.mrp_master_data.specs.declared.numbers.ItemNo.{ItemNo}
use Rattle.mrp_master_data.specs.declared.rows.SourceRow.{SourceRow}
use Rattle.mrp_master_data.specs.Table.{Table}
use Rattle.mrp_net.specs.declared.lane.Lane.{Lane}
use Rattle.mrp_net.specs.declared.lanes.LaneLists.{LaneLists}
use Rattle.mrp_net.specs.declared.lanes.Taken.{Taken}
use Rattle.mrp_grouping.specs.Starts.{ShowsGroups}
use Rattle.mrp_net.specs.Sums.{pair_at}
use Rattle.mrp_net.specs.SourceRows.{AreSourceStarts, AreShipments, AreSent, AreResets}
use Rattle.mrp_net.specs.Lanes.{lanes, item_of_source, figure, shipped_from, customer_of, supplier_of}

-- the number of a route: by customer, then by supplier
abbrev pub route_no : Table → ℕ → ℕ → ℕ
route_no N customer supplier = customer * length N.plants + supplier

-- the item of a source and its route
abbrev pub taken : Table → SourceRow → Taken
taken N s = record { route = route_no N (pair_at N s.pair.0).plant.0 s.plant.0; item = item_of_source N s }

-- the items of each route
abbrev pub AreItems : Table → List ItemNo → List ℕ → Type 0
AreItems N rows starts = ShowsGroups (λ t. t.item) (λ t. t.route) (length N.plants * length N.plants)
    (map (taken N) N.sources) rows starts

-- a lane joins plants of the table
pub record IsLane (N : Table) (lane : Lane) : Type 0 where
  pub customer : customer_of lane < length N.plants
  pub supplier : supplier_of lane < length N.plants

-- the lanes and what is sent over them
pub record AreLaneLists (N : Table) (l : LaneLists) : Type 0 where
  pub all : l.lanes.items ≡ lanes N
  pub items : AreItems N l.items.rows.items l.items.starts.items
  pub sources : AreSourceStarts N l.sources.items
  pub shipments : AreShipments N l.shipments.rows.items l.shipments.starts.items
  pub openings : AreSent N (figure N) l.figures.items
  pub sent : AreSent N (shipped_from N) l.shipped.items
  pub resets : AreResets N l.resets.items
