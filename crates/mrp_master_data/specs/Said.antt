-- Master data: what they say by their numbers, which names these stand for, and where a pair comes from.
use Rattle.std.specs.Prelude.{ℕ, List, [], map, slice_index_or}
use Rattle.mrp_master_data.specs.Supplies.{BuyTerms, FromTerms, MakeTerms, SourceTerms, SupplyTerms}
use Rattle.mrp_master_data.specs.Table.{item_at, plant_at, sources_of_pair, Table}
use Rattle.mrp_master_data.specs.declared.rows.SourceRow.{SourceRow}
use Rattle.mrp_master_data.specs.declared.rows.Supply.{Supply}
use Rattle.mrp_master_data.specs.declared.rows.Supply.TheVariants as supply

-- the name at a place of the plants, and of the items
abbrev pub plant_name : Table → ℕ → List ℕ
plant_name N plant = slice_index_or N.plants plant []

abbrev pub item_name : Table → ℕ → List ℕ
item_name N item = slice_index_or N.items item []

-- the names of the plant and of the item of the pair at a place
abbrev pub pair_plant : Table → ℕ → List ℕ
pair_plant N x = plant_name N (plant_at N x)

abbrev pub pair_item : Table → ℕ → List ℕ
pair_item N x = item_name N (item_at N x)

abbrev pub source_said : Table → SourceRow → SourceTerms
source_said N s = record { plant = plant_name N s.plant.0; low = s.low; high = s.high }

-- a pair is made, is bought, or is taken from its sources
abbrev pub supply_said : Table → ℕ → Supply → SupplyTerms
supply_said N x supply.Make = MakeTerms
supply_said N x supply.Buy = BuyTerms
supply_said N x supply.From = FromTerms (map (source_said N) (sources_of_pair N x))
