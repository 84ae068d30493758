-- CSV output: the names of pairs, plants and items in any report's rows.
use Rattle.std.specs.Prelude.{ℕ, List, length}
use Rattle.std.specs.List.{range_with_len}
use Rattle.mrp_master_data.specs.Said.{item_name, plant_name}
use Rattle.mrp_master_data.specs.Table.{Table}
use Rattle.mrp_net.specs.Sums.{pair_at}

-- the names of a pair's plant and item
abbrev pub plant_of : Table → ℕ → List ℕ
plant_of N x = plant_name N (pair_at N x).plant.0

abbrev pub item_of : Table → ℕ → List ℕ
item_of N x = item_name N (pair_at N x).item.0

-- all pairs, in table order
abbrev pub pairs_of : Table → List ℕ
pairs_of N = range_with_len 0 (length N.pairs)
