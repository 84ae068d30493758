-- Master data: what the names of plants and items stand for.
use Rattle.std.specs.Prelude.{ℕ, ◌==◌, ◌&&◌, Bool, List, Option, Some, None, position}
use Rattle.std.specs.List.{list_any}
use Rattle.std.specs.Str.{bytes_eq}
use Rattle.mrp_master_data.specs.Table.{Table}

abbrev pub has_plant : Table → List ℕ → Bool
has_plant N name = list_any (bytes_eq name) N.plants

abbrev pub plant_no : Table → List ℕ → Option ℕ
plant_no N name = position (bytes_eq name) N.plants

abbrev pub found_pair : Table → ℕ → ℕ → Option ℕ
found_pair N plant item = position (λ p. (p.plant.0 == plant) && (p.item.0 == item)) N.pairs

abbrev pub pair_of_item : Table → ℕ → Option ℕ → Option ℕ
pair_of_item N plant None = None
pair_of_item N plant (Some item) = found_pair N plant item

-- the pair of a plant and the item of that name
abbrev pub pair_named : Table → Option ℕ → List ℕ → Option ℕ
pair_named N None item = None
pair_named N (Some plant) item = pair_of_item N plant (position (bytes_eq item) N.items)
