-- Master data: what finds a pair by its plant and its item.
use Rattle.std.specs.Prelude.{◌≡◌, ℕ, ◌==◌, ◌&&◌, Bool, List, Option, option_map, position}
use Rattle.mrp_master_data.specs.declared.numbers.PairNo.{PairNo}
use Rattle.mrp_master_data.specs.declared.row_lists.PlantItem.{PlantItem}
use Rattle.mrp_master_data.specs.declared.rows.PairRow.{PairRow}

abbrev pub is_same_place : PlantItem → PlantItem → Bool
is_same_place k l = (k.plant.0 == l.plant.0) && (k.item.0 == l.item.0)

-- a pair of that plant and item
abbrev pub is_at : ℕ → ℕ → PairRow → Bool
is_at plant item p = (p.plant.0 == plant) && (p.item.0 == item)

-- what is found of a plant and an item is the place of their pair
abbrev pub FindsPairs : (PlantItem → Option PairNo) → List PairRow → Type 0
FindsPairs found pairs = (key : PlantItem) → option_map (λ x. x.0) (found key)
    ≡ position (is_at key.plant.0 key.item.0) pairs
