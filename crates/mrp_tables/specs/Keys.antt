-- The reader of tables: names as the numbers by which it finds a plant, an item or a pair.
use Rattle.std.specs.Prelude.{◌≡◌, ℕ, ◌+◌, ◌*◌, ◌%◌, ◌∷◌, [], List, map, take, drop, All}
use Rattle.std.specs.List.{IsDistinct, slice_index_or}
use Rattle.std.specs.Str.{bytes_eq}
use Rattle.mrp_master_data.specs.Table.{IsName, Table}
use Rattle.mrp_tables.specs.declared.name_key.NameKey.{NameKey}
use Rattle.mrp_tables.specs.declared.name_key.PairKey.{PairKey}
use Rattle.mrp_master_data.specs.declared.rows.PairRow.{PairRow}
use Rattle.mrp_tables.specs.declared.names.KnownNames.{KnownNames}

-- the number whose digits to the base 512 are one more than the bytes, the first of them the lowest
unfoldable pub word_of : List ℕ → ℕ
word_of [] = 0
word_of (b ∷ bs) = word_of bs * 512 + b + 1

-- the bytes of a name, seven to a word
abbrev pub key_of : List ℕ → NameKey
key_of text = record {
  first = word_of (take 7 text);
  second = word_of (take 7 (drop 7 text));
  third = word_of (drop 14 text);
}

-- words as one, for a hash
abbrev pub mixed_with : ℕ → ℕ → ℕ
mixed_with word other = ((word * 11400714819323198485) % 18446744073709551616 + other) % 18446744073709551616

abbrev pub mixed : NameKey → ℕ
mixed k = mixed_with (mixed_with k.third k.second) k.first

-- the key of a pair: those of its plant's and its item's name
abbrev pub pair_key : List (List ℕ) → List (List ℕ) → PairRow → PairKey
pair_key plants items p = record {
  plant = key_of (slice_index_or plants p.plant.0 []);
  item = key_of (slice_index_or items p.item.0 []);
}

-- names, each once, and their keys in their order
pub record FindsNames (names : List (List ℕ)) (keys : List NameKey) : Type 0 where
  pub named : All IsName names
  pub apart : IsDistinct bytes_eq names
  pub in_order : keys ≡ map key_of names

-- the plants, the items and the pairs of these rows are found
pub record FindsAll (plant_names item_names : List (List ℕ)) (rows : List PairRow) (k : KnownNames) : Type 0 where
  pub plants : FindsNames plant_names k.plants.keys
  pub items : FindsNames item_names k.items.keys
  pub pairs : k.pairs.keys ≡ map (pair_key plant_names item_names) rows

-- the plants, the items and the pairs of the table are found
abbrev pub Knows : Table → KnownNames → Type 0
Knows N k = FindsAll N.plants N.items N.pairs k
