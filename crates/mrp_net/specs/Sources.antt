-- The network: its sources by number, and the one by which a pair, or a lane's customer, takes from a plant.
use Rattle.std.specs.Prelude.{ℕ, ◌==◌, ◌&&◌, slice_index_or}
use Rattle.std.specs.List.{position_or_len}
use Rattle.mrp_master_data.specs.declared.numbers.ItemNo.{ItemNo}
use Rattle.mrp_master_data.specs.declared.rows.SourceRow.{SourceRow}
use Rattle.mrp_master_data.specs.Table.{Table}
use Rattle.mrp_net.specs.declared.lane.Lane.{Lane}
use Rattle.mrp_net.specs.Lanes.{pair_on, supplier_of}

-- the number of the source by which a pair takes from a plant, or past the end where there is none
abbrev pub source_no : Table → ℕ → ℕ → ℕ
source_no N x plant = position_or_len (λ s. (s.plant.0 == plant) && (s.pair.0 == x)) N.sources

-- what a look-up past the sources of the table reads
abbrev pub no_source : SourceRow
no_source = record { pair = record { 0 = 0 }; plant = record { 0 = 0 }; low = 0; high = 0 }

-- the source by which a lane's customer takes an item from its supplier
abbrev pub source_on : Table → Lane → ItemNo → SourceRow
source_on N lane item = slice_index_or N.sources (source_no N (pair_on N lane item) (supplier_of lane)) no_source
