-- A lane's mailbox between threads: what each of its two ends counts of the records that went through it.
use Rattle.std.specs.Prelude.{ℕ, ◌+◌, ◌==◌, if◌then◌else◌, Bool, List, length, map}
use Rattle.mrp_master_data.specs.declared.numbers.ItemNo.{ItemNo}
use Rattle.mrp_master_data.specs.Table.{Table}
use Rattle.mrp_net.specs.Lanes.{lane_at, lane_items, opening}
use Rattle.mrp_record.specs.declared.record.Record.{Record}
use Rattle.mrp_record.specs.Entries.{content, contents, is_of, moved, quantity_of}
use Rattle.mrp_lane.specs.declared.tally.ItemPieces.{ItemPieces}

-- the number of records, and the pieces of each item
pub record Counts : Type 0 where
  pub records : ℕ
  pub items : List ItemPieces

abbrev pub is_same_pieces : ItemPieces → ItemPieces → Bool
is_same_pieces a b = a.item.0 == b.item.0

-- ---- with one record more

-- the pieces of an item in a record
abbrev pub record_pieces : ℕ → Record → ℕ
record_pieces item r = if is_of item (content r) then quantity_of (content r) else 0

abbrev pub with_record : Record → ItemPieces → ItemPieces
with_record r i = record i { pieces = i.pieces + record_pieces i.item.0 r }

abbrev pub counted : Counts → Record → Counts
counted t r = record { records = t.records + 1; items = map (with_record r) t.items }

-- so many pieces more of one item
abbrev pub more_of : ℕ → ℕ → ItemPieces → ItemPieces
more_of item quantity i = record i { pieces = i.pieces + (if item == i.item.0 then quantity else 0) }

-- ---- of a list

abbrev pub item_pieces_of : Table → ℕ → List Record → ItemNo → ItemPieces
item_pieces_of N l records item = record {
  item = item;
  opening = opening N (lane_at N l) item;
  pieces = moved item.0 (contents records);
}

-- the counts of the records on the lane l of the network N
abbrev pub counts_of : Table → ℕ → List Record → Counts
counts_of N l records = record {
  records = length records;
  items = map (item_pieces_of N l records) (lane_items N (lane_at N l));
}
