-- The reader of tables: what it has left where it reads bytes in front and a reader behind them.
use Rattle.std.specs.Prelude.{ℕ, List, [], drop, if◌then◌else◌, Option, Some}
use Rattle.std.specs.Io.KnownBytes.{prepend_known}
use Rattle.mrp_tables.specs.declared.source.Source.{Source}

-- none where the reader has told its end, else those that it has left, where they are known
abbrev pub behind_of : {R : Type 0} → (R → Option (List ℕ)) → Source R → Option (List ℕ)
behind_of remaining s = if s.is_ended then Some [] else remaining s.reader

-- the bytes ahead that were not read, and then those of the reader
abbrev pub left_of : {R : Type 0} → (R → Option (List ℕ)) → Source R → Option (List ℕ)
left_of remaining s = prepend_known (drop s.at s.ahead.items) (behind_of remaining s)
