-- The reader of tables: what it finds that a bill, a demand or a receipt row says of pairs.
use Rattle.std.specs.Prelude.{ℕ, List, [], Result, Ok}
use Rattle.mrp_master_data.specs.declared.numbers.PairNo.{PairNo}
use Rattle.mrp_master_data.specs.Table.{Table, horizon}
use Rattle.mrp_validation.specs.declared.fault.TableFaultKind.{TableFaultKind}
use Rattle.mrp_validation.specs.Grammar.{◌>>=◌, amount_terms, known_pair}

-- the pair that it names, its period and its quantity, or its first fault
unfoldable pub known_amount : Table → List (List ℕ) → Result (PairNo × ℕ × ℕ) TableFaultKind
known_amount N row = do
  t ← amount_terms row (horizon N)
  found ← known_pair N t.plant t.item
  Ok (found.1, t.period, t.quantity)

-- the table without its bill rows: what a bill row says of it is said whatever bill rows there are
abbrev pub without_bills : Table → Table
without_bills N = record N { bills = [] }
