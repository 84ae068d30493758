-- Reading a table: what its steps answer, in the words of the grammar.
use Rattle.std.specs.Prelude.{◌≡◌, ℕ, ◌<◌, true, List, ◌++◌, length, map, All, Some, None, Result, Ok, Err}
use Rattle.mrp_tables.specs.declared.draft.Draft.{Draft}
use Rattle.mrp_validation.specs.declared.fault.TableFault.{TableFault}
use Rattle.mrp_validation.specs.declared.fault.TableFaultKind.{TableFaultKind}
use Rattle.mrp_validation.specs.declared.kind.Kind.{Kind}
use Rattle.mrp_validation.specs.declared.kind.Kind.TheVariants as kind
use Rattle.mrp_cal.specs.Calendar.{CalendarTerms}
use Rattle.mrp_master_data.specs.declared.numbers.PlantNo.{PlantNo}
use Rattle.mrp_qty.specs.declared.limits.LimitSet.{LimitSet}
use Rattle.mrp_master_data.specs.Table.{most, Table}
use Rattle.mrp_master_data.specs.Growing.{empty_table}
use Rattle.mrp_master_data.specs.Supplies.{SourceTerms}
use Rattle.mrp_validation.specs.Grammar.{knows_sources, PairTerms, run_terms, seen, source_row, TellsFault}
use Rattle.mrp_master_data.specs.SupplyParsing.{named_sources}
use Rattle.mrp_master_data.specs.Names.{pair_named, plant_no}
use Rattle.mrp_validation.specs.Reading.{IsReadSoFar, row_after, Starts, StartsWith, UnlessMemory}

-- a pair row that fits the rows before it, at that plant
pub record FitsPair (N : Table) (p : PlantNo) (t : PairTerms) : Type 0 where
  pub plant : plant_no N t.plant ≡ Some p.0
  pub within : p.0 < length N.plants
  pub fresh : pair_named N (Some p.0) t.item ≡ None
  pub known : knows_sources N (named_sources t.supply) ≡ true
  pub room : length N.pairs < (most N).pairs

-- no row of a source or a shipment names the pair at that place, or one after it
pub record IsNewPair (N : Table) (x : ℕ) : Type 0 where
  pub sources : All (λ s. s.pair.0 < x) N.sources
  pub ships : All (λ s. s.pair.0 < x) N.ships

-- the table with these sources of a pair more
abbrev pub with_sources : Table → ℕ → List SourceTerms → Table
with_sources N x sources = record N { sources = N.sources ++ map (source_row N x) sources }

-- the calendar of a run row, or why there is none
abbrev pub TellsRun : LimitSet → Result CalendarTerms TableFaultKind → List (List ℕ) → Type 0
TellsRun limits calendar row = StartsWith limits (run_terms limits row) (seen (empty_table limits) calendar)

-- what the first row makes
abbrev pub TellsFirst : LimitSet → Result Draft TableFaultKind → List (List ℕ) → Type 0
TellsFirst limits (Ok d) row = Starts limits row (Ok d.lists) × (d.last ≡ kind.Run)
TellsFirst limits (Err e) row = UnlessMemory e (Starts limits row (Err e))

-- what one row more makes
abbrev pub TellsAdded : Draft → Draft → Result (Unit {0}) TableFaultKind → List (List ℕ) → Type 0
TellsAdded old new (Ok u) row = row_after (old.lists, old.last) row ≡ Ok (new.lists, new.last)
TellsAdded old new (Err e) row = TellsFault (row_after (old.lists, old.last) row) e

-- what the first row makes, or its fault
abbrev pub TellsFirstAt : LimitSet → Result Draft TableFault → List (List ℕ) → Type 0
TellsFirstAt limits (Ok d) row = Starts limits row (Ok d.lists) × (d.last ≡ kind.Run)
TellsFirstAt limits (Err e) row = UnlessMemory e.kind (Starts limits row (Err e.kind)) × (e.row ≡ 1)

-- the table so far and the kind of its last row
abbrev pub draft_state : Draft → Table × Kind
draft_state d = (d.lists, d.last)

-- what the rows read so far say of the state of the reading
abbrev pub IsDraftKept : Draft → Type 0
IsDraftKept d = IsReadSoFar d.lists d.last
