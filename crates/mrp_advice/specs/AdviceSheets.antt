-- Advice: the report of exception messages as a sheet, and what a reader of comma-separated values has to find in it.
use Rattle.std.specs.Prelude.{ℕ, List, ◌++◌, map, Option}
use Rattle.std.specs.List.{flat_map}
use Rattle.mrp_netting.specs.PlanRows.{PlanRows}
use Rattle.mrp_master_data.specs.Table.{Table}
use Rattle.mrp_commands.specs.declared.choice.Heading.{Heading}
use Rattle.mrp_csv_out.specs.Dates.{dates_of}
use Rattle.mrp_csv_out.specs.Names.{item_of, pairs_of, plant_of}
use Rattle.mrp_csv_out.specs.Sheets.{Sheet, header_sheet}
use Rattle.mrp_advice.specs.Advice.{pair_advice}
use Rattle.mrp_advice.specs.AdviceRows.{advice_fields, advice_names}

-- the messages of a pair for open orders that come by then, in the order of these
abbrev pub pair_advice_sheet : Option (List ℕ) → Option ℕ → Table → List PlanRows → ℕ → Sheet
pair_advice_sheet wholes until N table x = map (advice_fields N (plant_of N x) (item_of N x) (dates_of N.calendar))
    (pair_advice wholes until N table x)

-- those of each pair, in table order, below the names of their columns, where these are asked for
abbrev pub advice_sheet : Heading → Option (List ℕ) → Option ℕ → Table → List PlanRows → Sheet
advice_sheet heading wholes until N table = header_sheet heading advice_names
    ++ flat_map (pair_advice_sheet wholes until N table) (pairs_of N)
