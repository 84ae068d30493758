use Rattle.std.proofs.Common.{◌≡◌, option_map, Ok, subst, sym}
use Rattle.csv.specs.Reading.{strip_bom}
use Rattle.mrp_master_data.specs.Table.{Table}
use Rattle.mrp_validation.specs.Reading.{TellsRowsAs}
use Rattle.mrp_validation.specs.Written.{OfRecords}
use Rattle.mrp_api.specs.Text.{Suits}
use Rattle.mrp_api.proofs.TableFacts.{is_table_of}
use Rattle.mrp_api.proofs.network.network_by_threads.Goals as goal

pub returns-clause-rows : goal.returns-clause-rows
returns-clause-rows g c =
    let known = g.R.Read.remaining c.args.reader in
    let Told : Table → Type 0 = λ N. OfRecords (option_map strip_bom known) (TellsRowsAs c.args.reading (Ok N)) in
    is_table_of c.args.reading known c.in_ok-network.network c.pairs-pairs.ensures.table
    (subst (λ (N : Table). N.limits ≡ c.args.reading.limits) (sym c.in_ok-network.ensures) c.in_ok-tables.ensures.limits)
    (subst Told (sym c.in_ok-network.ensures) c.in_ok-tables.ensures.table)

pub returns-clause-whole : goal.returns-clause-whole
returns-clause-whole g c = subst (Suits c.args.reading) (sym c.in_ok-network.ensures) c.in_ok-tables.ensures.whole
