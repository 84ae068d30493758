use Rattle.std.proofs.Common.{rules}
use Rattle.mrp_csv_out.proofs.RowFacts.{item_is, plant_is}
use Rattle.mrp_shortages.specs.ShortageRows.{shortage_row}
use Rattle.mrp_shortages.proofs.shortage_report.put_shortage.Goals as goal

pub returns-clause-row : goal.returns-clause-row
unfolding shortage_row
returns-clause-row c =
    let plant = plant_is c.args.line.now.network.now c.args.shortage.term.pair.0 _ _ c.pair_name.ensures in
    let item = item_is c.args.line.now.network.now c.args.shortage.term.pair.0 _ _ c.pair_name.ensures in
    rw (plant, item) (search rules)
