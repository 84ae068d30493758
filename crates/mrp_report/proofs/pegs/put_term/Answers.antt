use Rattle.std.proofs.Common.{rules}
use Rattle.mrp_report.specs.Terms.{peg_row}
use Rattle.mrp_csv_out.proofs.RowFacts.{plant_is, item_is}
use Rattle.mrp_report.proofs.pegs.put_term.Goals as goal

pub returns-clause-row : goal.returns-clause-row
unfolding peg_row
returns-clause-row c =
    let plant = plant_is c.args.network.now c.args.term.pair.0 _ _ c.pair_name.ensures in
    let item = item_is c.args.network.now c.args.term.pair.0 _ _ c.pair_name.ensures in
    rw (plant, item) (search rules)
