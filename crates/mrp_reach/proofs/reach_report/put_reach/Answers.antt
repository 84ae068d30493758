use Rattle.std.proofs.Common.{◌≡◌, ◌∙◌, ap, rules, slice_index}
use Rattle.mrp_csv_out.proofs.RowFacts.{item_is, plant_is}
use Rattle.mrp_reach.specs.Reach.{releases_whole}
use Rattle.mrp_reach.specs.ReachRows.{last_text, reach_row}
use Rattle.mrp_reach.proofs.reach_report.put_reach.Goals as goal

pub returns-clause-row : goal.returns-clause-row
unfolding reach_row
returns-clause-row c =
    let N = c.args.network.now in
    let x = c.args.x.0 in
    let plant = plant_is N x _ _ c.pair_name.ensures in
    let item = item_is N x _ _ c.pair_name.ensures in
    let release : c.last_text-2.result.now ≡ last_text (releases_whole N x (slice_index c.args.wholes.now x)) =
    c.last_text-2.ensures ∙ ap last_text c.releases_whole.ensures in
    rw (plant, item, ← c.last_text.ensures, ← release) (search rules)
