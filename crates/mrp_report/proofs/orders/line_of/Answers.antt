use Rattle.std.proofs.Common.{◌≡◌, ℕ, List, length, ap, ◌∙◌, arith}
use Rattle.std.proofs.lemmas.List.FromFn.{length-map-range_with_len}
use Rattle.mrp_master_data.specs.declared.rows.PairRow.{PairRow}
use Rattle.mrp_master_data.specs.Table.{horizon}
use Rattle.mrp_net.specs.Sums.{params_at}
use Rattle.mrp_net.proofs.PolicyRows.{policy_within}
use Rattle.mrp_csv_out.specs.Dates.{period_date}
use Rattle.mrp_report.proofs.orders.line_of.Goals as goal

-- the lead time, or a period of the horizon behind it
pub returns-clause-earliest : goal.returns-clause-earliest
returns-clause-earliest c =
    let N = c.args.report.now.network.now in
    let x = c.args.x.0 in
    let size : length c.args.report.now.dates.now ≡ horizon N = ap (λ (l : List (List ℕ)). length l) c.requires.dates
    ∙ length-map-range_with_len (period_date N.calendar) 0 (horizon N) in
    let lead : c.pair.result.lead ≡ (params_at N x).lead = ap (λ (r : PairRow). r.lead) c.pair.ensures in
    omega (arith, size, lead, c.earliest.ensures, (policy_within N x c.pairs-pairs.ensures.table).fence)
