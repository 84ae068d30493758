use Rattle.std.proofs.Common.{List, subst, ap, ◌∙◌}
use Rattle.std.specs.Prelude.{IfOk}
use Rattle.mrp_master_data.specs.declared.rows.ReceiptRow.{ReceiptRow}
use Rattle.mrp_grouping.specs.Added.{sum_in}
use Rattle.mrp_net.specs.Built.{ArePeriods}
use Rattle.mrp_net.proofs.Summing.{received_small}
use Rattle.mrp_net.proofs.build.received_by_period.Goals as goal

pub sums_of-requires-clause-within : goal.sums_of-requires-clause-within
sums_of-requires-clause-within c =
    let receipts_are = c.receipts-receipts.ensures.value ∙ ap (λ z. z.receipts) c.rows.ensures.value in
    rw receipts_are (received_small c.args.tables.now c.rows.ensures.table)

pub returns : goal.returns
returns c =
    let receipts_are = c.receipts-receipts.ensures.value ∙ ap (λ z. z.receipts) c.rows.ensures.value in
    subst (λ (z : List ReceiptRow). IfOk c.sums_of.result (λ v. ArePeriods c.args.tables.now
    (λ x t. sum_in (λ r. r.pair.0) (λ r. r.period) (λ r. r.quantity) x t z) v.items)) receipts_are c.sums_of.ensures
