use Rattle.std.proofs.Common.{length, nat_lt}
use Rattle.csv.specs.Records.{fields_of}
use Rattle.mrp_master_data.specs.Table.{most}
use Rattle.mrp_tables.proofs.Room.{full_of, room_of}
use Rattle.mrp_validation.specs.Grammar.{receipt_made, receipt_of}
use Rattle.mrp_tables.proofs.AmountFacts.{has_none, has_some, row_made, row_refused, row_too_many}
use Rattle.mrp_validation.proofs.KeepingSteps.{handed_on}
use Rattle.mrp_tables.proofs.draft.Draft.receipt_of.Goals as goal

pub returns-in_err-amount-clause-exact : goal.returns-in_err-amount-clause-exact
unfolding receipt_of
returns-in_err-amount-clause-exact c =
    let N = c.args.self.now.lists in
    rw (handed_on c.from_residual.result _ c.from_residual.ensures.1)
    (row_refused N (fields_of c.args.row.now) (nat_lt (length N.receipts) (most N).of_a_kind) receipt_made _ c.in_err-amount.ensures.exact)

pub returns-then-receipts-limits-clause-exact : goal.returns-then-receipts-limits-clause-exact
unfolding receipt_of
returns-then-receipts-limits-clause-exact c =
    let N = c.args.self.now.lists in
    let many = full_of (λ l. l.of_a_kind) c.limits.result c.args.self.now.lists c.receipts.result.now c.args.self.now.lists.receipts c.limits.ensures.value
    c.receipts.ensures.value c.if-receipts-limits.true in
    row_too_many N (fields_of c.args.row.now) (nat_lt (length N.receipts) (most N).of_a_kind) receipt_made
    (c.in_ok-amount.amount.pair, c.in_ok-amount.amount.period, c.in_ok-amount.amount.quantity) c.in_ok-amount.ensures.exact
    (has_none (length N.receipts) (most N).of_a_kind many)

pub returns-clause-exact : goal.returns-clause-exact
unfolding receipt_of
returns-clause-exact c =
    let N = c.args.self.now.lists in
    let room = room_of (λ l. l.of_a_kind) c.limits.result c.args.self.now.lists c.receipts.result.now c.args.self.now.lists.receipts c.limits.ensures.value
    c.receipts.ensures.value c.if-receipts-limits.false in
    rw c.of.ensures
    (row_made N (fields_of c.args.row.now) (nat_lt (length N.receipts) (most N).of_a_kind) receipt_made
    (c.in_ok-amount.amount.pair, c.in_ok-amount.amount.period, c.in_ok-amount.amount.quantity) c.in_ok-amount.ensures.exact
    (has_some (length N.receipts) (most N).of_a_kind room))
