use Rattle.std.proofs.Common.{◌≡◌, ℕ, ◌<◌, ◌+◌, List, length, slice_index, ap, arith}
use Rattle.std.proofs.lemmas.List.FromFn.{length-map-range_with_len}
use Rattle.mrp_netting.specs.declared.planning_data.Policy.{Policy}
use Rattle.mrp_master_data.specs.Table.{horizon}
use Rattle.mrp_net.specs.Policies.{policy_of}
use Rattle.mrp_net.specs.Sums.{received, shipped}
use Rattle.mrp_net.proofs.Periods.{row_reads}
use Rattle.mrp_shortages.proofs.There.{come_sooner, come_when_due, come_within, some_period}
use Rattle.mrp_shortages.proofs.shortage.come.Goals as goal
use Rattle.mrp_shortages.proofs.shortage.come.Goals.{After-received_row}

pub incoming-incoming-requires-clause-period : goal.incoming-incoming-requires-clause-period
incoming-incoming-requires-clause-period c = some_period c.args.network.now c.requires.sized.table

pub bounds-received_row-0 : goal.bounds-received_row-0
bounds-received_row-0 c =
    let N = c.args.network.now in
    omega (
      arith,
      some_period N c.requires.sized.table,
      ap (λ (row : List ℕ). length row) c.received_row.ensures,
      length-map-range_with_len (received N c.args.x.0) 0 (horizon N),
    )

-- receipts and shipments, where receipts may be counted sooner
both : (c : After-received_row) → slice_index c.received_row.result.now 0 + c.incoming-incoming.result ≡ received c.args.network.now c.args.x.0 0
    + shipped c.args.network.now c.args.x.0 0
both c =
    let N = c.args.network.now in
    let x = c.args.x.0 in
    let some : 0 < (policy_of N x).sooner = omega (arith, c.if-policy-gt0.true, ap (λ (p : Policy). p.sooner) c.policy.ensures) in
    omega (
      arith,
      row_reads N (received N x) c.received_row.result.now 0 c.received_row.ensures (some_period N c.requires.sized.table),
      c.incoming-incoming.ensures,
      come_sooner N x some,
    )

pub overflow_add-result : goal.overflow_add-result
overflow_add-result c =
    omega (arith, both (goal.at.overflow_add-result c).After-received_row, come_within c.args.network.now c.args.x.0 c.requires.sized c.requires.pair)

pub returns-then-policy-gt0-clause-pieces : goal.returns-then-policy-gt0-clause-pieces
returns-then-policy-gt0-clause-pieces c = omega (arith, both (goal.at.returns-then-policy-gt0-clause-pieces c).After-received_row)

pub returns-then-policy-gt0-clause-within : goal.returns-then-policy-gt0-clause-within
returns-then-policy-gt0-clause-within c =
    omega (
      arith,
      both (goal.at.returns-then-policy-gt0-clause-within c).After-received_row,
      come_within c.args.network.now c.args.x.0 c.requires.sized c.requires.pair,
    )

pub returns-else-policy-gt0-clause-within : goal.returns-else-policy-gt0-clause-within
returns-else-policy-gt0-clause-within c =
    let N = c.args.network.now in
    let x = c.args.x.0 in
    let none : (policy_of N x).sooner ≡ 0 = omega (arith, c.if-policy-gt0.false, ap (λ (p : Policy). p.sooner) c.policy.ensures) in
    omega (arith, c.incoming-incoming.ensures, come_when_due N x none, come_within N x c.requires.sized c.requires.pair)
