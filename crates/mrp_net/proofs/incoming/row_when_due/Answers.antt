use Rattle.std.proofs.Common.{ℕ, ◌+◌, ◌*◌, ◌<◌, arith, refl, ap, ◌∙◌, subst}
use Rattle.mrp_qty.specs.declared.horizon.TheConstants.{LONGEST}
use Rattle.mrp_netting.specs.declared.planning_data.Policy.{Policy}
use Rattle.mrp_net.specs.Sums.{received}
use Rattle.mrp_net.proofs.PolicyRows.{policies_read, policy_read}
use Rattle.mrp_net.proofs.Sooner.{when_due_row-all, when_due_row-none}
use Rattle.mrp_net.proofs.Summing.{row_read}
use Rattle.mrp_net.proofs.incoming.row_when_due.Goals as goal

pub get-requires-clause-rises : goal.get-requires-clause-rises
get-requires-clause-rises c = let are = policies_read c.args.tables.now c.args.tables.now c.args.policies.now.rows.items c.args.policies.now.starts.items
    c.args.x refl c.requires.policies c.requires.pair in are.rises

pub get-requires-clause-within : goal.get-requires-clause-within
get-requires-clause-within c = let are = policies_read c.args.tables.now c.args.tables.now c.args.policies.now.rows.items c.args.policies.now.starts.items
    c.args.x refl c.requires.policies c.requires.pair in are.within

pub returns-then-first_policy-gt0 : goal.returns-then-first_policy-gt0
returns-then-first_policy-gt0 c =
    let N = c.args.tables.now in
    let policy = policy_read N c.args.policies.now.rows.items c.get.result.now c.args.policies.now.starts.items c.args.x c.first_policy.result
    c.requires.policies c.requires.pair c.get.ensures c.first_policy.ensures in
    when_due_row-none N c.args.x c.get-periods.result LONGEST (subst (λ (p : Policy). 0 < p.sooner) policy c.if-first_policy-gt0.true)
    (c.get-periods.ensures.value ∙ c.horizon.ensures.value) c.get-periods.ensures.within

pub returns-else-first_policy-gt0 : goal.returns-else-first_policy-gt0
returns-else-first_policy-gt0 c =
    let N = c.args.tables.now in
    let x = c.args.x in
    let policy = policy_read N c.args.policies.now.rows.items c.get.result.now c.args.policies.now.starts.items x c.first_policy.result
    c.requires.policies c.requires.pair c.get.ensures c.first_policy.ensures in
    let width = c.get-periods.ensures.value ∙ c.horizon.ensures.value in
    row_read N N received c.args.receipts.now c.args.receipts.now x _ _ refl c.requires.all (ap (λ (z : ℕ). x * z) width) (ap (λ (z : ℕ). (x + 1) * z) width)
    c.requires.pair refl
    ∙ when_due_row-all N x (omega (arith, ap (λ (p : Policy). p.sooner) policy, c.if-first_policy-gt0.false))
