use Rattle.std.proofs.Common.{◌≡◌, ℕ, ◌+◌, ◌*◌, ◌/◌, ◌%◌, max, min, ◌∙◌, ap, arith}
use Rattle.mrp_netting.proofs.Lots.{made_up-many}
use Rattle.mrp_netting.proofs.orders.made_up_lot.Goals as goal

pub returns : goal.returns
returns c =
    let policy = c.args.policy.now in
    let k = policy.multiple in
    let same : c.max-least.result ≡ max c.args.lot policy.least = omega arith in
    c.of-2.ensures ∙ ap (λ (q : ℕ). q * k) c.div_ceil.ensures ∙ ap (λ (n : ℕ). (n / k + min 1 (n % k)) * k) same
    ∙ made_up-many policy c.args.lot (omega arith)
