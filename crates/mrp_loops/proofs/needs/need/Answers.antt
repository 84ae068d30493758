use Rattle.std.proofs.Common.{◌≡◌, ℕ, ◌+◌, ◌-◌, ◌^◌, min, List, sum_by, slice_index, ◌*◌, arith, ap, ◌∙◌}
use Rattle.mrp_lot.specs.Lot.{rule_quantities}
use Rattle.mrp_netting.specs.declared.planning_data.Policy.{Policy}
use Rattle.mrp_master_data.specs.declared.rows.PairRow.{PairRow}
use Rattle.mrp_net.specs.declared.edge.Edge.{Edge}
use Rattle.mrp_net.specs.Edges.{demanders, edge_most}
use Rattle.mrp_net.specs.FirmOrders.{firm_total}
use Rattle.mrp_net.specs.Policies.{policy_of}
use Rattle.mrp_net.specs.Sums.{demand_total, pair_at}
use Rattle.mrp_loops.specs.Need.{need_at}
use Rattle.mrp_loops.proofs.needs.need.Goals as goal

-- a sum that is cut off at each step is cut off once
one_more : (most x y had all : ℕ) → had ≡ min x most → all ≡ min (had + y) most → all ≡ min (x + y) most
one_more most x y had all is sum = omega (arith, is, sum)

-- also where what is added was cut off before
cut_more : (most x y had more all : ℕ) → had ≡ min x most → more ≡ min y most → all ≡ min (had + more) most → all ≡ min (x + y) most
cut_more most x y had more all is cut sum = omega (arith, is, cut, sum)

pub returns : goal.returns
returns c =
    let N = c.args.network.now in
    let x = c.args.x.0 in
    let most : ℕ = 2 ^ 64 - 1 in
    let row : PairRow = pair_at N x in
    let policy : Policy = policy_of N x in
    let asks : ℕ = sum_by (λ (e : Edge). edge_most N e * slice_index c.args.needs.now e.demander.0) (demanders N x) in
    let d : ℕ = demand_total N x in
    let rule : ℕ = rule_quantities row.rule in
    let cap : ℕ → ℕ = λ n. min n most in
    let asked : c.asked_by-asked.result ≡ min asks most = c.asked_by-asked.ensures
    ∙ ap (λ (es : List Edge). min (sum_by (λ (e : Edge). edge_most N e * slice_index c.args.needs.now e.demander.0) es) most) c.demanders.ensures.value in
    let safety : c.get.result ≡ row.safety = c.get.ensures.value ∙ ap (λ (p : PairRow). p.safety) c.pair-row.ensures in
    let ruled : c.quantities_of.result ≡ min rule most = c.quantities_of.ensures
    ∙ ap (λ (p : PairRow). min (rule_quantities p.rule) most) c.pair-row.ensures in
    let least : c.policy-policy.result.least ≡ policy.least = ap (λ (q : Policy). q.least) c.policy-policy.ensures in
    let multiple : c.policy-policy.result.multiple ≡ policy.multiple = ap (λ (q : Policy). q.multiple) c.policy-policy.ensures in
    let first : c.saturating_add.result ≡ min (d + asks) most = omega (arith, c.saturating_add.ensures, c.demand_total.ensures, asked) in
    let second : c.saturating_add-2.result ≡ min (d + asks + row.safety) most =
    one_more most (d + asks) row.safety c.saturating_add.result c.saturating_add-2.result first
    (c.saturating_add-2.ensures ∙ ap (λ (n : ℕ). cap (c.saturating_add.result + n)) safety) in
    let third : c.saturating_add-3.result ≡ min (d + asks + row.safety + rule) most =
    cut_more most (d + asks + row.safety) rule c.saturating_add-2.result c.quantities_of.result c.saturating_add-3.result second ruled
    c.saturating_add-3.ensures in
    let fourth : c.saturating_add-4.result ≡ min (d + asks + row.safety + rule + policy.least) most =
    one_more most (d + asks + row.safety + rule) policy.least c.saturating_add-3.result c.saturating_add-4.result third
    (c.saturating_add-4.ensures ∙ ap (λ (n : ℕ). cap (c.saturating_add-3.result + n)) least) in
    let fifth : c.saturating_add-5.result ≡ min (d + asks + row.safety + rule + policy.least + policy.multiple) most =
    one_more most (d + asks + row.safety + rule + policy.least) policy.multiple c.saturating_add-4.result c.saturating_add-5.result fourth
    (c.saturating_add-5.ensures ∙ ap (λ (n : ℕ). cap (c.saturating_add-4.result + n)) multiple) in
    let sixth : c.saturating_add-6.result ≡ min (d + asks + row.safety + rule + policy.least + policy.multiple + firm_total N x) most =
    one_more most (d + asks + row.safety + rule + policy.least + policy.multiple) (firm_total N x) c.saturating_add-5.result c.saturating_add-6.result fifth
    (c.saturating_add-6.ensures ∙ ap (λ (n : ℕ). cap (c.saturating_add-5.result + n)) c.firm_total.ensures) in
    let same : d + asks + row.safety + rule + policy.least + policy.multiple + firm_total N x ≡ need_at N c.args.needs.now x = omega arith in
    sixth ∙ ap cap same
