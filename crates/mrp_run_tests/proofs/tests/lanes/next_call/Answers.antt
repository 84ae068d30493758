use Rattle.std.proofs.Common.{ℕ, ◌+◌, ◌∷◌, sym, ◌∙◌, arith}
use Rattle.mrp_master_data.specs.Table.{horizon}
use Rattle.mrp_net.specs.Lanes.{lane_at}
use Rattle.mrp_net.specs.Sources.{source_on}
use Rattle.mrp_protocol.specs.Loads.{called_in}
use Rattle.mrp_run_tests.specs.Feeding.{calls_from}
use Rattle.mrp_run_tests.proofs.Feeding.{amount_there, amount_none}
use Rattle.mrp_run_tests.proofs.tests.lanes.next_call.Goals as goal

pub returns-then-quantity-gt0 : goal.returns-then-quantity-gt0
returns-then-quantity-gt0 c =
    let N = c.args.network.now in
    let t : ℕ = c.loop-period.period in
    let amount : ℕ → ℕ = called_in N (source_on N (lane_at N c.args.l.0) c.args.item) in
    c.loop-period.invariant
    ∙ amount_there amount (horizon N) t (omega (arith, c.loop-period-test.true, c.get-period-end.ensures.value, c.horizon.ensures))
    (omega (arith, c.if-quantity-gt0.true, c.call-quantity.ensures))
    ∙ (λ j. record { period = t; quantity = sym c.call-quantity.ensures j } ∷ calls_from N (lane_at N c.args.l.0) c.args.item (t + 1))

pub loop-period-preserved : goal.loop-period-preserved
loop-period-preserved c =
    let N = c.args.network.now in
    let t : ℕ = c.loop-period.period in
    let amount : ℕ → ℕ = called_in N (source_on N (lane_at N c.args.l.0) c.args.item) in
    c.loop-period.invariant
    ∙ amount_none amount (horizon N) t (omega (arith, c.loop-period-test.true, c.get-period-end.ensures.value, c.horizon.ensures))
    (omega (arith, c.if-quantity-gt0.false, c.call-quantity.ensures))
