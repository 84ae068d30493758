use Rattle.std.proofs.Common.{◌≡◌, sym, ap, ◌∙◌, arith, refl}
use Rattle.mrp_protocol.specs.Goods.{share}
use Rattle.mrp_agent.specs.Sending.{called_by}
use Rattle.mrp_agent.proofs.Calling.{call_later}
use Rattle.mrp_agent.proofs.sending.next_call.Goals as goal

pub loop-period-preserved : goal.loop-period-preserved
loop-period-preserved c =
    let zero : c.share_of-quantity.result ≡ 0 = omega (arith, c.if-quantity-gt0.false) in
    let none : called_by c.args.release.now c.args.call.now c.loop-period.period ≡ 0 =
    ap (share c.args.call.now) (sym (c.get-in-loop-period.ensures.value ∙ c.get.ensures)) ∙ sym c.share_of-quantity.ensures.value ∙ zero in
    c.loop-period.invariant
    ∙ call_later c.args.release.now c.args.call.now c.loop-period.period (omega (arith, c.loop-period-test.true, c.len-period-end.ensures.value)) none

pub loop-period-init : goal.loop-period-init
loop-period-init c = refl
