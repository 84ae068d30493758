use Rattle.std.proofs.Common.{◌≡◌, ◌∙◌, ℕ, List, length, replicate, ap, sym}
use Rattle.mrp_netting.specs.PlanRows.{PlanRows}
use Rattle.mrp_agent.proofs.room.Room.new.Goals as goal

pub returns : goal.returns
returns c = c.in_ok-plan.ensures

pub invariant_of-result : goal.invariant_of-result
invariant_of-result c =
    let size : length c.in_ok-plan.plan.gross ≡ length (replicate c.args.horizon 0) = ap (λ (p : PlanRows). length p.gross) c.in_ok-plan.ensures in
    ap (λ (z : List ℕ). length z) c.in_ok-gross.ensures ∙ sym size
