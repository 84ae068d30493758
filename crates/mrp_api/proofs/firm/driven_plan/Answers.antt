use Rattle.std.proofs.Common.{List, subst, sym}
use Rattle.mrp_netting.specs.PlanRows.{PlanRows}
use Rattle.mrp_net.specs.PlanLaws.{Fits}
use Rattle.mrp_loops.proofs.OnePlan.{one_plan}
use Rattle.mrp_api.proofs.firm.driven_plan.Goals as goal

pub returns-clause-fits : goal.returns-clause-fits
returns-clause-fits c =
    let N = c.args.net.now.network in
    let plannable = c.requires.plannable in
    let all = one_plan N plannable.table plannable.loop_free in
    subst (λ (plans : List PlanRows). Fits N plans) (sym c.in_ok-plan.ensures) all.fits
