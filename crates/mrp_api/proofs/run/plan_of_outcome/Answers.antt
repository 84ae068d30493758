use Rattle.std.proofs.Common.{ap, length, ◌∙◌}
use Rattle.mrp_loops.proofs.OnePlan.{one_plan}
use Rattle.mrp_api.proofs.run.plan_of_outcome.Goals as goal

pub gather-requires : goal.gather-requires
gather-requires c =
    let plannable = c.requires.plannable in
    ap length c.requires.outcome.plans ∙ (one_plan c.args.net.now.network plannable.table plannable.loop_free).fits.size

pub returns : goal.returns
returns c =
    let plannable = c.requires.plannable in
    rw (c.gather.ensures)
    (rw (c.requires.outcome.plans) record { fits = (one_plan c.args.net.now.network plannable.table plannable.loop_free).fits })
