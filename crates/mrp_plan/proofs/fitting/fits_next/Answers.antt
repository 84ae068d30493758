use Rattle.mrp_plan.proofs.Next.{next_can, next_fits, planned_more}
use Rattle.mrp_plan.proofs.fitting.fits_next.Goals as goal

pub fits_at-requires : goal.fits_at-requires
fits_at-requires c = next_can c.args.net.now.network _ c.args.net.now.needs c.args.order.now c.args.k c.args.plan.now c.network.ensures.value c.requires.sized
    c.requires.needs c.requires.order c.requires.place c.requires.before

pub returns-clause-after : goal.returns-clause-after
returns-clause-after c = λ yes.
    planned_more c.args.net.now.network _ c.args.net.now.needs c.args.order.now c.args.k c.args.plan.now c.network.ensures.value c.requires.sized
    c.requires.needs c.requires.order c.requires.place c.requires.before (c.fits_at.ensures.0 yes)

pub returns-clause-fits : goal.returns-clause-fits
returns-clause-fits c = λ fits.
    c.fits_at.ensures.1 (next_fits c.args.net.now.network _ c.args.net.now.needs c.args.order.now c.args.k c.args.plan.now c.network.ensures.value
    c.requires.sized c.requires.needs c.requires.order c.requires.place c.requires.before fits)
