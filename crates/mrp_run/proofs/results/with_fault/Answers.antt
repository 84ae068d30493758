use Rattle.std.proofs.Common.{subst}
use Rattle.mrp_run.specs.Worst.{IsWorstOf}
use Rattle.mrp_run.proofs.JoinedFaults.{worst_more}
use Rattle.mrp_run.proofs.results.with_fault.Goals as goal

pub returns-in-Some : goal.returns-in-Some
returns-in-Some c = λ faults is.
    worst_more c.in-Some.worst c.args.fault c.worse.result c.worse.ensures.one c.worse.ensures.before faults (subst (λ w. IsWorstOf w faults) c.in-Some.is is)
