use Rattle.std.proofs.Common.{◌≡◌, refl}
use Rattle.std.proofs.lemmas.Result.{IfOk-from_err}
use Rattle.mrp_net.specs.Plan.{plan_of}
use Rattle.mrp_run.specs.declared.fault.RunFault.TheVariants.{Memory}
use Rattle.mrp_run.proofs.StopRules.{handed_on}
use Rattle.mrp_run.proofs.gathering.plans_of.Goals as goal

pub gather-requires-clause-sized : goal.gather-requires-clause-sized
gather-requires-clause-sized c = c.requires.sized

pub gather-requires-clause-given : goal.gather-requires-clause-given
gather-requires-clause-given c = c.in_ok-given.ensures c.args.network.now c.requires.plans

pub returns-in_err-given-clause-plans : goal.returns-in_err-given-clause-plans
returns-in_err-given-clause-plans c = IfOk-from_err c.from_residual.result
    (λ plans. plans.items ≡ plan_of c.args.network.now) c.from_residual.ensures.0

pub returns-in_err-given-clause-fault : goal.returns-in_err-given-clause-fault
returns-in_err-given-clause-fault c = handed_on (λ fault. fault ≡ Memory) c.from_residual.result Memory c.from_residual.ensures.1 refl

pub returns-in_err-gather-clause-plans : goal.returns-in_err-gather-clause-plans
returns-in_err-gather-clause-plans c = IfOk-from_err c.from_residual-in_err-gather.result
    (λ plans. plans.items ≡ plan_of c.args.network.now) c.from_residual-in_err-gather.ensures.0

pub returns-in_err-gather-clause-fault : goal.returns-in_err-gather-clause-fault
returns-in_err-gather-clause-fault c = handed_on (λ fault. fault ≡ Memory) c.from_residual-in_err-gather.result Memory
    c.from_residual-in_err-gather.ensures.1 refl
