use Rattle.std.proofs.Common.{arith}
use Rattle.mrp_advice.proofs.RunOutFacts.{lacking_here, never_lacking}
use Rattle.mrp_advice.proofs.run_out.first_lacking.Goals as goal

pub returns-then-run_out-get-clause-needed : goal.returns-then-run_out-get-clause-needed
returns-then-run_out-get-clause-needed c =
    lacking_here c.args.lacks.now c.periods.run_out c.args.run_out.now.pieces c.periods.invariant.run_out c.periods.invariant.pieces c.get-in-periods.result
    (omega arith) (omega arith) (omega arith)

pub returns-clause-needed : goal.returns-clause-needed
returns-clause-needed c =
    never_lacking c.args.lacks.now c.periods.run_out c.args.run_out.now.pieces c.periods.invariant.run_out c.periods.invariant.pieces (omega arith)
