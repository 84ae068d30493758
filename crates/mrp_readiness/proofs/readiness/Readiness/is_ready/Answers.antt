use Rattle.std.proofs.Common.{sym, subst}
use Rattle.mrp_readiness.specs.Progress.{IsFree, Progress}
use Rattle.mrp_readiness.proofs.readiness.Readiness.is_ready.Goals as goal

pub returns-clause-free : goal.returns-clause-free
returns-clause-free c =
    let P : Progress → Type 0 = λ v. IsFree v.waits v.planned c.args.x in
    let exact = c.self.invariant.listed.exact c.args.x in (
      λ t. subst P c.self.view_is (exact.0 (c.contains.ensures.0 t)),
      λ free. c.contains.ensures.1 (exact.1 (subst P (sym c.self.view_is) free)),
    )
