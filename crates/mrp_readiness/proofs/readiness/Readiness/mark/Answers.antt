use Rattle.std.proofs.Common.{arith, sym, subst}
use Rattle.std.specs.Prelude.{Contains}
use Rattle.mrp_readiness.specs.Progress.{Progress}
use Rattle.mrp_readiness.proofs.Listing.{planned_inside, ready_inside}
use Rattle.mrp_readiness.proofs.readiness.Readiness.mark.Goals as goal

pub index_mut-requires : goal.index_mut-requires
index_mut-requires c =
    let known = (ready_inside _ c.args.self.now c.self.inside.ready.gone c.self.inside.left c.args.x c.self.invariant c.self.view_is c.requires).2 in
    omega (arith, known)

pub overflow_sub-self : goal.overflow_sub-self
overflow_sub-self c =
    let some = (ready_inside _ c.args.self.now c.self.inside.ready.gone c.self.inside.left c.args.x c.self.invariant c.self.view_is c.requires).3 in
    omega (arith, some)

pub invariant_of-self : goal.invariant_of-self
invariant_of-self c =
    planned_inside _ c.args.self.now c.self.inside.ready.gone c.remove.new.self.gone c.self.inside.left c.args.x c.remove.new.self.numbers
    c.remove.new.self.places c.self.invariant c.self.view_is c.requires c.remove.ensures.gone c.remove.ensures.numbers c.remove.ensures.others

pub returns-clause-listed : goal.returns-clause-listed
returns-clause-listed c =
    (planned_inside _ c.args.self.now c.self.inside.ready.gone c.remove.new.self.gone c.self.inside.left c.args.x c.remove.new.self.numbers
    c.remove.new.self.places c.self.invariant c.self.view_is c.requires c.remove.ensures.gone c.remove.ensures.numbers c.remove.ensures.others).listed

pub returns-clause-others : goal.returns-clause-others
returns-clause-others c = λ y was ne. (c.remove.ensures.others y).1 (subst (λ (v : Progress). Contains v.ready y) (sym c.self.view_is) was, ne)
