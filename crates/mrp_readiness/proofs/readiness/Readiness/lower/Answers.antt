use Rattle.std.proofs.Common.{arith}
use Rattle.std.proofs.lemmas.Grind.{common_steps}
use Rattle.mrp_readiness.proofs.Listing.{fresh_inside, lowered_free, lowered_waiting}
use Rattle.mrp_readiness.proofs.readiness.Readiness.lower.Goals as goal

pub insert-requires-clause-fresh : goal.insert-requires-clause-fresh
insert-requires-clause-fresh c = fresh_inside _ c.args.self.now c.self.inside.ready.gone c.self.inside.left c.args.y c.self.invariant c.self.view_is
    c.requires.waits

pub invariant_of-self : goal.invariant_of-self
invariant_of-self c =
    lowered_free _ c.args.self.now c.self.inside.ready.gone c.insert.new.self.gone c.self.inside.left c.insert.new.self.numbers c.insert.new.self.places
    c.args.y c.index_mut.result.now c.index.result.now c.self.invariant c.self.view_is c.requires.known c.requires.waits c.index_mut.ensures.value
    c.index.ensures c.if-index-eq0.true c.insert.ensures.gone c.insert.ensures.numbers c.insert.ensures.added

pub returns-then-index-eq0-clause-listed : goal.returns-then-index-eq0-clause-listed
returns-then-index-eq0-clause-listed c =
    (lowered_free _ c.args.self.now c.self.inside.ready.gone c.insert.new.self.gone c.self.inside.left c.insert.new.self.numbers c.insert.new.self.places
    c.args.y c.index_mut.result.now c.index.result.now c.self.invariant c.self.view_is c.requires.known c.requires.waits c.index_mut.ensures.value
    c.index.ensures c.if-index-eq0.true c.insert.ensures.gone c.insert.ensures.numbers c.insert.ensures.added).listed

pub invariant_of-self-else-index-eq0 : goal.invariant_of-self-else-index-eq0
invariant_of-self-else-index-eq0 c =
    lowered_waiting _ c.args.self.now c.self.inside.ready.gone c.self.inside.left c.args.y c.index_mut.result.now c.index.result.now c.self.invariant
    c.self.view_is c.requires.known c.requires.waits c.index_mut.ensures.value c.index.ensures c.if-index-eq0.false

pub returns-else-index-eq0-clause-listed : goal.returns-else-index-eq0-clause-listed
returns-else-index-eq0-clause-listed c =
    (lowered_waiting _ c.args.self.now c.self.inside.ready.gone c.self.inside.left c.args.y c.index_mut.result.now c.index.result.now c.self.invariant
    c.self.view_is c.requires.known c.requires.waits c.index_mut.ensures.value c.index.ensures c.if-index-eq0.false).listed

pub returns-then-index-eq0-clause-fewer : goal.returns-then-index-eq0-clause-fewer
returns-then-index-eq0-clause-fewer c = grind (arith, common_steps)

pub returns-then-index-eq0-clause-others : goal.returns-then-index-eq0-clause-others
returns-then-index-eq0-clause-others c = grind (arith, common_steps)

pub returns-else-index-eq0-clause-fewer : goal.returns-else-index-eq0-clause-fewer
returns-else-index-eq0-clause-fewer c = grind (arith, common_steps)
