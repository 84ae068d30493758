use Rattle.std.proofs.Common.{ℕ, List, ◌∙◌, subst}
use Rattle.mrp_readiness.specs.Progress.{IsLess}
use Rattle.mrp_readiness.proofs.Counting.{AreCounts-settled}
use Rattle.mrp_readiness.proofs.Listing.{left-planned}
use Rattle.mrp_readiness.proofs.readiness.Readiness.count_planned.Goals as goal

pub returns-clause-counts : goal.returns-clause-counts
returns-clause-counts c = λ joins blocks components was.
    let fewer = subst (λ (w : List ℕ). IsLess w c.lower_each.new.self.waits c.args.components.now) c.mark.ensures.waits c.lower_each.ensures.fewer in
    AreCounts-settled c.args.self.now.waits c.lower_each.new.self.waits joins c.args.self.now.planned c.lower_each.new.self.planned blocks c.args.components.now
    c.args.x c.mark.ensures.known c.mark.ensures.was_free.unplanned (c.lower_each.ensures.planned ∙ c.mark.ensures.planned) fewer components was

pub mark-requires : goal.mark-requires
mark-requires c = c.requires.ready

pub lower_each-requires-clause-known : goal.lower_each-requires-clause-known
lower_each-requires-clause-known c = rw c.mark.ensures.waits c.requires.known

pub lower_each-requires-clause-waits : goal.lower_each-requires-clause-waits
lower_each-requires-clause-waits c = rw c.mark.ensures.waits c.requires.waits

pub returns-clause-numbers : goal.returns-clause-numbers
returns-clause-numbers c = c.lower_each.ensures.numbers ∙ c.mark.ensures.numbers

pub returns-clause-planned : goal.returns-clause-planned
returns-clause-planned c = c.lower_each.ensures.planned ∙ c.mark.ensures.planned

pub returns-clause-fewer : goal.returns-clause-fewer
returns-clause-fewer c = subst (λ (w : List ℕ). IsLess w c.lower_each.new.self.waits c.args.components.now) c.mark.ensures.waits c.lower_each.ensures.fewer

pub returns-clause-listed : goal.returns-clause-listed
returns-clause-listed c = c.lower_each.ensures.listed c.mark.ensures.listed

pub returns-clause-others : goal.returns-clause-others
returns-clause-others c = λ y has other. c.lower_each.ensures.others y (c.mark.ensures.others y has other)

pub returns-clause-left : goal.returns-clause-left
returns-clause-left c = rw (c.lower_each.ensures.planned, c.mark.ensures.planned)
    (left-planned c.args.self.now.planned c.args.x c.mark.ensures.known c.mark.ensures.was_free.unplanned)
