use Rattle.std.proofs.Common.{ℕ, get_or}
use Rattle.std.proofs.lemmas.List.{get_or_default}
use Rattle.mrp_readiness.proofs.Listing.{Lowers-more, still_waits}
use Rattle.mrp_readiness.proofs.readiness.Readiness.lower_each.Goals as goal

pub lower-requires-clause-waits : goal.lower-requires-clause-waits
lower-requires-clause-waits c =
    let i : ℕ = c.loop-component.component-index in
    let y : ℕ = get_or c.args.components.now i 0 in
    still_waits c.args.self.now c.loop-component.self c.args.components.now i y c.loop-component-test.true
    (get_or_default c.args.components.now i 0 y c.loop-component-test.true) c.loop-component.invariant
    (c.requires.known i 0 c.loop-component-test.true) c.requires.waits

pub loop-component-preserved : goal.loop-component-preserved
loop-component-preserved c =
    let i : ℕ = c.loop-component.component-index in
    let y : ℕ = get_or c.args.components.now i 0 in
    let read = get_or_default c.args.components.now i 0 y c.loop-component-test.true in
    let known = c.requires.known i 0 c.loop-component-test.true in
    Lowers-more c.args.self.now c.loop-component.self c.lower.new.self c.args.components.now i y c.loop-component-test.true read c.loop-component.invariant
    known
    (still_waits c.args.self.now c.loop-component.self c.args.components.now i y c.loop-component-test.true read c.loop-component.invariant known
    c.requires.waits)
    c.lower.ensures.numbers c.lower.ensures.planned c.lower.ensures.fewer c.lower.ensures.listed c.lower.ensures.others
