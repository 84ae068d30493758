use Rattle.std.proofs.Common.{rules}
use Rattle.mrp_readiness.proofs.Counting.{AreCounts-first}
use Rattle.mrp_readiness.proofs.Listing.{first_inside, none_planned}
use Rattle.mrp_readiness.proofs.readiness.Readiness.new.Goals as goal

pub invariant_of-result : goal.invariant_of-result
invariant_of-result c =
    let none = c.in_ok-planned.ensures.items_if_clones_equal (λ y h. first_of (search (rules, h), cc (h))) in
    first_inside c.in_ok-ready.ready.numbers c.args.numbers.now c.args.waits.items c.deref.result.now c.in_ok-planned.planned.items c.in_ok-ready.ready.places
    c.in_ok-ready.ready.gone none c.deref.ensures.value c.requires c.in_ok-ready.ensures.numbers c.in_ok-ready.ensures.gone c.in_ok-ready.ensures.exact

pub returns-clause-listed : goal.returns-clause-listed
returns-clause-listed c =
    let none = c.in_ok-planned.ensures.items_if_clones_equal (λ y h. first_of (search (rules, h), cc (h))) in
    (first_inside c.in_ok-ready.ready.numbers c.args.numbers.now c.args.waits.items c.deref.result.now c.in_ok-planned.planned.items c.in_ok-ready.ready.places
    c.in_ok-ready.ready.gone none c.deref.ensures.value c.requires c.in_ok-ready.ensures.numbers c.in_ok-ready.ensures.gone
    c.in_ok-ready.ensures.exact).listed

pub returns-clause-counts : goal.returns-clause-counts
returns-clause-counts c = λ joins blocks first.
    let none = c.in_ok-planned.ensures.items_if_clones_equal (λ y h. first_of (search (rules, h), cc (h))) in
    AreCounts-first c.args.waits.items joins c.in_ok-planned.planned.items blocks (λ x. none_planned c.in_ok-planned.planned.items _ x none) first
