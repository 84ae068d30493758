use Rattle.mrp_loops.proofs.Coded.{codes_exist}
use Rattle.mrp_loops.proofs.Upstream.{codes_are_one, needs_are_one}
use Rattle.mrp_loops.proofs.laws.sized_has_codes_and_needs.Goals as goal

pub returns-clause-codes : goal.returns-clause-codes
returns-clause-codes c = λ N sized.
    let codes = codes_exist N sized.table sized.loop_free in
    (codes.0, codes.1, λ others are. codes_are_one N others codes.0 are codes.1)

pub returns-clause-needs : goal.returns-clause-needs
returns-clause-needs c = λ N sized.
    (sized.needs, sized.are_needs, sized.within, λ others are. needs_are_one N sized.table sized.loop_free others sized.needs are sized.are_needs)
