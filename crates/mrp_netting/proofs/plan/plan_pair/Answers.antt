use Rattle.std.proofs.Common.{◌≡◌, ℕ, List, length, take, sym, ◌∙◌, ap, subst, arith}
use Rattle.mrp_netting.specs.PlanningData.{one, plain}
use Rattle.mrp_netting.specs.PlanningBound.{IsWithinData, data_of}
use Rattle.mrp_netting.proofs.PlainData.{plain_is_within, plain_from}
use Rattle.mrp_netting.proofs.plan.plan_pair.Goals as goal
use Rattle.mrp_netting.proofs.plan.plan_pair.Goals.{After-plain}

-- the pair is planned from the two rows
planned_from : (c : After-plain) → data_of c.plain.result c.copy_from.new.self ≡ plain c.args.params.now c.args.incoming.now c.args.gross.now
planned_from c =
    let params = c.args.params.now in
    let incoming = c.args.incoming.now in
    let pieces = c.pieces_of-pieces.result in
    let read : c.as_slice.result.now ≡ incoming = c.as_slice.ensures.value in
    let put : take (length incoming) pieces ≡ incoming = ap (λ (xs : List ℕ). take (length xs) pieces) (sym read) ∙ c.pieces_of-pieces.ensures ∙ read in
    plain_from c.plain.result params incoming pieces c.copy_from.new.self c.len-count.result c.plain.ensures put c.len-count.ensures.value
    ∙ ap (plain params incoming) c.copy_from.ensures

pub plan_rows-requires : goal.plan_rows-requires
plan_rows-requires c =
    let is = c.requires.within in
    let row = c.len-count.ensures.row in
    subst IsWithinData (sym (planned_from (goal.at.plan_rows-requires c).After-plain))
    (plain_is_within c.args.params.now c.args.incoming.now c.args.gross.now is (omega (arith, row.some, is.periods)) (omega (arith, row.short, is.periods)))

pub returns : goal.returns
returns c = c.plan_rows.ensures ∙ ap one (planned_from (goal.at.returns c).After-plain)
