use Rattle.std.proofs.Common.{◌≡◌, ℕ, List, length, take, sym, ◌∙◌, ap, subst}
use Rattle.mrp_netting.specs.PlanningData.{one, plain}
use Rattle.mrp_netting.specs.PlanningBound.{IsWithinData, data_of}
use Rattle.mrp_netting.proofs.PlainData.{plain_is_within, plain_from}
use Rattle.mrp_netting.proofs.plan.is_plan.Goals as goal
use Rattle.mrp_netting.proofs.plan.is_plan.Goals.{After-plain}

-- the plan is that of its own two rows
planned_from : (c : After-plain) → data_of c.plain.result c.args.plan.now.gross ≡ plain c.args.params.now c.args.plan.now.incoming c.args.plan.now.gross
planned_from c =
    let rows = c.args.plan.now in
    let pieces = c.pieces_of-pieces.result in
    let read : c.as_slice.result.now ≡ rows.incoming = c.as_slice.ensures.value ∙ c.incoming.ensures in
    let put : take (length rows.incoming) pieces ≡ rows.incoming = ap (λ (xs : List ℕ). take (length xs) pieces) (sym read) ∙ c.pieces_of-pieces.ensures ∙ read in
    plain_from c.plain.result c.args.params.now rows.incoming pieces rows.gross c.len-count.result c.plain.ensures put
    (c.len-count.ensures.value ∙ sym c.len-count.ensures.rows.incoming_len)

pub is_plan_from-requires : goal.is_plan_from-requires
is_plan_from-requires c =
    let rows = c.args.plan.now in
    let row = c.len-count.ensures.rows.gross in
    record {
      within = subst IsWithinData (sym (planned_from (goal.at.is_plan_from-requires c).After-plain))
          (plain_is_within c.args.params.now rows.incoming rows.gross c.requires row.some row.short);
    }

pub returns : goal.returns
returns c =
    let same = ap one (planned_from (goal.at.returns c).After-plain) in (
      λ yes. c.is_plan_from.ensures.0 yes ∙ same,
      λ is. c.is_plan_from.ensures.1 (is ∙ sym same),
    )
