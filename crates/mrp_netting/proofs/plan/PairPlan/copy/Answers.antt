use Rattle.std.proofs.Common.{rules, ◌≡◌, ℕ, length, IfSome, Option, ◌∙◌, ap, subst}
use Rattle.std.proofs.lemmas.List.{length-replicate}
use Rattle.mrp_netting.specs.PlanRows.{PlanRows}
use Rattle.mrp_netting.proofs.plan.PairPlan.copy.Goals as goal

pub copy_from-requires : goal.copy_from-requires
copy_from-requires c =
    let counted : c.unwrap-horizon.result ≡ c.len.result =
    subst (λ (h : Option ℕ). IfSome h (λ n. n ≡ c.len.result)) c.unwrap-horizon.ensures c.within.ensures.value in
    ap (λ (rows : PlanRows). length rows.gross) c.in_ok-copy.ensures
    ∙ length-replicate c.unwrap-horizon.result 0
    ∙ counted
    ∙ c.len.ensures.value
    ∙ ap (λ (rows : PlanRows). length rows.gross) c.self.view_is

pub returns : goal.returns
returns c = search rules
