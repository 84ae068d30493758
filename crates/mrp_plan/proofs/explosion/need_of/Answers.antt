use Rattle.std.proofs.Common.{◌≡◌, ◌≤◌, ap, ◌∙◌, sym, subst, arith}
use Rattle.mrp_master_data.specs.declared.rows.Usage.{Usage}
use Rattle.mrp_net.specs.Usages.{in_force, pieces_for, whole}
use Rattle.mrp_plan.specs.Explosion.{need_by}
use Rattle.mrp_net.proofs.Using.{in_force-some}
use Rattle.mrp_plan.proofs.explosion.need_of.Goals as goal
use Rattle.mrp_plan.proofs.explosion.need_of.Goals.{After-usage_in}

pub share_of-part-requires-clause-shares : goal.share_of-part-requires-clause-shares
share_of-part-requires-clause-shares c = c.requires.shares

pub share_of-part-requires-clause-whole : goal.share_of-part-requires-clause-whole
share_of-part-requires-clause-whole c = c.requires.whole

pub share_of-part-requires-clause-within : goal.share_of-part-requires-clause-within
share_of-part-requires-clause-within c = c.requires.quantity

pub pieces_for-requires-clause-some : goal.pieces_for-requires-clause-some
pieces_for-requires-clause-some c =
    subst (λ (u : Usage). 1 ≤ u.base) (sym c.usage_in.ensures)
    (in_force-some c.args.t c.args.edge.now.per c.args.rows.now c.requires.bases)

asks : (c : After-usage_in) → pieces_for c.usage_in.result c.share_of-part.result ≡ need_by c.args.rows.now c.args.edge.now c.args.t c.args.release
asks c =
    ap (λ (u : Usage). pieces_for u c.share_of-part.result) c.usage_in.ensures
    ∙ ap (pieces_for (in_force c.args.t (whole c.args.edge.now.per) c.args.rows.now)) c.share_of-part.ensures.value

pub pieces_for-requires-clause-within : goal.pieces_for-requires-clause-within
pieces_for-requires-clause-within c = omega (arith, asks (goal.at.pieces_for-requires-clause-within c).After-usage_in, c.requires.within)

pub returns : goal.returns
returns c = c.pieces_for.ensures ∙ asks (goal.at.returns c).After-usage_in
