use Rattle.std.proofs.Common.{◌≡◌, ◌≤◌, List, slice_index, ap, ◌∙◌, sym, subst, arith}
use Rattle.mrp_netting.specs.PlanRows.{PlanRows}
use Rattle.mrp_master_data.specs.declared.rows.Usage.{Usage}
use Rattle.mrp_master_data.specs.declared.rows.UsageRow.{UsageRow}
use Rattle.mrp_net.specs.Edges.{edge_need, edge_usage, part}
use Rattle.mrp_net.specs.Plan.{rows_at}
use Rattle.mrp_net.specs.Usages.{in_force, pieces_for, whole}
use Rattle.mrp_net.proofs.Using.{in_force-some}
use Rattle.mrp_plan.proofs.pegging.edge_term.Goals as goal
use Rattle.mrp_plan.proofs.pegging.edge_term.Goals.{After-usage_in-usage}

-- the usage in force
usage_is : (c : After-usage_in-usage) → c.usage_in-usage.result ≡ edge_usage c.args.network.now c.args.edge.now c.args.t
usage_is c =
    c.usage_in-usage.ensures ∙ ap (λ (us : List UsageRow). in_force c.args.t (whole c.args.edge.now.per) us) c.usages.ensures.value

part_is : (c : After-usage_in-usage) → c.share_of-release.result
    ≡ part c.args.edge.now (slice_index (rows_at c.args.plan.now c.args.edge.now.demander.0).release c.args.t)
part_is c =
    c.share_of-release.ensures.value ∙ ap (part c.args.edge.now) (c.get.ensures.value ∙ c.get-released.ensures ∙ ap (λ r. slice_index r c.args.t)
    (c.release.ensures ∙ ap (λ (r : PlanRows). r.release) c.pair.ensures))

need_is : (c : After-usage_in-usage) → pieces_for c.usage_in-usage.result c.share_of-release.result
    ≡ edge_need c.args.network.now c.args.edge.now c.args.t (slice_index (rows_at c.args.plan.now c.args.edge.now.demander.0).release c.args.t)
need_is c =
    ap (λ (u : Usage). pieces_for u c.share_of-release.result) (usage_is c)
    ∙ ap (pieces_for (edge_usage c.args.network.now c.args.edge.now c.args.t)) (part_is c)

pub pieces_for-requires-clause-some : goal.pieces_for-requires-clause-some
pieces_for-requires-clause-some c =
    subst (λ (u : Usage). 1 ≤ u.base) (sym c.usage_in-usage.ensures)
    (in_force-some c.args.t c.args.edge.now.per c.usages.result.now (λ i d h. (c.usages.ensures.rows i d h).some))

pub pieces_for-requires-clause-within : goal.pieces_for-requires-clause-within
pieces_for-requires-clause-within c =
    omega (arith, need_is (goal.at.pieces_for-requires-clause-within c).After-usage_in-usage, c.requires.edge.within)

pub pair-requires : goal.pair-requires
pair-requires c = rw c.requires.size c.requires.edge.edge.demander

pub get-released-requires : goal.get-released-requires
get-released-requires c = rw (c.release.ensures, c.pair.ensures) c.requires.edge.period

pub share_of-release-requires-clause-shares : goal.share_of-release-requires-clause-shares
share_of-release-requires-clause-shares c = omega (arith, c.requires.edge.edge.rises)

pub share_of-release-requires-clause-whole : goal.share_of-release-requires-clause-whole
share_of-release-requires-clause-whole c = c.requires.edge.edge.ends

pub share_of-release-requires-clause-within : goal.share_of-release-requires-clause-within
share_of-release-requires-clause-within c = c.get.ensures.within

pub pair-demander-requires : goal.pair-demander-requires
pair-demander-requires c = c.requires.edge.edge.demander

pub pair-requires-2 : goal.pair-requires-2
pair-requires-2 c = c.requires.edge.edge.pair
