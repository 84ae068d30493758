use Rattle.std.proofs.Common.{List, ap, ◌∙◌}
use Rattle.mrp_master_data.specs.declared.rows.PolicyRow.{PolicyRow}
use Rattle.mrp_net.specs.Policies.{first_policy}
use Rattle.mrp_net.proofs.PolicyRows.{policies_read}
use Rattle.mrp_net.proofs.network.Network.policy.Goals as goal

pub get-requires-clause-rises : goal.get-requires-clause-rises
get-requires-clause-rises c = let are = policies_read _ c.args.self.now c.self.inside.amounts.policies.rows.items c.self.inside.amounts.policies.starts.items
    c.args.x.0 c.self.view_is c.self.invariant.amounts.policies c.requires in are.rises

pub get-requires-clause-within : goal.get-requires-clause-within
get-requires-clause-within c = let are = policies_read _ c.args.self.now c.self.inside.amounts.policies.rows.items c.self.inside.amounts.policies.starts.items
    c.args.x.0 c.self.view_is c.self.invariant.amounts.policies c.requires in are.within

pub returns : goal.returns
returns c =
    let are = policies_read _ c.args.self.now c.self.inside.amounts.policies.rows.items c.self.inside.amounts.policies.starts.items c.args.x.0 c.self.view_is
    c.self.invariant.amounts.policies c.requires in
    c.first_policy.ensures ∙ ap (λ (rows : List PolicyRow). first_policy rows) (c.get.ensures ∙ are.value)
