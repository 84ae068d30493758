use Rattle.std.proofs.Common.{◌∷◌, ◌++◌, [], if◌then◌else◌, ◌∙◌, ap, sym, not, true≢false, arith}
use Rattle.std.proofs.lemmas.Grind.{common_steps}
use Rattle.mrp_tables.proofs.Keys.{any_policy, policies_room}
use Rattle.mrp_tables.proofs.draft.Draft.add_policy.Goals as goal

pub unreachable-requires : goal.unreachable-requires
unreachable-requires c =
    let fresh = any_policy c.in_ok-policy.policy.pair _ _ c.requires.draft.holds.policy_keys ∙ c.in_ok-policy.ensures.fresh in
    absurd (true≢false (ap not (sym fresh) ∙ sym c.in_ok-insert.ensures.added ∙ c.if-not-branch.true))

pub add_policy-requires-clause-room : goal.add_policy-requires-clause-room
add_policy-requires-clause-room c =
    let self = c.args.self.now in
    let x = c.in_ok-policy.policy in
    let old = c.requires.draft.holds in
    let fresh = any_policy x.pair _ _ old.policy_keys ∙ c.in_ok-policy.ensures.fresh in
    let keys = c.in_ok-insert.ensures.keys ∙ ap (λ b. if b then self.policy_keys.keys else self.policy_keys.keys ++ x.pair ∷ []) fresh in
    policies_room self.lists x.pair _ _ old.rows old.policy_keys keys c.insert.ensures.unique c.in_ok-policy.ensures.row.pair

pub returns-clause-adds : goal.returns-clause-adds
returns-clause-adds c = grind (arith, common_steps)
