-- The network: how its pairs are planned beyond their rows, by their policies.
use Rattle.std.specs.Prelude.{ℕ, List, [], ◌∷◌}
use Rattle.mrp_grouping.specs.Groups.{group}
use Rattle.mrp_netting.specs.declared.planning_data.Policy.{Policy}
use Rattle.mrp_netting.specs.PlanningData.{no_policy}
use Rattle.mrp_master_data.specs.declared.rows.PolicyRow.{PolicyRow}
use Rattle.mrp_master_data.specs.Table.{Table}

-- the policy of the first of some rows, and none of each without a row
abbrev pub first_policy : List PolicyRow → Policy
first_policy [] = no_policy
first_policy (p ∷ _) = p.policy

-- the policy of a pair, of which a table has one row at most
abbrev pub policy_of : Table → ℕ → Policy
policy_of N x = first_policy (group (λ p. p.pair.0) x N.policies)
