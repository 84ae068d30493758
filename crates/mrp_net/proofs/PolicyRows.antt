-- The network: policies of its pairs as they are kept and read, and within which ranges they are.
use Rattle.std.proofs.Common.{◌≡◌, ℕ, zero, suc, ◌+◌, ◌<◌, ◌≤◌, Bool, cond, eqb, List, [], ◌∷◌, inl, inr, length, slice_index, slice_range, get_or}
use Rattle.std.proofs.Common.{arith, refl, sym, ap, ◌∙◌, subst}
use Rattle.std.specs.List.{All}
use Rattle.std.proofs.lemmas.Bool.{cases_Bool, eqb-true}
use Rattle.std.proofs.lemmas.List.Elements.{All-head, All-tail, All-filter}
use Rattle.mrp_qty.specs.declared.limits.TheConstants.{MOST_IN_ROW}
use Rattle.mrp_lot.specs.declared.rule.TheConstants.{LONGEST_LEAD}
use Rattle.mrp_netting.specs.declared.planning_data.Policy.{Policy}
use Rattle.mrp_netting.specs.PlanningData.{no_policy}
use Rattle.mrp_grouping.specs.Groups.{group}
use Rattle.mrp_grouping.proofs.Sorting.{IsGrouped-within}
use Rattle.mrp_master_data.specs.declared.rows.PolicyRow.{PolicyRow}
use Rattle.mrp_master_data.specs.Table.{Table, IsTable, IsPair, IsPolicyRow, horizon}
use Rattle.mrp_net.specs.Built.{ArePolicies}
use Rattle.mrp_net.specs.Policies.{first_policy, policy_of}
use Rattle.mrp_master_data.proofs.LimitFacts.{cover_of_policy, sooner_of_policy}

-- what a look-up past the policy rows reads
abbrev pub no_policy_row : PolicyRow
no_policy_row = record { pair = record { 0 = 0 }; policy = no_policy }

-- a policy in the range of a policy row
pub record IsPolicyIn (N : Table) (p : Policy) : Type 0 where
  pub fence : p.fence < horizon N
  pub sooner : p.sooner ≤ LONGEST_LEAD
  pub cover : p.cover ≤ LONGEST_LEAD
  pub least : p.least ≤ MOST_IN_ROW
  pub multiple : p.multiple ≤ MOST_IN_ROW

first_within : (N : Table) → 1 ≤ horizon N → (rows : List PolicyRow) → All (IsPolicyRow N) rows → IsPolicyIn N (first_policy rows)
first_within N some [] each =
    record { fence = omega (arith, some); sooner = omega arith; cover = omega arith; least = omega arith; multiple = omega arith }
first_within N some (p ∷ rows) each =
    let row = All-head (IsPolicyRow N) p rows each in
    record { fence = row.fence; sooner = sooner_of_policy N p row; cover = cover_of_policy N p row; least = row.least; multiple = row.multiple }

-- the policy of a pair is in range, whether it has a row or not
pub policy_within : (N : Table) (x : ℕ) → IsTable N → IsPolicyIn N (policy_of N x)
policy_within N x is =
    first_within N is.read.limits.some_periods (group (λ (p : PolicyRow). p.pair.0) x N.policies)
    (All-filter (λ (p : PolicyRow). eqb p.pair.0 x) (IsPolicyRow N) N.policies is.read.policies)

no_sooner : (sooner place : ℕ) → (0 < sooner → 0 < place) → place ≡ 0 → sooner ≡ 0
no_sooner zero place has none = refl
no_sooner (suc n) place has none = absurd (omega (arith, has (omega arith), none))

-- where each row with SOONER has a place, a pair without a place has no SOONER
pub sooner_none : (places : List ℕ) (x : ℕ) (rows : List PolicyRow) → All (λ p. 0 < p.policy.sooner → 0 < get_or places p.pair.0 0) rows
    → get_or places x 0 ≡ 0 → (first_policy (group (λ (p : PolicyRow). p.pair.0) x rows)).sooner ≡ 0
sooner_none places x [] each none = refl
sooner_none places x (p ∷ rows) each none =
    let P : PolicyRow → Type 0 = λ q. 0 < q.policy.sooner → 0 < get_or places q.pair.0 0 in
    let kept = group (λ (q : PolicyRow). q.pair.0) x rows in
    elim (cases_Bool (eqb p.pair.0 x)) as (λ _. (first_policy (group (λ (q : PolicyRow). q.pair.0) x (p ∷ rows))).sooner ≡ 0) [
      | inl own ↦
          let here : get_or places p.pair.0 0 ≡ 0 = ap (λ (z : ℕ). get_or places z 0) (eqb-true p.pair.0 x own) ∙ none in
          let has = All-head P p rows each in
          ap (λ (b : Bool). (first_policy (cond b (p ∷ kept) kept)).sooner) own ∙ no_sooner p.policy.sooner (get_or places p.pair.0 0) has here
      | inr other ↦
          ap (λ (b : Bool). (first_policy (cond b (p ∷ kept) kept)).sooner) other ∙ sooner_none places x rows (All-tail P p rows each) none
    ]

-- ---- as a network reads them

pub record PoliciesOf (M : Table) (rows : List PolicyRow) (starts : List ℕ) (x : ℕ) : Type 0 where
  pub rises : slice_index starts x ≤ slice_index starts (x + 1)
  pub within : slice_index starts (x + 1) ≤ length rows
  pub value : slice_range rows (slice_index starts x) (slice_index starts (x + 1)) ≡ group (λ (p : PolicyRow). p.pair.0) x M.policies

pub policies_read : (N M : Table) (rows : List PolicyRow) (starts : List ℕ) (x : ℕ) → N ≡ M → ArePolicies N rows starts → IsPair M x
    → PoliciesOf M rows starts x
policies_read N M rows starts x is are pair =
    let here : IsPair N x = subst (λ (z : Table). IsPair z x) (sym is) pair in
    let ends = IsGrouped-within (λ (p : PolicyRow). p.pair.0) (length N.pairs) N.policies rows starts x are here in
    subst (λ (z : Table). PoliciesOf z rows starts x) is (record { rises = ends.0; within = ends.1; value = are.slices x here })

-- the policy that is read so
pub policy_read : (N : Table) (rows read : List PolicyRow) (starts : List ℕ) (x : ℕ) (p : Policy) → ArePolicies N rows starts → IsPair N x
    → read ≡ slice_range rows (slice_index starts x) (slice_index starts (x + 1)) → p ≡ first_policy read → p ≡ policy_of N x
policy_read N rows read starts x p are pair slice is =
    is ∙ ap (λ (z : List PolicyRow). first_policy z) (slice ∙ (policies_read N N rows starts x refl are pair).value)
