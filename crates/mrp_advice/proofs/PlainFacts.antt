-- Advice: where receipts count when they come and there are no periods of cover, an open order
-- is needed by the balance alone.
use Rattle.std.proofs.Common.{◌≡◌, ◌∙◌, ℕ, suc, ◌+◌, true, false, nat_lt, List, [], ◌∷◌, length, take, sum, refl, sym, ap, arith}
use Rattle.std.proofs.lemmas.Bool.{and_left, le-ltb}
use Rattle.std.proofs.lemmas.List.Sums.{sum_by-cons}
use Rattle.mrp_netting.specs.PlanRows.{PlanRows}
use Rattle.mrp_netting.specs.PlanningData.{PairData, due}
use Rattle.mrp_netting.specs.declared.planning_data.Policy.{Policy}
use Rattle.mrp_master_data.specs.Table.{Table}
use Rattle.mrp_net.specs.Plan.{gross, pair_data}
use Rattle.mrp_net.specs.Policies.{policy_of}
use Rattle.mrp_net.specs.Sums.{pair_at, row_of}
use Rattle.mrp_net.proofs.Sooner.{received_sooner-none}
use Rattle.mrp_plan.proofs.Pegs.{fitting_gross}
use Rattle.mrp_advice.specs.declared.orders.OpenOrder.{OpenOrder}
use Rattle.mrp_advice.specs.Advice.{messages_by}
use Rattle.mrp_advice.specs.Beyond.{needs_whole}
use Rattle.mrp_advice.specs.AdviceLaws.{PlainPairsAreAdvised}
use Rattle.mrp_advice.specs.Needed.{asked_by, has_before, may_come_sooner, needed, pieces_of}
use Rattle.mrp_advice.specs.OpenOrders.{is_receipt, open_order_at, open_orders}
use Rattle.mrp_advice.specs.PlainNeeds.{gross_to, had_before, is_short, plain_needed}
use Rattle.mrp_advice.proofs.Finding.{find_same}
use Rattle.mrp_advice.proofs.Messages.{messages_same}
use Rattle.mrp_advice.proofs.SortNeeds.{has_is}
use Rattle.mrp_advice.proofs.Sorts.{both_pieces, weight, weight_other}

-- no receipt may be counted sooner
pub never_sooner : (policy : Policy) → policy.sooner ≡ 0 → (o : OpenOrder) → may_come_sooner policy o ≡ false
never_sooner policy none o = and_left (nat_lt 0 policy.sooner) (is_receipt o.kind) (le-ltb 0 policy.sooner (omega (arith, none)))

none_sooner : (policy : Policy) → policy.sooner ≡ 0 → (orders : List OpenOrder) → pieces_of policy true orders ≡ 0
none_sooner policy none [] = refl
none_sooner policy none (o ∷ os) =
    omega (
      arith,
      sum_by-cons (weight policy true) o os,
      weight_other policy true o (never_sooner policy none o),
      none_sooner policy none os,
    )

module _ (N : Table) (table : List PlanRows) (x : ℕ) (none : (policy_of N x).sooner ≡ 0) where
  abbrev d : PairData
  d = pair_data N table x

  pub none_due : (t : ℕ) → due d t ≡ 0
  none_due t = ap (λ (row : List ℕ). sum (take (suc t) row)) (received_sooner-none N x none)

  has_same : (orders : List OpenOrder) (i t : ℕ) → has_before d orders i t ≡ had_before (pair_at N x) orders i
  has_same orders i t =
      omega (
        arith,
        has_is d orders i t false (never_sooner d.policy none (open_order_at orders i)),
        none_due (t + d.policy.sooner),
        both_pieces d.policy (take i orders),
        none_sooner d.policy none (take i orders),
      )

  asked_same : (t : ℕ) → (policy_of N x).cover ≡ 0 → asked_by d t ≡ (pair_at N x).safety + gross_to d.gross t
  asked_same t no_cover =
      ap (λ (n : ℕ). (pair_at N x).safety + sum (take n d.gross)) (let e : suc t + (policy_of N x).cover ≡ t + 1 = omega (arith, no_cover) in e)

  needed_same : (orders : List OpenOrder) (i : ℕ) → (policy_of N x).cover ≡ 0 → needed d orders i ≡ plain_needed (pair_at N x) d.gross orders i
  needed_same orders i no_cover =
      find_same (λ t. nat_lt (has_before d orders i t) (asked_by d t))
      (is_short (pair_at N x).safety d.gross (had_before (pair_at N x) orders i)) (length d.gross)
      (λ t h. ap (λ (n : ℕ). nat_lt n (asked_by d t)) (has_same orders i t)
      ∙ ap (nat_lt (had_before (pair_at N x) orders i)) (asked_same t no_cover))

pub plain_pairs_are_advised : PlainPairsAreAdvised
plain_pairs_are_advised N table fits x pair none no_cover wholes until =
    let orders = open_orders N x in
    messages_same (needs_whole wholes N x) until (needed (pair_data N table x) orders) (plain_needed (pair_at N x) (row_of N (gross N table x)) orders) orders
    (λ i. needed_same N table x none orders i no_cover)
    ∙ ap (λ (row : List ℕ). messages_by (needs_whole wholes N x) until (plain_needed (pair_at N x) row orders) orders) (sym (fitting_gross N table x fits pair))
