-- Netting one pair: rows that follow the rules are its plan, and its plan follows them.
use Rattle.std.specs.Prelude.{◌≡◌, ℕ, ◌+◌, ◌-◌, ◌≤◌, ◌<◌, ◌==◌, if◌then◌else◌, min, List, length, slice_index, zero, suc}
use Rattle.std.proofs.Common.{arith, sym, refl, ◌∙◌, ap, ⊎_elim, eq-eqb, eqb-true, ne_eqb}
use Rattle.std.proofs.lemmas.Bool.{cases_lt, cond-false, cond-true, cond_both}
use Rattle.std.proofs.lemmas.List.FromFn.{length-map-range_with_len, get_or-map-range_with_len, fill_by_all}
use Rattle.mrp_netting.specs.declared.params.PairParams.{PairParams}
use Rattle.mrp_netting.specs.declared.params.Late.{Late}
use Rattle.mrp_lot.specs.declared.rule.Rule.{Rule}
use Rattle.mrp_lot.specs.declared.rule.Rule.TheVariants.{Periods}
use Rattle.mrp_lot.specs.Lot.{periods_covered, lot_of}
use Rattle.mrp_netting.specs.PlanRows.{PlanRows, late_orders}
use Rattle.mrp_netting.specs.One.{one, need_over, greatest_need, net_after, order_after, order_at, balance_before, release_row}
use Rattle.mrp_netting.specs.Bound.{IsWithin}
use Rattle.mrp_netting.proofs.OneLaws.{balance_before-zero, balance_before-next, order_at-is, one-order, one-available}
use Rattle.mrp_netting.proofs.OneLaws.{greatest_need-zero, greatest_need-suc, greatest_need-ge}
use Rattle.mrp_netting.specs.Rules.{balance_in, FollowsRules, LotForLotOrdersTheNeed}
use Rattle.mrp_netting.specs.Rules.{PeriodsIsGreatest}
use Rattle.mrp_netting.specs.Rules.{NothingIsOrderedWithoutANeed, PlanFollowsRules, RulesHaveOnePlan}

-- an order is placed only for a net requirement, and one of exactly that is it, also where there is none
order_placed : (net ordered : ℕ) → ordered ≡ net → (if net == 0 then 0 else ordered) ≡ net
order_placed net ordered same = cond_both (net == 0) 0 ordered (λ v. v ≡ net) (λ e. sym (eqb-true net 0 e)) (λ e. same)

pub lot_for_lot-orders : LotForLotOrdersTheNeed
lot_for_lot-orders pair incoming gross before t rule =
    let net = net_after pair incoming gross before t in
    let span = greatest_need pair incoming gross before t (min (periods_covered pair.rule) (length gross - t)) in
    order_placed net (lot_of pair.rule net span) (ap (λ (r : Rule). lot_of r net span) rule)

-- the greatest need is above none of those that it is of, and one of them where it is above 0
greatest_need-covers : (pair : PairParams) (incoming gross : List ℕ) (before t n most : ℕ) → 1 ≤ n → n ≤ most
    → need_over pair incoming gross before t n ≤ greatest_need pair incoming gross before t most
greatest_need-covers pair incoming gross before t n zero some within = absurd (omega arith)
greatest_need-covers pair incoming gross before t n (suc most) some within =
    ⊎_elim
    (λ (fewer : n < suc most). omega (
      arith,
      greatest_need-suc pair incoming gross before t most,
      greatest_need-covers pair incoming gross before t n most some (omega arith),
    ))
    (λ (all : suc most ≤ n).
    let same : n ≡ suc most = omega arith in
    omega (arith, greatest_need-suc pair incoming gross before t most, ap (need_over pair incoming gross before t) same))
    (cases_lt n (suc most))

greatest_need-attained : (pair : PairParams) (incoming gross : List ℕ) (before t most : ℕ) → 0 < greatest_need pair incoming gross before t most
    → (n : ℕ) × (1 ≤ n) × (n ≤ most) × (greatest_need pair incoming gross before t most ≡ need_over pair incoming gross before t n)
greatest_need-attained pair incoming gross before t zero some = absurd (omega (arith, greatest_need-zero pair incoming gross before t))
greatest_need-attained pair incoming gross before t (suc most) some =
    let next = greatest_need-suc pair incoming gross before t most in
    ⊎_elim
    (λ (less : need_over pair incoming gross before t (suc most) < greatest_need pair incoming gross before t most).
    let found = greatest_need-attained pair incoming gross before t most (omega arith) in
    (found.0, found.1, omega (arith, found.2), omega (arith, next, found.3)))
    (λ (more : greatest_need pair incoming gross before t most ≤ need_over pair incoming gross before t (suc most)).
    (suc most, omega arith, omega arith, omega (arith, next)))
    (cases_lt (need_over pair incoming gross before t (suc most)) (greatest_need pair incoming gross before t most))

-- an order for periods of supply is their greatest need within the horizon
order_for_periods : (pair : PairParams) (incoming gross : List ℕ) (before t k : ℕ) → pair.rule ≡ Periods k → 0 < net_after pair incoming gross before t
    → order_after pair incoming gross before t ≡ greatest_need pair incoming gross before t (min k (length gross - t))
order_for_periods pair incoming gross before t k rule some =
    let net = net_after pair incoming gross before t in
    let span : Rule → ℕ = λ r. greatest_need pair incoming gross before t (min (periods_covered r) (length gross - t)) in
    cond-false (net == 0) 0 (lot_of pair.rule net (span pair.rule)) (ne_eqb net 0 (omega arith))
    ∙ ap (λ (r : Rule). lot_of r net (span r)) rule

pub periods-is_greatest : PeriodsIsGreatest
periods-is_greatest pair incoming gross before t k rule one_at_least within some =
    let most = min k (length gross - t) in
    let ordered = order_for_periods pair incoming gross before t k rule some in
    let first = greatest_need-ge pair incoming gross before t most (omega arith) in
    let found = greatest_need-attained pair incoming gross before t most (omega arith) in
    record {
      covers = λ n low high inside. omega (arith, ordered, greatest_need-covers pair incoming gross before t n most low (omega arith));
      attained = (found.0, found.1, omega (arith, found.2), omega (arith, found.2, within), ordered ∙ found.3);
    }

-- without a net requirement the test of an order is passed at once
pub nothing_ordered : NothingIsOrderedWithoutANeed
nothing_ordered pair incoming gross before t none =
    let net = net_after pair incoming gross before t in
    let span = greatest_need pair incoming gross before t (min (periods_covered pair.rule) (length gross - t)) in
    cond-true (net == 0) 0 (lot_of pair.rule net span) (eq-eqb net 0 none)

-- the balance read off the rows is that of the plan
same_balance : (pair : PairParams) (rows : PlanRows) → IsWithin pair rows.incoming rows.gross → FollowsRules pair rows
    → (t : ℕ) → t ≤ length rows.gross → balance_in pair rows t ≡ balance_before pair rows.incoming rows.gross t
same_balance pair rows is follows zero h = sym (balance_before-zero pair rows.incoming rows.gross)
same_balance pair rows is follows (suc t) h =
    let before = same_balance pair rows is follows t (omega arith) in
    let ordered = follows.order t (omega arith) ∙ ap (λ (b : ℕ). order_after pair rows.incoming rows.gross b t) before
    ∙ sym (order_at-is pair rows.incoming rows.gross t) in
    omega (arith, before, ordered, follows.available t (omega arith), balance_before-next pair rows.incoming rows.gross t is (omega arith))

same_order : (pair : PairParams) (rows : PlanRows) → IsWithin pair rows.incoming rows.gross → FollowsRules pair rows
    → (t : ℕ) → t < length rows.gross → slice_index rows.order t ≡ order_at pair rows.incoming rows.gross t
same_order pair rows is follows t h =
    follows.order t h ∙ ap (λ (b : ℕ). order_after pair rows.incoming rows.gross b t) (same_balance pair rows is follows t (omega arith))
    ∙ sym (order_at-is pair rows.incoming rows.gross t)

-- rows with other lists in place of equal ones
with_rows : (rows : PlanRows) (order release available : List ℕ) (late : List Late)
    → rows.order ≡ order → rows.release ≡ release → rows.available ≡ available → rows.late ≡ late
    → rows ≡ record rows { order = order; release = release; available = available; late = late }
with_rows rows order release available late o r a l =
    ap (λ (xs : List ℕ). record rows { order = xs }) o
    ∙ ap (λ (xs : List ℕ). record rows { order = order; release = xs }) r
    ∙ ap (λ (xs : List ℕ). record rows { order = order; release = release; available = xs }) a
    ∙ ap (λ (xs : List Late). record rows { order = order; release = release; available = available; late = xs }) l

pub rules-have_one_plan : RulesHaveOnePlan
unfolding one
rules-have_one_plan pair rows is follows =
    let n = length rows.gross in
    let order = fill_by_all (order_at pair rows.incoming rows.gross) rows.order n 0 follows.order_len (λ t h. same_order pair rows is follows t h) in
    let release = follows.release ∙ ap (release_row pair.lead) order in
    let available = fill_by_all (λ t. balance_before pair rows.incoming rows.gross (suc t)) rows.available n 0 follows.available_len
    (λ t h. same_balance pair rows is follows (suc t) (omega arith)) in
    let late = follows.late ∙ ap (late_orders pair.lead) order in
    with_rows rows _ _ _ _ order release available late

-- the other way round
plan_balance : (pair : PairParams) (incoming gross : List ℕ) (t : ℕ) → t ≤ length gross
    → balance_in pair (one pair incoming gross) t ≡ balance_before pair incoming gross t
plan_balance pair incoming gross zero h = sym (balance_before-zero pair incoming gross)
plan_balance pair incoming gross (suc t) h =
    ap (λ (xs : List ℕ). slice_index xs t) (one-available pair incoming gross)
    ∙ get_or-map-range_with_len (λ k. balance_before pair incoming gross (suc k)) 0 (length gross) t t 0 (omega arith) (omega arith)

plan_order : (pair : PairParams) (incoming gross : List ℕ) (t : ℕ) → t < length gross
    → slice_index (one pair incoming gross).order t ≡ order_at pair incoming gross t
plan_order pair incoming gross t h =
    ap (λ (xs : List ℕ). slice_index xs t) (one-order pair incoming gross)
    ∙ get_or-map-range_with_len (order_at pair incoming gross) 0 (length gross) t t 0 h (omega arith)

plan_available : (pair : PairParams) (incoming gross : List ℕ) → IsWithin pair incoming gross → (t : ℕ) → t < length gross
    → slice_index (one pair incoming gross).available t + slice_index gross t
    ≡ balance_in pair (one pair incoming gross) t + slice_index incoming t + slice_index (one pair incoming gross).order t
plan_available pair incoming gross is t h =
    let after : slice_index (one pair incoming gross).available t ≡ balance_before pair incoming gross (suc t) =
    plan_balance pair incoming gross (suc t) (omega arith) in
    omega (arith, after, plan_balance pair incoming gross t (omega arith), plan_order pair incoming gross t h, balance_before-next pair incoming gross t is h)

plan_ordered : (pair : PairParams) (incoming gross : List ℕ) (t : ℕ) → t < length gross
    → slice_index (one pair incoming gross).order t ≡ order_after pair incoming gross (balance_in pair (one pair incoming gross) t) t
plan_ordered pair incoming gross t h =
    plan_order pair incoming gross t h ∙ order_at-is pair incoming gross t
    ∙ ap (λ (b : ℕ). order_after pair incoming gross b t) (sym (plan_balance pair incoming gross t (omega arith)))

pub plan-follows_rules : PlanFollowsRules
unfolding one
plan-follows_rules pair incoming gross is =
    let n = length gross in
    record {
      incoming_len = is.periods;
      order_len = length-map-range_with_len (order_at pair incoming gross) 0 n;
      available_len = length-map-range_with_len (λ t. balance_before pair incoming gross (suc t)) 0 n;
      order = λ t h. plan_ordered pair incoming gross t h;
      available = λ t h. plan_available pair incoming gross is t h;
      release = refl;
      late = refl;
    }
