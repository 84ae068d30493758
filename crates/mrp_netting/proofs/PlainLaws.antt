-- Netting one pair: its plan without policy and firm planned orders is the one from two rows.
use Rattle.std.specs.Prelude.{◌≡◌, ◌≢◌, ℕ, ◌+◌, ◌-◌, ◌≤◌, ◌<◌, ◌==◌, if◌then◌else◌, min, max}
use Rattle.std.specs.Prelude.{List, length, map, sum, take, drop, slice_index, zero, suc}
use Rattle.std.specs.List.{range_with_len}
use Rattle.std.proofs.Common.{arith, sym, refl, ◌∙◌, ap, subst, add-zero, ⊎_elim, eq-eqb, ne_eqb}
use Rattle.std.proofs.lemmas.Bool.{cases_lt, cond-false, cond-true}
use Rattle.std.proofs.lemmas.List.{get_or_past, take_all}
use Rattle.std.proofs.lemmas.List.FromFn.{fill_by_all, length-map-range_with_len}
use Rattle.mrp_lot.specs.Lot.{lot_of, periods_covered}
use Rattle.mrp_qty.proofs.RangeLaws.{sum_take-suc, sum_drop_take-one, sum_by-range-suc, sum_by-range-more, map-range-same}
use Rattle.mrp_netting.specs.declared.params.PairParams.{PairParams}
use Rattle.mrp_netting.specs.One as today
use Rattle.mrp_netting.specs.PlanRows.{late_orders}
use Rattle.mrp_netting.specs.One.{released}
use Rattle.mrp_netting.specs.Rules.{FollowsRules}
use Rattle.mrp_netting.specs.PlanningData.{plain, incoming_at, incoming_row, need, greatest, lot_for, no_policy, made_up}
use Rattle.mrp_netting.specs.PlanningData.{order_after, balance_before, order_at, order_row, available_row, planned_release, release_at, release_row, one}
use Rattle.mrp_netting.specs.PlanningLaws.{PlainIsToday, PlainFollowsRules}
use Rattle.mrp_netting.proofs.OneLaws.{greatest_need-zero, greatest_need-suc}
use Rattle.mrp_netting.proofs.RulesLaws.{plan-follows_rules, rules-have_one_plan}
use Rattle.mrp_netting.proofs.PlannedReleases.{planned_release-first, planned_release-later}
use Rattle.mrp_netting.proofs.Greatest.{greatest-zero, greatest-suc}
use Rattle.mrp_netting.proofs.Lots.{lot_for-is, made_up-none}
use Rattle.mrp_netting.proofs.OrderSteps.{greatest-horizon}

-- what comes in is what arrives
incoming_at-plain : (pair : PairParams) (incoming gross : List ℕ) (t : ℕ) → incoming_at (plain pair incoming gross) t ≡ slice_index incoming t
unfolding incoming_at
incoming_at-plain pair incoming gross zero = omega arith
incoming_at-plain pair incoming gross (suc t) = omega arith

incoming_row-plain : (pair : PairParams) (incoming gross : List ℕ) → length incoming ≡ length gross → incoming_row (plain pair incoming gross) ≡ incoming
incoming_row-plain pair incoming gross len =
    sym (fill_by_all (incoming_at (plain pair incoming gross)) incoming (length gross) 0 len (λ t h. sym (incoming_at-plain pair incoming gross t)))

-- the needs are the same
need-plain : (pair : PairParams) (incoming gross : List ℕ) (before t n : ℕ) → length incoming ≡ length gross
    → need (plain pair incoming gross) before t n ≡ today.need_over pair incoming gross before t n
need-plain pair incoming gross before t n len =
    let cover = ap (λ (m : ℕ). sum (take m (drop t gross))) (add-zero n) in
    let come = ap (λ (row : List ℕ). sum (take n (drop t row))) (incoming_row-plain pair incoming gross len) in
    omega (arith, cover, come)

net-plain : (pair : PairParams) (incoming gross : List ℕ) (before t : ℕ) → length incoming ≡ length gross
    → need (plain pair incoming gross) before t 1 ≡ today.net_after pair incoming gross before t
net-plain pair incoming gross before t len =
    omega (arith, need-plain pair incoming gross before t 1 len, sum_drop_take-one gross t, sum_drop_take-one incoming t)

greatest-plain : (pair : PairParams) (incoming gross : List ℕ) (before t n : ℕ) → length incoming ≡ length gross
    → greatest (need (plain pair incoming gross) before t) n ≡ today.greatest_need pair incoming gross before t n
greatest-plain pair incoming gross before t zero len =
    omega (arith, greatest-zero (need (plain pair incoming gross) before t), greatest_need-zero pair incoming gross before t)
greatest-plain pair incoming gross before t (suc n) len =
    omega (
      arith,
      greatest-suc (need (plain pair incoming gross) before t) n,
      greatest_need-suc pair incoming gross before t n,
      greatest-plain pair incoming gross before t n len,
      need-plain pair incoming gross before t (suc n) len,
    )

-- and the greatest of them, which the horizon ends
span-plain : (pair : PairParams) (incoming gross : List ℕ) (before t k : ℕ) → length incoming ≡ length gross → t < length gross
    → greatest (need (plain pair incoming gross) before t) k ≡ today.greatest_need pair incoming gross before t (min k (length gross - t))
span-plain pair incoming gross before t k len within =
    sym (greatest-horizon (plain pair incoming gross) before t k within) ∙ greatest-plain pair incoming gross before t (min k (length gross - t)) len

-- and so is the order
order_after-plain : (pair : PairParams) (incoming gross : List ℕ) (before t : ℕ) → length incoming ≡ length gross → t < length gross
    → order_after (plain pair incoming gross) before t ≡ today.order_after pair incoming gross before t
order_after-plain pair incoming gross before t len within =
    let needs = need (plain pair incoming gross) before t in
    let net = today.net_after pair incoming gross before t in
    let span : ℕ → ℕ = λ k. today.greatest_need pair incoming gross before t (min k (length gross - t)) in
    let lot = lot_for pair.rule needs in
    let sized : lot ≡ lot_of pair.rule net (span (periods_covered pair.rule)) =
    lot_for-is pair.rule needs net span (net-plain pair incoming gross before t len) (λ k. span-plain pair incoming gross before t k len within) in
    ap (λ (n : ℕ). if n == 0 then 0 else made_up no_policy lot) (net-plain pair incoming gross before t len)
    ∙ ap (λ (q : ℕ). if net == 0 then 0 else q) (made_up-none lot ∙ sized)

balance_before-plain : (pair : PairParams) (incoming gross : List ℕ) (t : ℕ) → length incoming ≡ length gross → t ≤ length gross
    → balance_before (plain pair incoming gross) t ≡ today.balance_before pair incoming gross t
unfolding balance_before today.balance_before
balance_before-plain pair incoming gross zero len within = refl
balance_before-plain pair incoming gross (suc t) len within =
    let d = plain pair incoming gross in
    let before = balance_before-plain pair incoming gross t len (omega arith) in
    let ordered = order_after-plain pair incoming gross (balance_before d t) t len (omega arith) in
    ap (λ (q : ℕ). (balance_before d t + q + order_after d (balance_before d t) t) - slice_index gross t) (incoming_at-plain pair incoming gross t)
    ∙ ap (λ (q : ℕ). (balance_before d t + slice_index incoming t + q) - slice_index gross t) ordered
    ∙ ap (λ (b : ℕ). today.available_after pair incoming gross b t) before

order_at-plain : (pair : PairParams) (incoming gross : List ℕ) (t : ℕ) → length incoming ≡ length gross → t < length gross
    → order_at (plain pair incoming gross) t ≡ today.order_at pair incoming gross t
unfolding order_at today.order_at
order_at-plain pair incoming gross t len within =
    let d = plain pair incoming gross in
    order_after-plain pair incoming gross (balance_before d t) t len within
    ∙ ap (λ (b : ℕ). today.order_after pair incoming gross b t) (balance_before-plain pair incoming gross t len (omega arith))

order_row-plain : (pair : PairParams) (incoming gross : List ℕ) → length incoming ≡ length gross
    → order_row (plain pair incoming gross) ≡ today.order_row pair incoming gross
order_row-plain pair incoming gross len = map-range-same _ _ (length gross) (λ t h. order_at-plain pair incoming gross t len h)

available_row-plain : (pair : PairParams) (incoming gross : List ℕ) → length incoming ≡ length gross
    → available_row (plain pair incoming gross) ≡ today.available_row pair incoming gross
available_row-plain pair incoming gross len =
    map-range-same (λ t. balance_before (plain pair incoming gross) (suc t)) (λ t. today.balance_before pair incoming gross (suc t)) (length gross)
    (λ t h. balance_before-plain pair incoming gross (suc t) len (omega arith))

-- periods whose orders aren't released in u count nothing
released_skips : (lead : ℕ) (order : List ℕ) (u m k : ℕ) → ((t : ℕ) → m ≤ t → t < m + k → (t - lead) ≢ u)
    → released lead order (m + k) u ≡ released lead order m u
released_skips lead order u m zero skips = let same : m + zero ≡ m = omega arith in ap (λ (n : ℕ). released lead order n u) same
released_skips lead order u m (suc k) skips =
    let next : m + suc k ≡ suc (m + k) = omega arith in
    let miss = cond-false (((m + k) - lead) == u) (slice_index order (m + k)) 0 (ne_eqb ((m + k) - lead) u (skips (m + k) (omega arith) (omega arith))) in
    ap (λ (n : ℕ). released lead order n u) next
    ∙ omega (
      arith,
      miss,
      sum_by-range-suc (λ t. if (t - lead) == u then slice_index order t else 0) (m + k),
      released_skips lead order u m k (λ t low high. skips t low (omega arith)),
    )

-- the first period whose order is released in u: in period 0 that of any order so far
record IsFirst (lead u first : ℕ) : Type 0 where
  pub early : (t : ℕ) → t < first → (t - lead) ≢ u
  pub at : (t : ℕ) → first ≤ t → t < u + lead + 1 → (t - lead) ≡ u

first_in_zero : (lead u first : ℕ) → u ≡ 0 → first ≡ 0 → IsFirst lead u first
first_in_zero lead u first none is = record {
  early = λ t h. absurd (omega arith);
  at = λ t low high. omega arith;
}

first_later : (lead u first : ℕ) → (u ≡ 0 → ⊥) → first ≡ u + lead → IsFirst lead u first
first_later lead u first some is = record {
  early = λ t h e. omega arith;
  at = λ t low high. omega arith;
}

released_before : (lead : ℕ) (order : List ℕ) (u first : ℕ) → IsFirst lead u first → released lead order first u ≡ 0
released_before lead order u first is =
    let same : first ≡ 0 + first = omega arith in
    ap (λ (n : ℕ). released lead order n u) same ∙ released_skips lead order u 0 first (λ t low high. is.early t (omega arith))

released_more : (lead : ℕ) (order : List ℕ) (u t : ℕ) → (t - lead) ≡ u → released lead order (t + 1) u ≡ released lead order t u + slice_index order t
released_more lead order u t at =
    let hit = cond-true ((t - lead) == u) (slice_index order t) 0 (eq-eqb (t - lead) u at) in
    omega (arith, hit, sum_by-range-more (λ (j : ℕ). if (j - lead) == u then slice_index order j else 0) t)

released_all : (lead : ℕ) (order : List ℕ) (u first n end t : ℕ) → IsFirst lead u first → end ≡ min n (u + lead + 1) → first ≤ t → end ≤ t
    → t ≤ max first end
    → released lead order t u ≡ released lead order n u
released_all lead order u first n end t is ends low high most =
    ⊎_elim
    (λ (past : n < t).
    let there : n + (t - n) ≡ t = omega arith in
    ap (λ (m : ℕ). released lead order m u) (sym there) ∙ released_skips lead order u n (t - n) (λ j from to. is.early j (omega arith)))
    (λ (within : t ≤ n).
    let there : t + (n - t) ≡ n = omega arith in
    sym (ap (λ (m : ℕ). released lead order m u) (sym there) ∙ released_skips lead order u t (n - t) (λ j from to e. omega arith)))
    (cases_lt n t)

-- the releases are the same: in period 0 all orders that are due within the lead time, then those a lead time later
early : (lead : ℕ) (order : List ℕ) (n : ℕ) → n ≤ suc lead → released lead order n 0 ≡ sum (take n order)
early lead order zero within = refl
early lead order (suc n) within =
    let next : n + 1 ≡ suc n = omega arith in
    let more = released_more lead order 0 n (omega arith) in
    let same : released lead order (suc n) 0 ≡ released lead order (n + 1) 0 = ap (λ (m : ℕ). released lead order m 0) (sym next) in
    omega (arith, same, more, early lead order n (omega arith), sum_take-suc order n)

released-zero : (lead : ℕ) (order : List ℕ) → released lead order (length order) 0 ≡ sum (take (suc lead) order)
released-zero lead order =
    let n = length order in
    let end = min n (suc lead) in
    let first : IsFirst lead 0 0 = first_in_zero lead 0 0 refl refl in
    let all = released_all lead order 0 0 n end end first (omega arith) (omega arith) (omega arith) (omega arith) in
    ⊎_elim
    (λ (short : n < suc lead).
    let here : end ≡ n = omega arith in
    sym all ∙ early lead order end (omega arith) ∙ ap (λ (m : ℕ). sum (take m order)) here
    ∙ ap sum (take_all n order (omega arith)) ∙ sym (ap sum (take_all (suc lead) order (omega arith))))
    (λ (long : suc lead ≤ n).
    let here : end ≡ suc lead = omega arith in
    sym all ∙ early lead order end (omega arith) ∙ ap (λ (m : ℕ). sum (take m order)) here)
    (cases_lt n (suc lead))

released-later : (lead : ℕ) (order : List ℕ) (u : ℕ) → 0 < u → released lead order (length order) u ≡ slice_index order (u + lead)
released-later lead order u later =
    let n = length order in
    let from = u + lead in
    let first : IsFirst lead u from = first_later lead u from (λ e. absurd (omega arith)) refl in
    let none = released_before lead order u from first in
    ⊎_elim
    (λ (inside : from < n).
    let all = released_all lead order u from n (min n (u + lead + 1)) (from + 1) first refl (omega arith) (omega arith) (omega arith) in
    omega (arith, all, none, released_more lead order u from (omega arith)))
    (λ (outside : n ≤ from).
    let all = released_all lead order u from n (min n (u + lead + 1)) from first refl (omega arith) (omega arith) (omega arith) in
    omega (arith, all, none, get_or_past order from 0 outside))
    (cases_lt from n)

pub release-plain : (pair : PairParams) (incoming gross order : List ℕ) (u : ℕ)
    → planned_release (plain pair incoming gross) order u ≡ released pair.lead order (length order) u
release-plain pair incoming gross order zero =
    let earliest_is : max pair.lead 0 ≡ pair.lead = omega arith in
    let here : 0 + pair.lead ≡ pair.lead = omega arith in
    planned_release-first (plain pair incoming gross) order 0 (here ∙ sym earliest_is)
    ∙ ap (λ (m : ℕ). sum (take (suc m) order)) here ∙ sym (released-zero pair.lead order)
release-plain pair incoming gross order (suc u) =
    planned_release-later (plain pair incoming gross) order (suc u) (omega arith) ∙ sym (released-later pair.lead order (suc u) (omega arith))

release_row-plain : (pair : PairParams) (incoming gross order : List ℕ) → length order ≡ length gross
    → release_row (plain pair incoming gross) order ≡ today.release_row pair.lead order
release_row-plain pair incoming gross order len =
    map-range-same (release_at (plain pair incoming gross) order) (released pair.lead order (length order)) (length gross)
    (λ u h. omega (arith, release-plain pair incoming gross order u))
    ∙ ap (λ (n : ℕ). map (released pair.lead order (length order)) (range_with_len 0 n)) (sym len)

pub late-plain : (pair : PairParams) (order : List ℕ) → late_orders (max pair.lead 0) order ≡ late_orders pair.lead order
late-plain pair order = let same : max pair.lead 0 ≡ pair.lead = omega arith in ap (λ (lead : ℕ). late_orders lead order) same

pub plain_is_today : PlainIsToday
unfolding one today.one
plain_is_today pair incoming gross len =
    let d = plain pair incoming gross in
    let ordered = order_row-plain pair incoming gross len in
    let count : length (today.order_row pair incoming gross) ≡ length gross =
    length-map-range_with_len (today.order_at pair incoming gross) 0 (length gross) in
    let come = incoming_row-plain pair incoming gross len in
    let release : release_row d (order_row d) ≡ today.release_row pair.lead (today.order_row pair incoming gross) =
    ap (release_row d) ordered ∙ release_row-plain pair incoming gross (today.order_row pair incoming gross) count in
    let late : late_orders (max pair.lead 0) (order_row d) ≡ late_orders pair.lead (today.order_row pair incoming gross) =
    ap (late_orders (max pair.lead 0)) ordered ∙ late-plain pair (today.order_row pair incoming gross) in
    let stock = available_row-plain pair incoming gross len in
    cc

pub plain_follows_rules : PlainFollowsRules
plain_follows_rules pair rows is =
    let same = plain_is_today pair rows.incoming rows.gross is.periods in (
      λ follows. rules-have_one_plan pair rows is follows ∙ sym same,
      λ e. subst (FollowsRules pair) (sym (e ∙ same)) (plan-follows_rules pair rows.incoming rows.gross is),
    )
