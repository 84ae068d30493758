-- Reach of one pair whose data agree up to a period: how far its plans do.
use Rattle.std.specs.Prelude.{◌≡◌, ℕ, ◌+◌, ◌-◌, ◌≤◌, ◌<◌, ◌==◌, if◌then◌else◌, max, length, slice_index, zero, suc}
use Rattle.std.proofs.Common.{arith, refl, sym, ap, subst, ◌∙◌, ⊎_elim}
use Rattle.std.proofs.lemmas.Bool.{cases_eq, cases_lt}
use Rattle.mrp_lot.specs.declared.rule.Rule.{Rule}
use Rattle.mrp_lot.specs.declared.rule.Rule.TheVariants.{LotForLot, Fixed, Periods, MinMultiple}
use Rattle.mrp_lot.specs.Lot.{least_multiple_of}
use Rattle.mrp_netting.specs.declared.params.PairParams.{PairParams}
use Rattle.mrp_netting.specs.declared.planning_data.Policy.{Policy}
use Rattle.mrp_netting.specs.PlanRows.{PlanRows}
use Rattle.mrp_netting.specs.PlanningData.{PairData, lack, short, had, incoming_at, incoming_row, need, greatest, lot_for, made_up}
use Rattle.mrp_netting.specs.PlanningData.{order_after, available_after, balance_before, order_at, order_row, earliest, planned_release, one}
use Rattle.mrp_netting.proofs.Compared.{row_reads}
use Rattle.mrp_netting.proofs.DataLaws.{balance_before-zero, balance_before-suc, order_at-is}
use Rattle.mrp_netting.proofs.DataRows.{available-at, one-incoming, order-at, release-at}
use Rattle.mrp_netting.proofs.OneRows.{one-gross}
use Rattle.mrp_netting.proofs.PlannedReleases.{planned_release-first, planned_release-later, planned_release-none}
use Rattle.mrp_netting.proofs.ReceiptLaws.{incoming_at-is, incoming_row-at, short-suc, short-zero}
use Rattle.mrp_netting.proofs.TogetherLaws.{incoming-due}
use Rattle.mrp_reach.specs.Reach.{periods_joined}
use Rattle.mrp_reach.specs.ReachLaws.{AgreeBelow}
use Rattle.mrp_reach.proofs.AgreeingRows.{sum_from-agree, sum_take-agree}

-- two data of a pair: e has at least as many periods as d. In those of d as much arrives and is firmly ordered, and the
-- receipts that it may count are the same. The first `whole` periods have the same gross requirements
pub record AreAgreeing (whole : ℕ) (d e : PairData) : Type 0 where
  pub params : e.params ≡ d.params
  pub policy : e.policy ≡ d.policy
  pub within : whole ≤ length d.gross
  pub longer : length d.gross ≤ length e.gross
  pub fence : d.policy.fence ≤ length d.gross
  pub gross : AgreeBelow whole d.gross e.gross
  pub receipts : AgreeBelow (length d.gross + d.policy.sooner) d.receipts e.receipts
  pub arrivals : AgreeBelow (length d.gross) d.arrivals e.arrivals
  pub firm_start : AgreeBelow (length d.gross) d.firm_start e.firm_start
  pub firm_due : AgreeBelow (length d.gross) d.firm_due e.firm_due

-- how many periods beyond its own an order looks at
abbrev pub ahead : PairData → ℕ
ahead d = d.policy.cover + periods_joined d.params.rule

-- two plans of a pair say the same so far
pub record AreSame (whole : ℕ) (d : PairData) (a b : PlanRows) : Type 0 where
  pub gross : AgreeBelow whole a.gross b.gross
  pub incoming : AgreeBelow (whole - d.policy.cover) a.incoming b.incoming
  pub incoming_when_due : d.policy.sooner ≡ 0 → AgreeBelow (length d.gross) a.incoming b.incoming
  pub order : AgreeBelow (whole - ahead d) a.order b.order
  pub available : AgreeBelow (whole - ahead d) a.available b.available
  pub release : AgreeBelow (max (earliest d) (whole - ahead d) - d.params.lead) a.release b.release

greatest-zero : (needs : ℕ → ℕ) → greatest needs zero ≡ 0
unfolding greatest
greatest-zero needs = refl

greatest-suc : (needs : ℕ → ℕ) (n : ℕ) → greatest needs (suc n) ≡ max (greatest needs n) (needs (suc n))
unfolding greatest
greatest-suc needs n = refl

greatest-agrees : (a b : ℕ → ℕ) (k : ℕ) → ((n : ℕ) → n ≤ k → a n ≡ b n) → greatest a k ≡ greatest b k
greatest-agrees a b zero same = greatest-zero a ∙ sym (greatest-zero b)
greatest-agrees a b (suc k) same =
    let here = same (suc k) (omega arith) in
    let before = greatest-agrees a b k (λ n h. same n (omega arith)) in
    omega (arith, greatest-suc a k, greatest-suc b k, here, before)

-- a lot looks at the needs of its period and of those that its rule joins
lot_for-agrees : (rule : Rule) (a b : ℕ → ℕ) → ((n : ℕ) → n ≤ suc (periods_joined rule) → a n ≡ b n) → lot_for rule a ≡ lot_for rule b
lot_for-agrees LotForLot a b same = same 1 (omega arith)
lot_for-agrees (Fixed q) a b same = ap (λ (n : ℕ). least_multiple_of q n) (same 1 (omega arith))
lot_for-agrees (Periods k) a b same = greatest-agrees a b k (λ n h. same n (omega arith))
lot_for-agrees (MinMultiple m k) a b same = ap (λ (n : ℕ). least_multiple_of k (max n m)) (same 1 (omega arith))

-- the data of e with the terms of d, which are its own
abbrev pub with_terms : PairData → PairData → PairData
with_terms d e = record e { params = d.params; policy = d.policy }

module _ (whole : ℕ) (d e : PairData) (are : AreAgreeing whole d e) where
  abbrev other : PairData
  other = with_terms d e

  lack-agrees : (s : ℕ) → s + d.policy.cover < whole → lack d s ≡ lack other s
  lack-agrees s within =
      omega (
        arith,
        sum_take-agree whole d.gross e.gross are.gross (suc s + d.policy.cover) (omega arith),
        sum_take-agree (length d.gross) d.arrivals e.arrivals are.arrivals (suc s) (omega (arith, are.within)),
        sum_take-agree (length d.gross) d.firm_due e.firm_due are.firm_due (suc s) (omega (arith, are.within)),
      )

  pub short-agrees : (t : ℕ) → t + d.policy.cover < whole → short d t ≡ short other t
  short-agrees zero within = omega (arith, short-zero d, short-zero other, lack-agrees zero within)
  short-agrees (suc t) within =
      omega (arith, short-suc d t, short-suc other t, lack-agrees (suc t) within, short-agrees t (omega arith))

  had-agrees : (t : ℕ) → t + d.policy.cover < whole → had d t ≡ had other t
  had-agrees t within =
      let receipts = sum_take-agree (length d.gross + d.policy.sooner) d.receipts e.receipts are.receipts in
      omega (
        arith,
        short-agrees t within,
        receipts (suc t) (omega (arith, are.within)),
        receipts (suc (t + d.policy.sooner)) (omega (arith, are.within)),
      )

  incoming-agrees : (t : ℕ) → t + d.policy.cover < whole → incoming_at d t ≡ incoming_at other t
  incoming-agrees zero within =
      omega (
        arith,
        incoming_at-is d zero,
        incoming_at-is other zero,
        had-agrees zero within,
        are.arrivals zero (omega (arith, are.within)),
        are.firm_due zero (omega (arith, are.within)),
      )
  incoming-agrees (suc t) within =
      omega (
        arith,
        incoming_at-is d (suc t),
        incoming_at-is other (suc t),
        had-agrees t (omega arith),
        had-agrees (suc t) within,
        are.arrivals (suc t) (omega (arith, are.within)),
        are.firm_due (suc t) (omega (arith, are.within)),
      )

  incoming_when_due-agrees : (t : ℕ) → d.policy.sooner ≡ 0 → t < length d.gross → incoming_at d t ≡ incoming_at other t
  incoming_when_due-agrees t none within =
      omega (
        arith,
        incoming-due d t none,
        incoming-due other t none,
        are.receipts t (omega arith),
        are.arrivals t within,
        are.firm_due t within,
      )

  incoming_row-agrees : AgreeBelow (whole - d.policy.cover) (incoming_row d) (incoming_row other)
  incoming_row-agrees t within =
      omega (
        arith,
        incoming_row-at d t (omega (arith, are.within)),
        incoming_row-at other t (omega (arith, are.within, are.longer)),
        incoming-agrees t (omega arith),
      )

  need-agrees : (before t n : ℕ) → t + n + d.policy.cover ≤ whole → need d before t n ≡ need other before t n
  need-agrees before t n within =
      omega (
        arith,
        sum_from-agree whole d.gross e.gross are.gross t (n + d.policy.cover) (omega arith),
        sum_from-agree (whole - d.policy.cover) (incoming_row d) (incoming_row other) incoming_row-agrees t n (omega arith),
      )

  order_after-agrees : (before t : ℕ) → t + ahead d < whole → order_after d before t ≡ order_after other before t
  order_after-agrees before t within =
      let lot = lot_for-agrees d.params.rule (need d before t) (need other before t) (λ n h. need-agrees before t n (omega arith)) in
      ap (λ (n : ℕ). if n == 0 then 0 else made_up d.policy (lot_for d.params.rule (need d before t))) (need-agrees before t 1 (omega arith))
      ∙ ap (λ (l : ℕ). if need other before t 1 == 0 then 0 else made_up d.policy l) lot

  balance-agrees : (t : ℕ) → t + ahead d ≤ whole → balance_before d t ≡ balance_before other t
  balance-agrees zero within = balance_before-zero d ∙ sym (balance_before-zero other)
  balance-agrees (suc t) within =
      let before = balance_before d t in
      balance_before-suc d t
      ∙ omega (arith, incoming-agrees t (omega arith), order_after-agrees before t (omega arith), are.gross t (omega arith))
      ∙ ap (λ (b : ℕ). available_after other b t) (balance-agrees t (omega arith))
      ∙ sym (balance_before-suc other t)

  order-agrees : (t : ℕ) → t + ahead d < whole → order_at d t ≡ order_at other t
  order-agrees t within =
      order_at-is d t
      ∙ order_after-agrees (balance_before d t) t within
      ∙ ap (λ (b : ℕ). order_after other b t) (balance-agrees t (omega arith))
      ∙ sym (order_at-is other t)

  order_row-agrees : AgreeBelow (whole - ahead d) (order_row d) (order_row other)
  order_row-agrees t within =
      row_reads (order_at d) (order_row d) (length d.gross) t refl (omega (arith, are.within))
      ∙ order-agrees t (omega arith)
      ∙ sym (row_reads (order_at other) (order_row other) (length e.gross) t refl (omega (arith, are.within, are.longer)))

  planned_release-agrees : (u : ℕ) → u + d.params.lead < max (earliest d) (whole - ahead d)
      → planned_release d (order_row d) u ≡ planned_release other (order_row other) u
  planned_release-agrees u within =
      let due_in = u + d.params.lead in
      ⊎_elim
      (λ (soon : due_in < earliest d). planned_release-none d (order_row d) u soon ∙ sym (planned_release-none other (order_row other) u soon))
      (λ (rest : earliest d ≤ due_in).
      ⊎_elim
      (λ (first : due_in ≡ earliest d).
      planned_release-first d (order_row d) u first
      ∙ sum_take-agree (whole - ahead d) (order_row d) (order_row other) order_row-agrees (suc due_in) (omega arith)
      ∙ sym (planned_release-first other (order_row other) u first))
      (λ (later : due_in ≡ earliest d → ⊥).
      let after : earliest d < due_in = omega arith in
      planned_release-later d (order_row d) u after
      ∙ order_row-agrees due_in (omega arith)
      ∙ sym (planned_release-later other (order_row other) u after))
      (cases_eq due_in (earliest d)))
      (cases_lt due_in (earliest d))

  come_at : (p : PairData) (t : ℕ) → t < length p.gross → slice_index (one p).incoming t ≡ incoming_at p t
  come_at p t within = row_reads (incoming_at p) (one p).incoming (length p.gross) t (one-incoming p) within

  gross-same : AgreeBelow whole (one d).gross (one other).gross
  gross-same t within = omega (
    arith,
    ap (λ row. slice_index row t) (one-gross d),
    ap (λ row. slice_index row t) (one-gross other),
    are.gross t within,
  )

  incoming-same : AgreeBelow (whole - d.policy.cover) (one d).incoming (one other).incoming
  incoming-same t within =
      omega (
        arith,
        come_at d t (omega (arith, are.within)),
        come_at other t (omega (arith, are.within, are.longer)),
        incoming-agrees t (omega arith),
      )

  incoming_when_due-same : d.policy.sooner ≡ 0 → AgreeBelow (length d.gross) (one d).incoming (one other).incoming
  incoming_when_due-same none t within =
      omega (arith, come_at d t within, come_at other t (omega (arith, are.longer)), incoming_when_due-agrees t none within)

  order-same : AgreeBelow (whole - ahead d) (one d).order (one other).order
  order-same t within =
      omega (
        arith,
        order-at d t (omega (arith, are.within)),
        order-at other t (omega (arith, are.within, are.longer)),
        order-agrees t (omega arith),
      )

  available-same : AgreeBelow (whole - ahead d) (one d).available (one other).available
  available-same t within =
      omega (
        arith,
        available-at d t (omega (arith, are.within)),
        available-at other t (omega (arith, are.within, are.longer)),
        balance-agrees (suc t) (omega arith),
      )

  release-same : AgreeBelow (max (earliest d) (whole - ahead d) - d.params.lead) (one d).release (one other).release
  release-same u within =
      let short : u < length d.gross = omega (arith, are.within, are.fence) in
      omega (
        arith,
        release-at d u short,
        release-at other u (omega (arith, are.longer)),
        are.firm_start u short,
        planned_release-agrees u (omega arith),
      )

  others_same : AreSame whole d (one d) (one other)
  others_same = record {
    gross = gross-same;
    incoming = incoming-same;
    incoming_when_due = incoming_when_due-same;
    order = order-same;
    available = available-same;
    release = release-same;
  }

  -- so far their plans say the same
  pub plans_same : AreSame whole d (one d) (one e)
  plans_same =
      let is_e : other ≡ e =
      ap (λ (p : PairParams). record e { params = p; policy = d.policy }) (sym are.params) ∙ ap (λ (p : Policy). record e { policy = p }) (sym are.policy) in
      subst (λ (p : PairData). AreSame whole d (one d) (one p)) is_e others_same
