-- Advice: open orders that are needed alike in the first periods of two data of a pair.
use Rattle.std.proofs.Common.{◌≡◌, ℕ, zero, suc, ◌+◌, ◌-◌, ◌<◌, ◌≤◌, nat_lt, Bool, true, false, cond, List, length, take, refl, sym, ap, subst, ◌∙◌, arith}
use Rattle.std.proofs.Common.{⊎_elim, le-ltb}
use Rattle.std.specs.Prelude.{Option, Some}
use Rattle.std.specs.List.{find, range_with_len}
use Rattle.std.proofs.lemmas.Bool.{cases_lt, cond_both, false≢true}
use Rattle.mrp_netting.specs.declared.params.PairParams.{PairParams}
use Rattle.mrp_netting.specs.declared.planning_data.Policy.{Policy}
use Rattle.mrp_netting.specs.PlanningData.{PairData}
use Rattle.mrp_reach.proofs.AgreeingRows.{sum_take-agree}
use Rattle.mrp_reach.proofs.PairReach.{AreAgreeing, short-agrees, with_terms}
use Rattle.mrp_advice.specs.declared.orders.OpenOrder.{OpenOrder}
use Rattle.mrp_advice.specs.Beyond.{is_needed_below}
use Rattle.mrp_advice.specs.BeyondLaws.{IsNeededAlike}
use Rattle.mrp_advice.specs.Needed.{asked_by, has_before, may_come_sooner, needed, pieces_of, there_beside}
use Rattle.mrp_advice.specs.OpenOrders.{open_order_at}

-- ---- the first period that passes either of two tests

find_past : (p : ℕ → Bool) (a n w : ℕ) → w ≤ a → is_needed_below w (find p (range_with_len a n)) ≡ false
find_past p a zero w past = refl
find_past p a (suc n) w past =
    cond_both (p a) (Some a) (find p (range_with_len (a + 1) n)) (λ (o : Option ℕ). is_needed_below w o ≡ false)
    (λ here. le-ltb a w past) (λ later. find_past p (a + 1) n w (omega arith))

one_alike : (b : Bool) (w a : ℕ) (f g : Option ℕ) → IsNeededAlike w f g → IsNeededAlike w (cond b (Some a) f) (cond b (Some a) g)
one_alike true w a f g rest = record { same = λ is. refl; none = λ is. is }
one_alike false w a f g rest = rest

-- tests that pass alike in the first w periods find the same of these, or none of them
find_alike : (p q : ℕ → Bool) (a n m w : ℕ) → w ≤ a + n → n ≤ m → ((t : ℕ) → t < w → p t ≡ q t)
    → IsNeededAlike w (find p (range_with_len a n)) (find q (range_with_len a m))
find_alike p q a zero m w within longer same =
    record { same = λ is. absurd (false≢true is); none = λ is. find_past q a m w (omega arith) }
find_alike p q a (suc n) zero w within longer same = absurd (omega arith)
find_alike p q a (suc n) (suc m) w within longer same = ⊎_elim
    (λ (before : a < w).
    let f = find p (range_with_len (a + 1) n) in
    let g = find q (range_with_len (a + 1) m) in
    subst (λ (b : Bool). IsNeededAlike w (cond (p a) (Some a) f) (cond b (Some a) g)) (same a before)
    (one_alike (p a) w a f g (find_alike p q (a + 1) n m w (omega arith) (omega arith) same)))
    (λ (past : w ≤ a).
    record { same = λ is. absurd (false≢true (sym (find_past p a (suc n) w past) ∙ is)); none = λ is. find_past q a (suc m) w past })
    (cases_lt a w)

-- ---- two data of a pair that agree

module _ (whole : ℕ) (d e : PairData) (are : AreAgreeing whole d e) where
  abbrev other : PairData
  other = with_terms d e

  asked_alike : (t : ℕ) → t + d.policy.cover < whole → asked_by d t ≡ asked_by other t
  asked_alike t within = omega (arith, sum_take-agree whole d.gross e.gross are.gross (suc t + d.policy.cover) (omega arith))

  there_alike : (s : Bool) (t : ℕ) → t + d.policy.cover < whole → there_beside d s t ≡ there_beside other s t
  there_alike true t within =
      omega (
        arith,
        sum_take-agree (length d.gross) d.arrivals e.arrivals are.arrivals (suc t) (omega (arith, are.within)),
        sum_take-agree (length d.gross) d.firm_due e.firm_due are.firm_due (suc t) (omega (arith, are.within)),
      )
  there_alike false t within =
      omega (
        arith,
        sum_take-agree (length d.gross + d.policy.sooner) d.receipts e.receipts are.receipts (suc (t + d.policy.sooner)) (omega (arith, are.within)),
        short-agrees whole d e are t within,
      )

-- an order with the same orders before it
module _ (whole : ℕ) (d e : PairData) (are : AreAgreeing whole d e) (orders more : List OpenOrder) (i : ℕ)
    (order : open_order_at more i ≡ open_order_at orders i) (front : take i more ≡ take i orders) where
  abbrev same_terms : PairData
  same_terms = with_terms d e

  abbrev had_with : OpenOrder → List OpenOrder → ℕ → ℕ
  had_with o before t =
      d.params.on_hand + there_beside same_terms (may_come_sooner d.policy o) t + pieces_of d.policy (may_come_sooner d.policy o) before

  had_alike : (t : ℕ) → t + d.policy.cover < whole → has_before d orders i t ≡ has_before same_terms more i t
  had_alike t within =
      let sort : Bool = may_come_sooner d.policy (open_order_at orders i) in
      ap (λ (n : ℕ). d.params.on_hand + n + pieces_of d.policy sort (take i orders)) (there_alike whole d e are sort t within)
      ∙ ap (λ (o : OpenOrder). had_with o (take i orders) t) (sym order)
      ∙ ap (λ (before : List OpenOrder). had_with (open_order_at more i) before t) (sym front)

  others_alike : IsNeededAlike (whole - d.policy.cover) (needed d orders i) (needed same_terms more i)
  others_alike =
      find_alike (λ t. nat_lt (has_before d orders i t) (asked_by d t)) (λ t. nat_lt (has_before same_terms more i t) (asked_by same_terms t)) 0
      (length d.gross) (length e.gross) (whole - d.policy.cover) (omega (arith, are.within)) are.longer
      (λ t h.
      ap (λ (n : ℕ). nat_lt n (asked_by d t)) (had_alike t (omega arith))
      ∙ ap (nat_lt (has_before same_terms more i t)) (asked_alike whole d e are t (omega arith)))

  -- it is needed in the same period of those that are whole, or in none of them
  pub needed_alike : IsNeededAlike (whole - d.policy.cover) (needed d orders i) (needed e more i)
  needed_alike =
      let is_e : same_terms ≡ e =
      ap (λ (p : PairParams). record e { params = p; policy = d.policy }) (sym are.params) ∙ ap (λ (p : Policy). record e { policy = p }) (sym are.policy) in
      subst (λ (z : PairData). IsNeededAlike (whole - d.policy.cover) (needed d orders i) (needed z more i)) is_e others_alike
