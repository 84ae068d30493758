-- Advice: what periods lack beside open orders, and when these are needed by it.
use Rattle.std.proofs.Common.{◌≡◌, ◌∙◌, ℕ, zero, suc, ◌+◌, ◌-◌, Bool, true, false, nat_lt, min, max, inl, inr, List, length, take, sum, slice_index}
use Rattle.std.proofs.Common.{refl, sym, ap, subst, arith, add-one}
use Rattle.std.specs.List.{find, range_with_len}
use Rattle.std.proofs.lemmas.Bool.{and_parts, cases_lt, le-ltb, lt-ltb, ltb-true}
use Rattle.std.proofs.lemmas.List.FromFn.{get_or-map-range_with_len, length-map-range_with_len}
use Rattle.mrp_qty.proofs.RangeLaws.{sum_take-suc}
use Rattle.mrp_netting.specs.Counting.{short_before}
use Rattle.mrp_netting.specs.PlanRows.{PlanRows}
use Rattle.mrp_netting.specs.PlanningBound.{IsWithinData, data_of}
use Rattle.mrp_netting.specs.PlanningData.{PairData, due, lack, short}
use Rattle.mrp_netting.specs.declared.params.PairParams.{PairParams}
use Rattle.mrp_netting.specs.declared.planning_data.PlanningData.{PlanningData}
use Rattle.mrp_netting.specs.declared.planning_data.Policy.{Policy}
use Rattle.mrp_netting.proofs.OneRows.{AreFirmRows, rows-same}
use Rattle.mrp_netting.proofs.ReceiptLaws.{short-suc, short-zero}
use Rattle.mrp_netting.proofs.RowSums.{sum_take-next}
use Rattle.mrp_master_data.specs.declared.rows.FirmRow.{FirmRow}
use Rattle.mrp_master_data.specs.Table.{Table, horizon}
use Rattle.mrp_net.specs.FirmOrders.{FirmPieces, due_in, firm_due, firm_start, starting_in}
use Rattle.mrp_net.specs.Plan.{gross, pair_data}
use Rattle.mrp_net.specs.Policies.{policy_of}
use Rattle.mrp_net.specs.Sums.{incoming as comes_in, params_at, received_sooner, row_of}
use Rattle.mrp_net.specs.declared.terms.PlanningTerms.{PlanningTerms}
use Rattle.mrp_plan.proofs.FirmGiven.{IsGiven}
use Rattle.mrp_advice.specs.declared.lacks.Lacks.{Lacks}
use Rattle.mrp_advice.specs.declared.orders.OpenOrder.{OpenOrder}
use Rattle.mrp_advice.specs.Lacking.{AreLacks, LacksBeside, first_lacking, lack_of_stock, lacking, lacks_of, needed_by}
use Rattle.mrp_advice.specs.Needed.{asked_by, has_before, may_come_sooner, needed, pieces_of, there_beside}
use Rattle.mrp_advice.specs.OpenOrders.{is_receipt, open_order_at}
use Rattle.mrp_advice.proofs.Finding.{find_same}
use Rattle.mrp_advice.proofs.PlainFacts.{none_due}
use Rattle.mrp_advice.proofs.SortNeeds.{has_is}

-- ---- an order is needed in the first period that lacks more than the orders of its sort before it

test_same : (pieces asked has : ℕ) → nat_lt pieces (asked - has) ≡ nat_lt (has + pieces) asked
test_same pieces asked has = elim (cases_lt (has + pieces) asked) [
  | inl less ↦ lt-ltb pieces (asked - has) (omega (arith, less)) ∙ sym (lt-ltb (has + pieces) asked less)
  | inr more ↦ le-ltb pieces (asked - has) (omega (arith, more)) ∙ sym (le-ltb (has + pieces) asked more)
]

module _ (d : PairData) (orders : List OpenOrder) (i : ℕ) where
  by_row : (s : Bool) (row : List ℕ) → LacksBeside d s row → may_come_sooner d.policy (open_order_at orders i) ≡ s
      → first_lacking row (pieces_of d.policy s (take i orders)) ≡ needed d orders i
  by_row s row is sort =
      let pieces = pieces_of d.policy s (take i orders) in
      ap (λ (n : ℕ). find (λ t. nat_lt pieces (slice_index row t)) (range_with_len 0 n)) is.size
      ∙ find_same (λ t. nat_lt pieces (slice_index row t)) (λ t. nat_lt (has_before d orders i t) (asked_by d t)) (length d.gross)
      (λ t h. ap (nat_lt pieces) (is.each t h)
      ∙ test_same pieces (asked_by d t) (d.params.on_hand + there_beside d s t)
      ∙ ap (λ (n : ℕ). nat_lt n (asked_by d t)) (sym (has_is d orders i t s sort)))

  by_sort : (lacks : Lacks) → AreLacks d lacks → (s : Bool) → may_come_sooner d.policy (open_order_at orders i) ≡ s
      → first_lacking (lacks_of lacks s) (pieces_of d.policy s (take i orders)) ≡ needed d orders i
  by_sort lacks are true sort =
      by_row true lacks.receipts
      (are.receipts (ltb-true 0 d.policy.sooner (and_parts (nat_lt 0 d.policy.sooner) (is_receipt (open_order_at orders i).kind) sort).0)) sort
  by_sort lacks are false sort = by_row false lacks.others are.others sort

  pub needed_by_is : (lacks : Lacks) → AreLacks d lacks → needed_by d.policy lacks orders i ≡ needed d orders i
  needed_by_is lacks are = by_sort lacks are (may_come_sooner d.policy (open_order_at orders i)) refl

-- ---- a pair whose receipts count when they come

pub lack_of_stock_is : (N : Table) (table : List PlanRows) (x : ℕ) → (policy_of N x).sooner ≡ 0 → (t : ℕ)
    → lack_of_stock (params_at N x) (policy_of N x).cover (pair_data N table x).gross t ≡ lacking (pair_data N table x) false t
lack_of_stock_is N table x none t =
    let d = pair_data N table x in
    omega (arith, none_due N table x none (t + d.policy.sooner))

-- ---- rows of firm planned orders that say the same

module _ (d : PairData) (starts dues : List ℕ) (is : IsWithinData d) (are : AreFirmRows d starts dues) where
  abbrev written : PairData
  written = record d { firm_start = starts; firm_due = dues }

  due_sums : (n : ℕ) → sum (take n dues) ≡ sum (take n d.firm_due)
  due_sums zero = refl
  due_sums (suc n) =
      omega (
        arith,
        due_sums n,
        sum_take-suc dues n,
        sum_take-suc d.firm_due n,
        rows-same dues d.firm_due (length d.gross) are.few_dues is.firm_due are.due n,
      )

  short_same : (t : ℕ) → short written t ≡ short d t
  short_same zero = omega (arith, short-zero written, short-zero d, due_sums (suc zero))
  short_same (suc t) = omega (arith, short-suc written t, short-suc d t, short_same t, due_sums (suc (suc t)))

  lacking_same : (s : Bool) (t : ℕ) → lacking written s t ≡ lacking d s t
  lacking_same true t = omega (arith, due_sums (suc t))
  lacking_same false t = omega (arith, short_same t)

  pub beside_same : (s : Bool) (row : List ℕ) → LacksBeside written s row → LacksBeside d s row
  beside_same s row lacks = record { size = lacks.size; each = λ t h. lacks.each t h ∙ lacking_same s t }

-- what is found from rows that were written for its firm planned orders is so of the pair
pub given_beside : (N : Table) (table : List PlanRows) (x : ℕ) (given : PlanningData) (terms : PlanningTerms) (incoming : List ℕ) (periods : ℕ)
    (rows : FirmPieces) → IsGiven N x given terms incoming periods rows → (g : List ℕ) → g ≡ row_of N (gross N table x)
    → IsWithinData (pair_data N table x) → (s : Bool) (row : List ℕ) → LacksBeside (data_of given g) s row → LacksBeside (pair_data N table x) s row
given_beside N table x given terms incoming periods rows is g same within s row lacks =
    let d = pair_data N table x in
    let size = length-map-range_with_len (gross N table x) 0 (horizon N) in
    let with : PairParams → Policy → List ℕ → List ℕ → List ℕ → PairData =
    λ params policy receipts arrivals required. record {
      params = params;
      policy = policy;
      receipts = receipts;
      arrivals = arrivals;
      firm_start = rows.start;
      firm_due = rows.due;
      gross = required;
    } in
    let receipts = terms.receipts.now in
    let moved : data_of given g ≡ record d { firm_start = rows.start; firm_due = rows.due } =
    is.given_is g
    ∙ ap (λ (p : PairParams). with p terms.policy receipts incoming g) is.are.params_are
    ∙ ap (λ (p : Policy). with (params_at N x) p receipts incoming g) is.are.policy_is
    ∙ ap (λ (r : List ℕ). with (params_at N x) (policy_of N x) r incoming g) is.are.receipts_are
    ∙ ap (λ (r : List ℕ). with (params_at N x) (policy_of N x) (received_sooner N x) r g) is.incoming_is
    ∙ ap (λ (r : List ℕ). with (params_at N x) (policy_of N x) (received_sooner N x) (row_of N (comes_in N x)) r) same in
    let firms : AreFirmRows d rows.start rows.due = record {
      few_starts = omega (arith, size, is.few_starts, is.horizon_is);
      few_dues = omega (arith, size, is.few_dues, is.horizon_is);
      start = λ t h.
          is.start t (omega (arith, size, is.horizon_is)) ∙ ap (λ (fs : List FirmRow). starting_in fs t) is.are.orders_are
          ∙ sym (get_or-map-range_with_len (firm_start N x) 0 (horizon N) t t 0 (omega (arith, size)) (omega arith));
      due = λ t h.
          is.due t (omega (arith, size, is.horizon_is)) ∙ ap (λ (fs : List FirmRow). due_in fs t) is.are.orders_are
          ∙ sym (get_or-map-range_with_len (firm_due N x) 0 (horizon N) t t 0 (omega (arith, size)) (omega arith));
    } in
    beside_same d rows.start rows.due within firms s row (subst (λ (e : PairData). LacksBeside e s row) moved lacks)

-- ---- one period of the loop that writes both rows

-- the running sums before period t
pub record IsCountTo (d : PairData) (t could asked has lacked : ℕ) : Type 0 where
  pub could_is : could ≡ sum (take (t + d.policy.sooner) d.receipts)
  pub asked_is : asked ≡ d.params.safety + sum (take (t + d.policy.cover) d.gross)
  pub has_is : has ≡ d.params.on_hand + sum (take t d.arrivals) + sum (take t d.firm_due)
  pub lacked_is : lacked ≡ short_before d t

short-next : (d : PairData) (t : ℕ) → short d t ≡ max (short_before d t) (lack d t)
short-next d zero = omega (arith, short-zero d)
short-next d (suc t) = short-suc d t

-- a period further in a row that is looked at ahead
ahead_next : (row : List ℕ) (t k : ℕ) → sum (take (t + 1 + k) row) ≡ sum (take (t + k) row) + slice_index row (t + k)
ahead_next row t k =
    let next = ap (λ (n : ℕ). sum (take n row)) (let e : t + 1 + k ≡ suc (t + k) = omega arith in e) in
    omega (arith, next, sum_take-suc row (t + k))

pub record IsLack (d : PairData) (t could asked has lacked : ℕ) : Type 0 where
  pub next : IsCountTo d (t + 1) could asked has lacked
  pub receipts : asked - has ≡ lacking d true t
  pub others : asked - (d.params.on_hand + min could lacked) ≡ lacking d false t

pub lack_step : (d : PairData) (t could asked has lacked could2 asked2 has2 lacked2 : ℕ) → IsCountTo d t could asked has lacked
    → could2 ≡ could + slice_index d.receipts (t + d.policy.sooner) → asked2 ≡ asked + slice_index d.gross (t + d.policy.cover)
    → has2 ≡ has + (slice_index d.arrivals t + slice_index d.firm_due t) → lacked2 ≡ max (asked2 - has2) lacked
    → IsLack d t could2 asked2 has2 lacked2
lack_step d t could asked has lacked could2 asked2 has2 lacked2 is c a h l =
    let cover = ap (λ (m : ℕ). sum (take m d.gross)) (let e : suc t + d.policy.cover ≡ suc (t + d.policy.cover) = omega arith in e) in
    let could_be : could2 ≡ due d (t + d.policy.sooner) = omega (arith, c, is.could_is, sum_take-suc d.receipts (t + d.policy.sooner)) in
    let asked_be : asked2 ≡ asked_by d t = omega (arith, a, is.asked_is, cover, sum_take-suc d.gross (t + d.policy.cover)) in
    let has_be : has2 ≡ d.params.on_hand + sum (take (suc t) d.arrivals) + sum (take (suc t) d.firm_due) =
    omega (arith, h, is.has_is, sum_take-suc d.arrivals t, sum_take-suc d.firm_due t) in
    let short_be : lacked2 ≡ short d t = omega (arith, l, asked_be, has_be, is.lacked_is, short-next d t) in
    let past : short_before d (t + 1) ≡ short d t = ap (short_before d) (add-one t) in
    record {
      next = record {
        could_is = omega (arith, c, is.could_is, ahead_next d.receipts t d.policy.sooner);
        asked_is = omega (arith, a, is.asked_is, ahead_next d.gross t d.policy.cover);
        has_is = omega (arith, h, is.has_is, sum_take-next d.arrivals t, sum_take-next d.firm_due t);
        lacked_is = omega (arith, short_be, past);
      };
      receipts = omega (arith, asked_be, has_be);
      others = omega (arith, asked_be, could_be, short_be);
    }
