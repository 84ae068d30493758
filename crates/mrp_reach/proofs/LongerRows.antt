-- Reach: a table that goes on where another one ends has that one's edges and policies, and in
-- that one's periods its amounts.
use Rattle.std.specs.Prelude.{◌≡◌, ℕ, ◌+◌, ◌≤◌, ◌<◌, ◌==◌, ◌&&◌, ◌⊎◌, nat_lt, if◌then◌else◌, Bool, true, false, List, [], ◌∷◌, length, map, slice_index}
use Rattle.std.specs.Prelude.{filter, sum_by, All}
use Rattle.std.specs.List.{range_with_len}
use Rattle.std.proofs.Common.{arith, refl, sym, ap, ◌∙◌, cond, get_or, ⊎_elim, ne_eqb}
use Rattle.std.proofs.lemmas.Bool.{cases_eq, cases_lt, cond-false, ltb-false}
use Rattle.std.proofs.lemmas.List.{get_or_past}
use Rattle.std.proofs.lemmas.List.Elements.{All-head, All-tail}
use Rattle.std.proofs.lemmas.List.FromFn.{get_or-map-range_with_len, length-map-range_with_len}
use Rattle.std.proofs.lemmas.List.Sums.{sum_by-cons}
use Rattle.mrp_netting.specs.declared.planning_data.Policy.{Policy}
use Rattle.mrp_grouping.specs.Groups.{group, sorted_by}
use Rattle.mrp_grouping.proofs.Kept.{sum_filter}
use Rattle.mrp_grouping.proofs.Sorting.{filter_comm}
use Rattle.mrp_master_data.specs.declared.rows.BillRow.{BillRow}
use Rattle.mrp_master_data.specs.declared.rows.DemandRow.{DemandRow}
use Rattle.mrp_master_data.specs.declared.rows.FirmRow.{FirmRow}
use Rattle.mrp_master_data.specs.declared.rows.PairRow.{PairRow}
use Rattle.mrp_master_data.specs.declared.rows.PolicyRow.{PolicyRow}
use Rattle.mrp_master_data.specs.declared.rows.ReceiptRow.{ReceiptRow}
use Rattle.mrp_master_data.specs.declared.rows.ShipRow.{ShipRow}
use Rattle.mrp_master_data.specs.declared.rows.SourceRow.{SourceRow}
use Rattle.mrp_master_data.specs.Table.{Table, IsTable, horizon}
use Rattle.mrp_net.specs.declared.edge.Edge.{Edge}
use Rattle.mrp_net.specs.Edges.{demanders, edges}
use Rattle.mrp_net.specs.FirmOrders.{firm_due, firm_start, firms_of, due_in, starting_in}
use Rattle.mrp_net.specs.Policies.{first_policy, policy_of}
use Rattle.mrp_net.specs.Sums.{demand, incoming, no_pair, pair_at, received, received_sooner, received_when_due, row_of, shipped}
use Rattle.mrp_net.proofs.Covering.{sum_by-same}
use Rattle.mrp_net.proofs.Firms.{firms_in}
use Rattle.mrp_net.proofs.Sooner.{received_sooner-all, received_sooner-none}
use Rattle.mrp_reach.specs.Lengthening.{Lengthens}
use Rattle.mrp_reach.specs.ReachLaws.{AgreeBelow}

-- ---- sums over what a filter keeps

counted : (b : Bool) (n : ℕ) → (b ≡ false → n ≡ 0) → cond b n 0 ≡ n
counted true n none = refl
counted false n none = sym (none refl)

-- rows that count nothing can be left out
pub sum_kept : {X : Type 0} (f : X → ℕ) (p : X → Bool) (xs : List X) → All (λ x. p x ≡ false → f x ≡ 0) xs → sum_by f (filter p xs) ≡ sum_by f xs
sum_kept f p xs none =
    sum_filter f p xs
    ∙ sum_by-same (λ x. cond (p x) (f x) 0) f xs (λ k d h. counted (p (get_or xs k d)) (f (get_or xs k d)) (none k d h))

sum_none : {X : Type 0} (f : X → ℕ) (xs : List X) → All (λ x. f x ≡ 0) xs → sum_by f xs ≡ 0
sum_none f [] none = refl
sum_none f (x ∷ xs) none =
    omega (arith, sum_by-cons f x xs, All-head (λ x. f x ≡ 0) x xs none, sum_none f xs (All-tail (λ x. f x ≡ 0) x xs none))

-- a row of another period counts nothing
other_period : (b : Bool) (period t v : ℕ) → (period ≡ t → ⊥) → (if b && (period == t) then v else 0) ≡ 0
other_period true period t v other = cond-false (period == t) v 0 (ne_eqb period t other)
other_period false period t v other = refl

later_period : (period n t : ℕ) → t < n → nat_lt period n ≡ false → period ≡ t → ⊥
later_period period n t within past same = let low : n ≤ period = ltb-false period n past in omega arith

-- rows of a period before n
pub sum_before : {X : Type 0} (test : X → Bool) (period quantity : X → ℕ) (n t : ℕ) (rows : List X) → t < n
    → sum_by (λ r. if test r && (period r == t) then quantity r else 0) (filter (λ r. nat_lt (period r) n) rows)
    ≡ sum_by (λ r. if test r && (period r == t) then quantity r else 0) rows
sum_before test period quantity n t rows within =
    sum_kept (λ r. if test r && (period r == t) then quantity r else 0) (λ r. nat_lt (period r) n) rows
    (λ k d h past. let r = get_or rows k d in
    other_period (test r) (period r) t (quantity r) (later_period (period r) n t within past))

-- a receipt that comes before the horizon, or more than SOONER periods behind it
between_none : (sooner : ℕ → ℕ) (n x t pair period v : ℕ) → n ≤ t → t < n + sooner x → (period < n) ⊎ (n + sooner pair ≤ period)
    → (if (pair == x) && (period == t) then v else 0) ≡ 0
between_none sooner n x t pair period v low high comes =
    ⊎_elim
    (λ (same : pair ≡ x).
    let ends : sooner pair ≡ sooner x = ap sooner same in
    other_period (pair == x) period t v
    (λ at. ⊎_elim (λ (before : period < n). omega arith) (λ (behind : n + sooner pair ≤ period). omega arith) comes))
    (λ (other : pair ≡ x → ⊥). ap (λ (b : Bool). if b && (period == t) then v else 0) (ne_eqb pair x other))
    (cases_eq pair x)

-- ---- rows of amounts

row_past : (f : ℕ → ℕ) (n t : ℕ) → n ≤ t → slice_index (map f (range_with_len 0 n)) t ≡ 0
row_past f n t past = get_or_past (map f (range_with_len 0 n)) t 0 (omega (arith, length-map-range_with_len f 0 n))

row_within : (f : ℕ → ℕ) (n t : ℕ) → t < n → slice_index (map f (range_with_len 0 n)) t ≡ f t
row_within f n t within = get_or-map-range_with_len f 0 n t t 0 within (omega arith)

-- rows of n and of m periods, where the longer one has nothing in the next s periods
pub rows_agree : (f g : ℕ → ℕ) (n m s : ℕ) → n ≤ m → ((t : ℕ) → t < n → f t ≡ g t) → ((t : ℕ) → n ≤ t → t < n + s → g t ≡ 0)
    → AgreeBelow (n + s) (map f (range_with_len 0 n)) (map g (range_with_len 0 m))
rows_agree f g n m s longer same none t within =
    ⊎_elim
    (λ (before : t < n). row_within f n t before ∙ same t before ∙ sym (row_within g m t (omega arith)))
    (λ (behind : n ≤ t).
    ⊎_elim
    (λ (there : t < m). row_past f n t behind ∙ sym (none t behind within) ∙ sym (row_within g m t there))
    (λ (past : m ≤ t). row_past f n t behind ∙ sym (row_past g m t past))
    (cases_lt t m))
    (cases_lt t n)

pub rows_agree_within : (f g : ℕ → ℕ) (n m whole : ℕ) → n ≤ m → whole ≤ n → ((t : ℕ) → t < whole → f t ≡ g t)
    → AgreeBelow whole (map f (range_with_len 0 n)) (map g (range_with_len 0 m))
rows_agree_within f g n m whole longer short same t within =
    row_within f n t (omega arith) ∙ same t within ∙ sym (row_within g m t (omega arith))

-- ---- the table that goes on

module _ (N M : Table) (goes_on : Lengthens N M) where
  pub pair-same : (x : ℕ) → pair_at N x ≡ pair_at M x
  pair-same x = ap (λ (rows : List PairRow). get_or rows x no_pair) (sym goes_on.pairs)

  pub policy-same : (x : ℕ) → policy_of N x ≡ policy_of M x
  policy-same x = ap (λ (rows : List PolicyRow). first_policy (group (λ p. p.pair.0) x rows)) (sym goes_on.policies)

  pub edges-same : edges N ≡ edges M
  edges-same =
      ap (λ (rows : List PairRow). edges (record N { pairs = rows })) (sym goes_on.pairs)
      ∙ ap (λ (rows : List BillRow). edges (record N { pairs = M.pairs; bills = rows })) (sym goes_on.bills)
      ∙ ap (λ (rows : List SourceRow). edges (record N { pairs = M.pairs; bills = M.bills; sources = rows })) (sym goes_on.sources)

  pub demanders-same : (x : ℕ) → demanders N x ≡ demanders M x
  demanders-same x =
      ap (λ (rows : List PairRow). sorted_by (λ e. e.demander.0) (length rows) (group (λ e. e.pair.0) x (edges N))) (sym goes_on.pairs)
      ∙ ap (λ (es : List Edge). sorted_by (λ e. e.demander.0) (length M.pairs) (group (λ e. e.pair.0) x es)) edges-same

  pub demand-same : (x t : ℕ) → t < horizon N → demand N x t ≡ demand M x t
  demand-same x t within =
      ap (λ (rows : List DemandRow). sum_by (λ d. if (d.pair.0 == x) && (d.period == t) then d.quantity else 0) rows) (sym goes_on.demands)
      ∙ sum_before (λ (d : DemandRow). d.pair.0 == x) (λ d. d.period) (λ d. d.quantity) (horizon N) t M.demands within

  received-same : (x t : ℕ) → t < horizon N → received N x t ≡ received M x t
  received-same x t within =
      ap (λ (rows : List ReceiptRow). sum_by (λ r. if (r.pair.0 == x) && (r.period == t) then r.quantity else 0) rows) (sym goes_on.receipts)
      ∙ sum_before (λ (r : ReceiptRow). r.pair.0 == x) (λ r. r.period) (λ r. r.quantity) (horizon N) t M.receipts within

  shipped-same : (x t : ℕ) → t < horizon N → shipped N x t ≡ shipped M x t
  shipped-same x t within =
      ap (λ (rows : List ShipRow). sum_by (λ s. if (s.pair.0 == x) && (s.period == t) then s.quantity else 0) rows) (sym goes_on.ships)
      ∙ sum_before (λ (s : ShipRow). s.pair.0 == x) (λ s. s.period) (λ s. s.quantity) (horizon N) t M.ships within

  -- nothing is received in the periods of SOONER behind the horizon
  received-none : (x t : ℕ) → horizon N ≤ t → t < horizon N + (policy_of N x).sooner → received M x t ≡ 0
  received-none x t low high =
      sum_none (λ (r : ReceiptRow). if (r.pair.0 == x) && (r.period == t) then r.quantity else 0) M.receipts
      (λ k d h. let r = get_or M.receipts k d in
      between_none (λ y. (policy_of N y).sooner) (horizon N) x t r.pair.0 r.period r.quantity low high (goes_on.later_receipts k d h))

  pub receipts-agree : (x : ℕ) → AgreeBelow (horizon N + (policy_of N x).sooner) (received_sooner N x) (received_sooner M x)
  receipts-agree x t within =
      let same : (policy_of N x).sooner ≡ (policy_of M x).sooner = ap (λ (p : Policy). p.sooner) (policy-same x) in
      ⊎_elim
      (λ (some : 0 < (policy_of N x).sooner).
      ap (λ (row : List ℕ). slice_index row t) (received_sooner-all N x some)
      ∙ rows_agree (received N x) (received M x) (horizon N) (horizon M) (policy_of N x).sooner goes_on.longer (received-same x) (received-none x) t within
      ∙ sym (ap (λ (row : List ℕ). slice_index row t) (received_sooner-all M x (omega arith))))
      (λ (none : (policy_of N x).sooner ≤ 0).
      ap (λ (row : List ℕ). slice_index row t) (received_sooner-none N x (omega arith))
      ∙ sym (ap (λ (row : List ℕ). slice_index row t) (received_sooner-none M x (omega arith))))
      (cases_lt 0 (policy_of N x).sooner)

  incoming-same : (x t : ℕ) → t < horizon N → incoming N x t ≡ incoming M x t
  incoming-same x t within =
      ap (λ (q : ℕ). (if nat_lt 0 (policy_of N x).sooner then 0 else q) + shipped N x t) (received-same x t within)
      ∙ ap (λ (p : Policy). (if nat_lt 0 p.sooner then 0 else received M x t) + shipped N x t) (policy-same x)
      ∙ ap (λ (q : ℕ). received_when_due M x t + q) (shipped-same x t within)

  pub incoming-agree : (x : ℕ) → AgreeBelow (horizon N) (row_of N (incoming N x)) (row_of M (incoming M x))
  incoming-agree x = rows_agree_within (incoming N x) (incoming M x) (horizon N) (horizon M) (horizon N) goes_on.longer (omega arith) (incoming-same x)

  -- the firm planned orders of a pair that are released before the horizon
  firms-kept : (x : ℕ) → firms_of N x ≡ filter (λ f. nat_lt f.start (horizon N)) (firms_of M x)
  firms-kept x =
      ap (λ (rows : List FirmRow). group (λ f. f.pair.0) x rows) (sym goes_on.firms)
      ∙ filter_comm (λ (f : FirmRow). f.pair.0 == x) (λ (f : FirmRow). nat_lt f.start (horizon N)) M.firms

  firm_start-same : (x t : ℕ) → t < horizon N → firm_start N x t ≡ firm_start M x t
  firm_start-same x t within =
      ap (λ (rows : List FirmRow). starting_in rows t) (firms-kept x)
      ∙ sum_kept (λ (f : FirmRow). if f.start == t then f.quantity else 0) (λ (f : FirmRow). nat_lt f.start (horizon N)) (firms_of M x)
      (λ k d h past. let f = get_or (firms_of M x) k d in
      other_period true f.start t f.quantity (later_period f.start (horizon N) t within past))

  pub firm_start-agree : (x : ℕ)
      → AgreeBelow (horizon N) (map (starting_in (firms_of N x)) (range_with_len 0 (horizon N))) (map (starting_in (firms_of M x)) (range_with_len 0 (horizon M)))
  firm_start-agree x =
      rows_agree_within (firm_start N x) (firm_start M x) (horizon N) (horizon M) (horizon N) goes_on.longer (omega arith) (firm_start-same x)

  -- the others are due behind it
  firm_due-same : IsTable M → (x t : ℕ) → t < horizon N → firm_due N x t ≡ firm_due M x t
  firm_due-same table x t within =
      ap (λ (rows : List FirmRow). due_in rows t) (firms-kept x)
      ∙ sum_kept (λ (f : FirmRow). if f.due == t then f.quantity else 0) (λ (f : FirmRow). nat_lt f.start (horizon N)) (firms_of M x)
      (λ k d h past.
      let f = get_or (firms_of M x) k d in
      let started : horizon N ≤ f.start = ltb-false f.start (horizon N) past in
      let due_later : f.start ≤ f.due = (firms_in M x table k d h).start in
      other_period true f.due t f.quantity (λ (at : f.due ≡ t). omega arith))

  pub firm_due-agree : IsTable M → (x : ℕ)
      → AgreeBelow (horizon N) (map (due_in (firms_of N x)) (range_with_len 0 (horizon N))) (map (due_in (firms_of M x)) (range_with_len 0 (horizon M)))
  firm_due-agree table x =
      rows_agree_within (firm_due N x) (firm_due M x) (horizon N) (horizon M) (horizon N) goes_on.longer (omega arith) (firm_due-same table x)
