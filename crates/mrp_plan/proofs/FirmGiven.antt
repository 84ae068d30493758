-- The plan of the whole network: what it makes a pair's plan from, the terms that the network gives, where rows are
-- written for its firm planned orders.
use Rattle.std.proofs.Common.{◌≡◌, ℕ, ◌<◌, ◌≤◌, List, length, sum_by, slice_index, sym, ap, ◌∙◌, subst, arith}
use Rattle.std.specs.List.{All}
use Rattle.std.proofs.lemmas.List.FromFn.{get_or-map-range_with_len, length-map-range_with_len}
use Rattle.mrp_qty.specs.declared.quantity.TheConstants.{MOST}
use Rattle.mrp_netting.specs.PlanRows.{PlanRows}
use Rattle.mrp_netting.specs.PlanningBound.{IsWithinData, data_of}
use Rattle.mrp_netting.specs.PlanningData.{PairData, PairTerms, planned, one}
use Rattle.mrp_netting.specs.declared.params.PairParams.{PairParams}
use Rattle.mrp_netting.specs.declared.planning_data.PlanningData.{PlanningData}
use Rattle.mrp_netting.specs.declared.planning_data.Policy.{Policy}
use Rattle.mrp_netting.proofs.OneRows.{AreFirmRows, firm_rows-same, firm_rows-within}
use Rattle.mrp_master_data.specs.declared.rows.FirmRow.{FirmRow}
use Rattle.mrp_master_data.specs.Table.{Table, IsTable, horizon}
use Rattle.mrp_net.specs.FirmOrders.{FirmPieces, firms_of, starting_in, due_in, firm_start, firm_due, firm_total}
use Rattle.mrp_net.specs.Plan.{gross, pair_data, pair_plan}
use Rattle.mrp_net.specs.Policies.{policy_of}
use Rattle.mrp_net.specs.Terms.{terms_given, terms_of}
use Rattle.mrp_net.specs.declared.terms.PlanningTerms.{PlanningTerms}
use Rattle.mrp_net.specs.Sums.{incoming as comes_in, params_at, received_sooner, row_of, terms_at}
use Rattle.mrp_net.proofs.Firms.{starts_within, dues_within, firm_total-is}

-- the orders of a pair can be written
module _ (N : Table) (x : ℕ) (orders : List FirmRow) (is : IsTable N) (are : orders ≡ firms_of N x) where
  pub orders_start : (periods : ℕ) → periods ≡ horizon N → All (λ f. f.start < periods) orders
  orders_start periods same =
      subst (λ (n : ℕ). All (λ (f : FirmRow). f.start < n) orders) (sym same)
      (subst (λ (fs : List FirmRow). All (λ (f : FirmRow). f.start < horizon N) fs) (sym are) (starts_within N x is))

  pub orders_due : (periods : ℕ) → periods ≡ horizon N → All (λ f. f.due < periods) orders
  orders_due periods same =
      subst (λ (n : ℕ). All (λ (f : FirmRow). f.due < n) orders) (sym same)
      (subst (λ (fs : List FirmRow). All (λ (f : FirmRow). f.due < horizon N) fs) (sym are) (dues_within N x is))

  pub orders_total : firm_total N x ≤ MOST → sum_by (λ f. f.quantity) orders ≤ MOST
  orders_total within = omega (arith, ap (λ (fs : List FirmRow). sum_by (λ (f : FirmRow). f.quantity) fs) are, firm_total-is N x, within)

-- what planners say of a pair, as the network gives it
pub record AreTerms (N : Table) (x : ℕ) (terms : PlanningTerms) : Type 0 where
  pub params_are : terms.params ≡ params_at N x
  pub policy_is : terms.policy ≡ policy_of N x
  pub receipts_are : terms.receipts.now ≡ received_sooner N x
  pub orders_are : terms.orders.now ≡ firms_of N x

-- what the table says of a pair is what it is planned from
pub same_data : (N : Table) (table : List PlanRows) (x n : ℕ) (terms : PlanningTerms) (incoming g : List ℕ) → n ≡ horizon N → AreTerms N x terms
    → incoming ≡ row_of N (comes_in N x) → g ≡ row_of N (gross N table x)
    → planned (terms_given n terms) incoming g ≡ pair_data N table x
same_data N table x n terms incoming g periods_are are incoming_is gross_is =
    let orders = terms.orders.now in
    let receipts = terms.receipts.now in
    let N_terms = terms_of (horizon N) in
    ap (λ (m : ℕ). planned (terms_given m terms) incoming g) periods_are
    ∙ ap (λ (p : PairParams). planned (N_terms p terms.policy receipts orders) incoming g) are.params_are
    ∙ ap (λ (p : Policy). planned (N_terms (params_at N x) p receipts orders) incoming g) are.policy_is
    ∙ ap (λ (row : List ℕ). planned (N_terms (params_at N x) (policy_of N x) row orders) incoming g) are.receipts_are
    ∙ ap (λ (fs : List FirmRow). planned (N_terms (params_at N x) (policy_of N x) (received_sooner N x) fs) incoming g) are.orders_are
    ∙ ap (λ (row : List ℕ). planned (terms_at N x) row g) incoming_is
    ∙ ap (λ (row : List ℕ). planned (terms_at N x) (row_of N (comes_in N x)) row) gross_is

-- terms with these rows of firm planned orders
abbrev with_rows : PairParams → Policy → List ℕ → FirmPieces → PairTerms
with_rows params policy receipts rows = record {
  params = params;
  policy = policy;
  receipts = receipts;
  firm_start = rows.start;
  firm_due = rows.due;
}

-- rows that were written for the orders of these terms, and the data that has them
pub record IsGiven (N : Table) (x : ℕ) (given : PlanningData) (terms : PlanningTerms) (incoming : List ℕ) (periods : ℕ) (rows : FirmPieces) : Type 0 where
  pub horizon_is : periods ≡ horizon N
  pub are : AreTerms N x terms
  pub incoming_is : incoming ≡ row_of N (comes_in N x)
  pub start : (t : ℕ) → t < periods → slice_index rows.start t ≡ starting_in terms.orders.now t
  pub due : (t : ℕ) → t < periods → slice_index rows.due t ≡ due_in terms.orders.now t
  pub few_starts : length rows.start ≤ periods
  pub few_dues : length rows.due ≤ periods
  pub given_is : (g : List ℕ) → data_of given g ≡ planned (with_rows terms.params terms.policy terms.receipts.now rows) incoming g

module _ (N : Table) (x : ℕ) (given : PlanningData) (terms : PlanningTerms) (incoming : List ℕ) (periods : ℕ) (rows : FirmPieces)
    (is : IsGiven N x given terms incoming periods rows) (table : List PlanRows) (g : List ℕ) (same : g ≡ row_of N (gross N table x)) where
  abbrev written : PairData
  written = record (pair_data N table x) { firm_start = rows.start; firm_due = rows.due }

  data_is : data_of given g ≡ written
  data_is =
      is.given_is g
      ∙ ap (λ (p : PairParams). planned (with_rows p terms.policy terms.receipts.now rows) incoming g) is.are.params_are
      ∙ ap (λ (p : Policy). planned (with_rows (params_at N x) p terms.receipts.now rows) incoming g) is.are.policy_is
      ∙ ap (λ (row : List ℕ). planned (with_rows (params_at N x) (policy_of N x) row rows) incoming g) is.are.receipts_are
      ∙ ap (λ (row : List ℕ). planned (with_rows (params_at N x) (policy_of N x) (received_sooner N x) rows) row g) is.incoming_is
      ∙ ap (planned (with_rows (params_at N x) (policy_of N x) (received_sooner N x) rows) (row_of N (comes_in N x))) same

  firm_rows : AreFirmRows (pair_data N table x) rows.start rows.due
  firm_rows =
      let size = length-map-range_with_len (gross N table x) 0 (horizon N) in
      record {
        few_starts = omega (arith, size, is.few_starts, is.horizon_is);
        few_dues = omega (arith, size, is.few_dues, is.horizon_is);
        start = λ t h.
            is.start t (omega (arith, size, is.horizon_is)) ∙ ap (λ (fs : List FirmRow). starting_in fs t) is.are.orders_are
            ∙ sym (get_or-map-range_with_len (firm_start N x) 0 (horizon N) t t 0 (omega (arith, size)) (omega arith));
        due = λ t h.
            is.due t (omega (arith, size, is.horizon_is)) ∙ ap (λ (fs : List FirmRow). due_in fs t) is.are.orders_are
            ∙ sym (get_or-map-range_with_len (firm_due N x) 0 (horizon N) t t 0 (omega (arith, size)) (omega arith));
      }

  pub given_within : IsWithinData (pair_data N table x) → IsWithinData (data_of given g)
  given_within within = subst IsWithinData (sym data_is) (firm_rows-within (pair_data N table x) rows.start rows.due within firm_rows)

  pub given_plan : IsWithinData (pair_data N table x) → one (data_of given g) ≡ pair_plan N table x
  given_plan within = ap one data_is ∙ firm_rows-same (pair_data N table x) rows.start rows.due within firm_rows
