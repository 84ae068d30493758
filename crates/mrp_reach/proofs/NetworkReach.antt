-- Reach over a network: what is whole stays so in the plan of each table that goes on.
use Rattle.std.specs.Prelude.{◌≡◌, ℕ, zero, suc, ◌<◌, List, length, slice_index, sum_by, All}
use Rattle.std.proofs.Common.{arith, sym, ap, subst, ◌∙◌, get_or}
use Rattle.std.proofs.lemmas.List.FromFn.{length-map-range_with_len}
use Rattle.mrp_netting.specs.PlanRows.{PlanRows}
use Rattle.mrp_netting.specs.PlanningData.{one}
use Rattle.mrp_master_data.specs.declared.rows.PairRow.{PairRow}
use Rattle.mrp_master_data.specs.Rows.{params_of}
use Rattle.mrp_master_data.specs.Table.{Table, IsTable, IsPair, horizon}
use Rattle.mrp_net.specs.declared.edge.Edge.{Edge}
use Rattle.mrp_net.specs.Edges.{demanders, edge_need}
use Rattle.mrp_net.specs.Plan.{asked, gross, pair_data, rows_at}
use Rattle.mrp_net.specs.PlanLaws.{Fits}
use Rattle.mrp_net.specs.Sums.{row_of}
use Rattle.mrp_net.proofs.Covering.{sum_by-same}
use Rattle.mrp_net.proofs.PolicyRows.{policy_within}
use Rattle.mrp_loops.specs.Planning.{IsPlanningOrder}
use Rattle.mrp_loops.proofs.Orders.{place_in_table, place_in_order, demander_before}
use Rattle.mrp_reach.specs.Lengthening.{Lengthens}
use Rattle.mrp_reach.specs.Reach.{AreWhole, releases_whole}
use Rattle.mrp_reach.specs.ReachLaws.{AgreeBelow, AgreeWhere, WholeStays}
use Rattle.mrp_reach.proofs.Leasts.{least-each}
use Rattle.mrp_reach.proofs.LongerRows.{demand-same, demanders-same, firm_due-agree, firm_start-agree, incoming-agree, pair-same, policy-same}
use Rattle.mrp_reach.proofs.LongerRows.{receipts-agree, rows_agree_within}
use Rattle.mrp_reach.proofs.LongerUsages.{edge_need-same}
use Rattle.mrp_reach.proofs.PairReach.{AreAgreeing, plans_same}
use Rattle.mrp_reach.proofs.WholePeriods.{an_order, longer-pair, whole_within}

-- two tables, the later of which goes on where the other one ends, with their plans and the whole periods of the first
pub record GoOn (N M : Table) (wholes : List ℕ) (plans later : List PlanRows) : Type 0 where
  pub table : IsTable N
  pub longer_table : IsTable M
  pub goes_on : Lengthens N M
  pub are : AreWhole N wholes
  pub fits : Fits N plans
  pub later_fits : Fits M later

module _ (N M : Table) (wholes : List ℕ) (plans later : List PlanRows) (both : GoOn N M wholes plans later) where
  -- a pair's releases agree as far as they are whole
  abbrev ReleasesAgree : ℕ → Type 0
  ReleasesAgree y = AgreeBelow (releases_whole N y (slice_index wholes y)) (rows_at plans y).release (rows_at later y).release

  -- what demanders ask in a period of their whole releases
  asked-same : (x t : ℕ) → IsPair N x → t < slice_index wholes x → All (λ e. ReleasesAgree e.demander.0) (demanders N x)
      → asked N plans (demanders N x) t ≡ asked M later (demanders M x) t
  asked-same x t in_table within agree =
      let out : Edge → ℕ = λ e. releases_whole N e.demander.0 (slice_index wholes e.demander.0) in
      let first : Edge → ℕ = λ e. edge_need N e t (slice_index (rows_at plans e.demander.0).release t) in
      let second : Edge → ℕ = λ e. edge_need M e t (slice_index (rows_at later e.demander.0).release t) in
      let in_horizon : t < horizon N = omega (arith, whole_within N wholes both.are x in_table) in
      sum_by-same first second (demanders N x)
      (λ k d h.
      let e : Edge = get_or (demanders N x) k d in
      let soon : t < out e = omega (arith, both.are.whole x in_table, least-each out (horizon N) (demanders N x) k d h) in
      edge_need-same N M both.table both.goes_on e t (slice_index (rows_at plans e.demander.0).release t) in_horizon
      ∙ ap (λ (n : ℕ). edge_need M e t n) (agree k d h t soon))
      ∙ ap (λ (es : List Edge). sum_by second es) (demanders-same N M both.goes_on x)

  gross-same : (x t : ℕ) → IsPair N x → All (λ e. ReleasesAgree e.demander.0) (demanders N x) → t < slice_index wholes x
      → gross N plans x t ≡ gross M later x t
  gross-same x t in_table agree within =
      omega (
        arith,
        demand-same N M both.goes_on x t (omega (arith, whole_within N wholes both.are x in_table)),
        asked-same x t in_table within agree,
      )

  -- so the data of the pair agree
  pub data_agree : (x : ℕ) → IsPair N x → All (λ e. ReleasesAgree e.demander.0) (demanders N x)
      → AreAgreeing (slice_index wholes x) (pair_data N plans x) (pair_data M later x)
  data_agree x in_table agree =
      let periods : length (row_of N (gross N plans x)) ≡ horizon N = length-map-range_with_len (gross N plans x) 0 (horizon N) in
      let longer_periods : length (row_of M (gross M later x)) ≡ horizon M = length-map-range_with_len (gross M later x) 0 (horizon M) in
      let within = whole_within N wholes both.are x in_table in
      let longer = both.goes_on.longer in
      let fence = (policy_within N x both.table).fence in
      record {
        params = sym (ap (λ (p : PairRow). params_of p) (pair-same N M both.goes_on x));
        policy = sym (policy-same N M both.goes_on x);
        within = omega arith;
        longer = omega arith;
        fence = omega arith;
        gross = rows_agree_within (gross N plans x) (gross M later x) (horizon N) (horizon M) (slice_index wholes x) longer within
            (λ t h. gross-same x t in_table agree h);
        receipts = λ t h. receipts-agree N M both.goes_on x t (omega arith);
        arrivals = λ t h. incoming-agree N M both.goes_on x t (omega arith);
        firm_start = λ t h. firm_start-agree N M both.goes_on x t (omega arith);
        firm_due = λ t h. firm_due-agree N M both.goes_on both.longer_table x t (omega arith);
      }

  -- and its plans as far as they are whole
  plans_agree : (x : ℕ) → IsPair N x → All (λ e. ReleasesAgree e.demander.0) (demanders N x)
      → AgreeWhere N x (slice_index wholes x) (one (pair_data N plans x)) (one (pair_data M later x))
  plans_agree x in_table agree =
      let same = plans_same (slice_index wholes x) (pair_data N plans x) (pair_data M later x) (data_agree x in_table agree) in
      let periods : length (row_of N (gross N plans x)) ≡ horizon N = length-map-range_with_len (gross N plans x) 0 (horizon N) in
      record {
        gross = same.gross;
        incoming = same.incoming;
        incoming_when_due = λ none t h. same.incoming_when_due none t (omega arith);
        order = same.order;
        available = same.available;
        release = same.release;
      }

  rows_agree : (x : ℕ) → IsPair N x → All (λ e. ReleasesAgree e.demander.0) (demanders N x)
      → AgreeWhere N x (slice_index wholes x) (rows_at plans x) (rows_at later x)
  rows_agree x in_table agree =
      let P : PlanRows → Type 0 = λ a. AgreeWhere N x (slice_index wholes x) a (one (pair_data M later x)) in
      let Q : PlanRows → Type 0 = λ b. AgreeWhere N x (slice_index wholes x) (rows_at plans x) b in
      subst Q (sym (both.later_fits.rows x (longer-pair N M both.goes_on x in_table)))
      (subst P (sym (both.fits.rows x in_table)) (plans_agree x in_table agree))

  -- at each place of an order in which demanders come first
  agree_at : (order : List ℕ) → IsPlanningOrder N order → (k j : ℕ) → j < k → j < length order
      → AgreeWhere N (slice_index order j) (slice_index wholes (slice_index order j))
      (rows_at plans (slice_index order j)) (rows_at later (slice_index order j))
  agree_at order is zero j below within = absurd (omega arith)
  agree_at order is (suc k) j below within =
      rows_agree (slice_index order j) (place_in_table N order is j within)
      (λ i d h.
      let before = demander_before N order is j within i d h in
      let early = before.1 in
      subst (λ (y : ℕ). ReleasesAgree y) before.2 (agree_at order is k before.0 (omega arith) (omega arith)).release)

  pub stays_at : (order : List ℕ) → IsPlanningOrder N order → (x : ℕ) → IsPair N x
      → AgreeWhere N x (slice_index wholes x) (rows_at plans x) (rows_at later x)
  stays_at order is x in_table =
      let place = place_in_order N order is x in_table in
      subst (λ (y : ℕ). AgreeWhere N y (slice_index wholes y) (rows_at plans y) (rows_at later y)) place.2
      (agree_at order is (suc place.0) place.0 (omega arith) place.1)

pub whole_stays : WholeStays
whole_stays N M table longer_table free goes_on wholes are plans later fits later_fits x in_table =
    let order = an_order N table free in
    let both : GoOn N M wholes plans later = record {
      table = table;
      longer_table = longer_table;
      goes_on = goes_on;
      are = are;
      fits = fits;
      later_fits = later_fits;
    } in
    stays_at N M wholes plans later both order.0 order.1 x in_table
