-- The bound: in a table of plans that fits a sized network the releases of each pair are within its need.
use Rattle.std.proofs.Common.{◌≡◌, ℕ, ◌+◌, ◌*◌, ◌≤◌, ◌==◌, ◌&&◌, if◌then◌else◌, Bool, true, false, inl, inr, leb, List, [], ◌∷◌, sum, sum_by, slice_index}
use Rattle.std.proofs.Common.{slice_index_or, length, take, refl, sym, ap, ◌∙◌, subst, arith}
use Rattle.std.specs.List.{All}
use Rattle.std.proofs.lemmas.Bool.{le-leb, leb-true}
use Rattle.std.proofs.lemmas.List.FromFn.{length-map-range_with_len}
use Rattle.std.proofs.lemmas.List.Sums.{sum_by-cons, sum_by-le-sum_by, get_or-le-sum_by}
use Rattle.std.proofs.Math.Nat.{mul-le-mul_left}
use Rattle.mrp_qty.specs.declared.quantity.TheConstants.{MOST}
use Rattle.mrp_netting.specs.PlanRows.{PlanRows}
use Rattle.mrp_netting.specs.Bound.{IsWithin}
use Rattle.mrp_netting.specs.PlanningBound.{IsWithinData}
use Rattle.mrp_netting.specs.PlanningData.{one}
use Rattle.mrp_netting.specs.PlanningLaws.{AreWithinMost}
use Rattle.mrp_netting.proofs.DataRows.{one-incoming, releases_stay_bounded, all_rows_stay_within}
use Rattle.mrp_netting.proofs.OneRows.{one-gross, length-one-incoming}
use Rattle.mrp_netting.proofs.ReceiptLaws.{incoming-le}
use Rattle.mrp_netting.proofs.RowSums.{sum_take-all}
use Rattle.mrp_master_data.specs.declared.rows.CumRow.{CumRow}
use Rattle.mrp_master_data.specs.declared.rows.ShipRow.{ShipRow}
use Rattle.mrp_master_data.specs.Table.{Table, IsTable, IsPair, horizon}
use Rattle.mrp_net.specs.declared.edge.Edge.{Edge}
use Rattle.mrp_net.specs.Edges.{demanders, edge_most}
use Rattle.mrp_net.specs.Lanes.{figure, shipped_from}
use Rattle.mrp_net.specs.FirmOrders.{firm_start, firm_due, firm_total}
use Rattle.mrp_net.specs.Plan.{rows_at, gross, pair_data, plan_of}
use Rattle.mrp_net.specs.PlanLaws.{Fits}
use Rattle.mrp_net.specs.Sums.{incoming, no_pair, opening_total, pair_at, params_at, received_total, row_of, shipped_total}
use Rattle.mrp_net.proofs.Firms.{firms_are_kept}
use Rattle.mrp_net.proofs.Periods.{all_incomings-le}
use Rattle.mrp_net.proofs.PolicyRows.{policy_within}
use Rattle.mrp_net.proofs.Sooner.{received_sooner-few}
use Rattle.mrp_net.proofs.Totals.{gross_sum-le}
use Rattle.mrp_loops.specs.Loop.{HasEdge}
use Rattle.mrp_loops.specs.Need.{AreNeeds, AreWithin, quantities_at}
use Rattle.mrp_loops.specs.Sized.{IsSized}
use Rattle.mrp_loops.specs.Within.{ReleasesAreWithinNeed, GrossIsWithinNeed, SupplyAndReleasesAreWithin, FiguresAreWithin, PlansAreWithin, DataAreWithin, QuantitiesAreWithin}
use Rattle.mrp_loops.specs.Within.{PlanIsWithin}
use Rattle.mrp_loops.proofs.Edges.{demanders_only, HasEdge-from_in, HasEdge-pairs}
use Rattle.mrp_net.proofs.Members.{In}
use Rattle.mrp_loops.proofs.OnePlan.{one_plan}
use Rattle.mrp_loops.proofs.Upstream.{demanders_decide, needs_are_one}
use Rattle.mrp_master_data.proofs.LimitFacts.{any_limited, lead_of_pair, rule_of_pair}

sum_in-le : {X : Type 0} (f g : X → ℕ) (xs : List X) → ((x : X) → In xs x → f x ≤ g x) → sum_by f xs ≤ sum_by g xs
sum_in-le f g [] each = omega arith
sum_in-le {X} f g (x ∷ xs) each =
    let here : f x ≤ g x = each x (inl refl) in
    omega (arith, here, sum_by-cons f x xs, sum_by-cons g x xs, sum_in-le f g xs (λ y h. each y (inr h)))

-- what the releases of the demanders ask is within what their needs ask
asks-le : (N : Table) (table : List PlanRows) (needs : List ℕ) (x : ℕ) → ((y : ℕ) → HasEdge N y x → sum (rows_at table y).release ≤ slice_index needs y)
    → sum_by (λ e. edge_most N e * sum (rows_at table e.demander.0).release) (demanders N x)
    ≤ sum_by (λ e. edge_most N e * slice_index needs e.demander.0) (demanders N x)
asks-le N table needs x each =
    sum_in-le (λ (e : Edge). edge_most N e * sum (rows_at table e.demander.0).release) (λ (e : Edge). edge_most N e * slice_index needs e.demander.0)
    (demanders N x) (λ e h.
    let only = demanders_only N x e h in
    mul-le-mul_left (edge_most N e) (each e.demander.0 (HasEdge-from_in N e e.demander.0 x only.0 refl only.1)))

length-row_of : (N : Table) (amount : ℕ → ℕ) → length (row_of N amount) ≡ horizon N
length-row_of N amount = length-map-range_with_len amount 0 (horizon N)

-- one quantity is within the sum
small_of_sum : (row : List ℕ) → sum row ≤ MOST → All (λ quantity. quantity ≤ MOST) row
small_of_sum row within k d h =
    let part : slice_index_or row k d ≤ sum row = get_or-le-sum_by (λ (q : ℕ). q) row k d h in
    omega (arith, part)

-- a second test can but take away
both-le : (a b : Bool) (v : ℕ) → (if a && b then v else 0) ≤ (if a then v else 0)
both-le true true v = omega arith
both-le true false v = omega arith
both-le false b v = omega arith

-- what a pair is planned from is within the bound where all its quantities together are
pub data_is_within : (N : Table) (table : List PlanRows) (x : ℕ) → IsTable N → IsPair N x
    → (pair_at N x).on_hand + received_total N x + shipped_total N x + firm_total N x + sum (row_of N (gross N table x)) + (pair_at N x).safety
    + quantities_at N x ≤ MOST
    → IsWithinData (pair_data N table x)
data_is_within N table x is pair total =
    let own = is.read.pairs x no_pair pair in
    let policy = policy_within N x is in
    let firms = firms_are_kept N is x in
    let periods = length-row_of N (gross N table x) in
    record {
      rule = rule_of_pair N (pair_at N x) own;
      lead = lead_of_pair N (pair_at N x) own;
      fence = omega (arith, periods, policy.fence);
      sooner = policy.sooner;
      cover = policy.cover;
      least = policy.least;
      multiple = policy.multiple;
      periods = omega (arith, periods, (any_limited N is.read.limits).periods);
      receipts = omega (arith, periods, received_sooner-few N x);
      arrivals = omega (arith, periods, length-row_of N (incoming N x));
      firm_start = omega (arith, periods, length-row_of N (firm_start N x));
      firm_due = omega (arith, periods, length-row_of N (firm_due N x));
      firm = firms.started ∙ sym firms.come;
      total = omega (arith, all_incomings-le N x, firms.come, total);
    }

-- so are its rows
pub rows_are_within : (N : Table) (table : List PlanRows) (x : ℕ) → IsWithinData (pair_data N table x)
    → IsWithin (params_at N x) (one (pair_data N table x)).incoming (one (pair_data N table x)).gross
rows_are_within N table x is =
    let d = pair_data N table x in
    let come = one-incoming d in
    let size = length-one-incoming d in
    let asked = one-gross d in
    record {
      rule = is.rule;
      lead = is.lead;
      periods = size ∙ sym (ap (λ (row : List ℕ). length row) asked);
      total = omega (
        arith,
        ap (λ (row : List ℕ). sum row) asked,
        sym (sum_take-all (one d).incoming (length d.gross) (omega (arith, size))),
        ap (λ (row : List ℕ). sum (take (length d.gross) row)) come,
        incoming-le d (length d.gross) (omega arith),
        is.total,
      );
    }

module _ (N : Table) (sized : IsSized N) (needs : List ℕ) (are : AreNeeds N needs) (within : AreWithin N needs) (table : List PlanRows)
    (fits : Fits N table) where
  abbrev ReleasesWithin : ℕ → Type 0
  ReleasesWithin x = sum (rows_at table x).release ≤ slice_index needs x

  abbrev DemandersWithin : ℕ → Type 0
  DemandersWithin x = (y : ℕ) → HasEdge N y x → ReleasesWithin y

  gross-le : (x : ℕ) → IsPair N x → DemandersWithin x
      → sum (row_of N (gross N table x)) + (pair_at N x).safety + quantities_at N x + firm_total N x ≤ slice_index needs x
  gross-le x pair each =
      omega (arith, gross_sum-le N table x sized.table, asks-le N table needs x each, are.need x pair)

  data-within : (x : ℕ) → IsPair N x → DemandersWithin x → IsWithinData (pair_data N table x)
  data-within x pair each =
      data_is_within N table x sized.table pair (omega (arith, gross-le x pair each, within x pair))

  next_within : (x : ℕ) → IsPair N x → DemandersWithin x → ReleasesWithin x
  next_within x pair each =
      omega (
        arith,
        releases_stay_bounded (pair_data N table x) (data-within x pair each),
        (firms_are_kept N sized.table x).started,
        gross-le x pair each,
        ap (λ (rows : PlanRows). sum rows.release) (fits.rows x pair),
      )

  all_within : (x : ℕ) → IsPair N x → ReleasesWithin x
  all_within x pair =
      let test : ℕ → Bool = λ y. leb (sum (rows_at table y).release) (slice_index needs y) in
      leb-true _ _ (demanders_decide N sized.table (sized.loop_free) test
      (λ y is each. le-leb _ _ (next_within y is (λ z edge. leb-true _ _ (each z edge))))
      x pair)

  demanders_within : (x : ℕ) → DemandersWithin x
  demanders_within x y edge = all_within y (HasEdge-pairs N sized.table y x edge).0

  own_gross : (x : ℕ) → IsPair N x → (rows_at table x).gross ≡ row_of N (gross N table x)
  own_gross x pair = ap (λ (rows : PlanRows). rows.gross) (fits.rows x pair) ∙ one-gross (pair_data N table x)

-- the needs of a sized network are within the bound, whichever list of them is given
pub needs_within : (N : Table) → IsSized N → (needs : List ℕ) → AreNeeds N needs → AreWithin N needs
needs_within N sized needs are =
    let one = needs_are_one N sized.table sized.loop_free sized.needs needs sized.are_needs are in
    subst (λ (q : List ℕ). AreWithin N q) one sized.within

pub releases_within_need : ReleasesAreWithinNeed
releases_within_need N sized needs are table fits x pair = all_within N sized needs are (needs_within N sized needs are) table fits x pair

pub gross_within_need : GrossIsWithinNeed
gross_within_need N sized needs are table fits x pair =
    let within = needs_within N sized needs are in
    omega (
      arith,
      gross-le N sized needs are within table fits x pair (demanders_within N sized needs are within table fits x),
      ap (λ (row : List ℕ). sum row)
          (own_gross N sized needs are within table fits x pair),
    )

pub supply_and_releases_within : SupplyAndReleasesAreWithin
supply_and_releases_within N sized table fits x pair =
    omega (arith, sized.within x pair, all_within N sized sized.needs sized.are_needs sized.within table fits x pair)

figure-le : (N : Table) (x supplier : ℕ) → figure N x supplier ≤ opening_total N x
figure-le N x supplier =
    sum_by-le-sum_by (λ (c : CumRow). if (c.pair.0 == x) && (c.from.0 == supplier) then c.figure else 0) (λ (c : CumRow). if c.pair.0 == x then c.figure
    else 0) N.cums
    (λ c. both-le (c.pair.0 == x) (c.from.0 == supplier) c.figure)

shipped_from-le : (N : Table) (x supplier : ℕ) → shipped_from N x supplier ≤ shipped_total N x
shipped_from-le N x supplier =
    sum_by-le-sum_by (λ (r : ShipRow). if (r.pair.0 == x) && (r.from.0 == supplier) then r.quantity else 0) (λ (r : ShipRow). if r.pair.0 == x then r.quantity
    else 0) N.ships
    (λ r. both-le (r.pair.0 == x) (r.from.0 == supplier) r.quantity)

pub figures_within : FiguresAreWithin
figures_within N sized table fits x supplier pair =
    omega (arith, supply_and_releases_within N sized table fits x pair, figure-le N x supplier, shipped_from-le N x supplier)

pub data_within : DataAreWithin
data_within N sized table fits x pair =
    data-within N sized sized.needs sized.are_needs sized.within table fits x pair
    (demanders_within N sized sized.needs sized.are_needs sized.within table fits x)

pub plans_within : PlansAreWithin
plans_within N sized table fits x pair =
    let P : PlanRows → Type 0 = λ rows. IsWithin (params_at N x) rows.incoming rows.gross in
    subst P (sym (fits.rows x pair)) (rows_are_within N table x (data_within N sized table fits x pair))

pub quantities_within : QuantitiesAreWithin
quantities_within N sized table fits x pair =
    let own = plans_within N sized table fits x pair in
    let small = subst AreWithinMost (sym (fits.rows x pair)) (all_rows_stay_within (pair_data N table x) (data_within N sized table fits x pair)) in
    record {
      gross = small_of_sum (rows_at table x).gross (omega (arith, own.total));
      incoming = small.incoming;
      order = small.order;
      release = small.release;
      available = small.available;
    }

-- ---- the plan

pub plan_is_within : PlanIsWithin
plan_is_within N sized needs are x pair =
    let fits = (one_plan N sized.table sized.loop_free).fits in
    record {
      together = plans_within N sized (plan_of N) fits x pair;
      given = data_within N sized (plan_of N) fits x pair;
      releases = releases_within_need N sized needs are (plan_of N) fits x pair;
      supply = supply_and_releases_within N sized (plan_of N) fits x pair;
      each = quantities_within N sized (plan_of N) fits x pair;
    }
