-- Loops: the plan of a network without them fits it, and is the only table that does.
use Rattle.std.proofs.Common.{◌≡◌, ℕ, ◌<◌, ◌≤◌, List, length, slice_index, zero, suc, arith, refl, sym, ap, ◌∙◌, subst}
use Rattle.std.specs.List.{range_with_len}
use Rattle.std.proofs.lemmas.List.{ext_get_or}
use Rattle.std.proofs.lemmas.List.FromFn.{get_or-map-range_with_len, length-map-range_with_len, length-range_with_len}
use Rattle.std.proofs.lemmas.List.Sorted.{length_permutation}
use Rattle.mrp_netting.specs.PlanRows.{PlanRows}
use Rattle.mrp_master_data.specs.Table.{Table, IsPair}
use Rattle.mrp_net.specs.Plan.{rows_at, no_rows, pair_plan, rounds, plan_of}
use Rattle.mrp_net.specs.PlanLaws.{Fits, HasOnePlan}
use Rattle.mrp_loops.specs.Planning.{IsPlanningOrder}
use Rattle.mrp_loops.specs.Laws.{OnePlan}
use Rattle.mrp_loops.proofs.Coded.{codes_exist}
use Rattle.mrp_loops.proofs.Ordered.{planning_order}
use Rattle.mrp_loops.proofs.Orders.{place_in_table, place_in_order, demander_before}
use Rattle.mrp_net.proofs.Covering.{plans_look_at_demanders}

-- a round plans each pair beside the round before
round_rows : (N : Table) (k x : ℕ) → IsPair N x → rows_at (rounds N (suc k)) x ≡ pair_plan N (rounds N k) x
round_rows N k x in_table = get_or-map-range_with_len (pair_plan N (rounds N k)) 0 (length N.pairs) x x no_rows in_table (omega arith)

-- two tables that agree at the places before k give the pair at place k one plan
same_demanders : (N : Table) (order : List ℕ) → IsPlanningOrder N order → (old new : List PlanRows) (k : ℕ) → k < length order
    → ((j : ℕ) → j < k → rows_at new (slice_index order j) ≡ rows_at old (slice_index order j))
    → pair_plan N new (slice_index order k) ≡ pair_plan N old (slice_index order k)
same_demanders N order is old new k within same =
    plans_look_at_demanders N new old (slice_index order k)
    (λ i d h.
    let before = demander_before N order is k within i d h in
    let P : ℕ → Type 0 = λ y. (rows_at new y).release ≡ (rows_at old y).release in
    subst P before.2 (ap (λ (r : PlanRows). r.release) (same before.0 before.1)))

-- the places before k are settled after k rounds
settled : (N : Table) (order : List ℕ) → IsPlanningOrder N order → (k j m : ℕ) → j < k → k ≤ m → j < length order
    → rows_at (rounds N m) (slice_index order j) ≡ rows_at (rounds N k) (slice_index order j)
settled N order is zero j m below more within = absurd (omega arith)
settled N order is (suc k) j zero below more within = absurd (omega arith)
settled N order is (suc k) j (suc m) below more within =
    let in_table = place_in_table N order is j within in
    let earlier = λ (i : ℕ) (h : i < j). settled N order is k i m (omega arith) (omega arith) (omega arith) in
    round_rows N m (slice_index order j) in_table
    ∙ same_demanders N order is (rounds N k) (rounds N m) j within earlier
    ∙ sym (round_rows N k (slice_index order j) in_table)

-- tables that fit agree at each place
agree : (N : Table) (order : List ℕ) → IsPlanningOrder N order → (a b : List PlanRows) → Fits N a → Fits N b → (k j : ℕ) → j < k → j < length order
    → rows_at a (slice_index order j) ≡ rows_at b (slice_index order j)
agree N order is a b fits_a fits_b zero j below within = absurd (omega arith)
agree N order is a b fits_a fits_b (suc k) j below within =
    let in_table = place_in_table N order is j within in
    let earlier = λ (i : ℕ) (h : i < j). agree N order is a b fits_a fits_b k i (omega arith) (omega arith) in
    fits_a.rows (slice_index order j) in_table ∙ same_demanders N order is b a j within earlier ∙ sym (fits_b.rows (slice_index order j) in_table)

rounds_size : (N : Table) (k : ℕ) → k ≡ length N.pairs → length (rounds N k) ≡ length N.pairs
rounds_size N zero same = same
rounds_size N (suc k) same = length-map-range_with_len (pair_plan N (rounds N k)) 0 (length N.pairs)

plan_fits : (N : Table) (order : List ℕ) → IsPlanningOrder N order → Fits N (plan_of N)
plan_fits N order is =
    let n = length N.pairs in
    let places : length order ≡ n = length_permutation (range_with_len 0 n) order is.all ∙ length-range_with_len 0 n in
    record {
      size = rounds_size N n refl;
      rows = λ x in_table.
          let place = place_in_order N order is x in_table in
          let at = slice_index order place.0 in
          let here : rows_at (plan_of N) at ≡ pair_plan N (plan_of N) at =
          sym (settled N order is n place.0 (suc n) (omega (arith, place.1, places)) (omega arith) place.1)
          ∙ round_rows N n at (place_in_table N order is place.0 place.1) in
          let P : ℕ → Type 0 = λ y. rows_at (plan_of N) y ≡ pair_plan N (plan_of N) y in
          subst P place.2 here;
    }

pub one_plan_by : (N : Table) (order : List ℕ) → IsPlanningOrder N order → HasOnePlan N
one_plan_by N order is = record {
  fits = plan_fits N order is;
  only = λ table fits.
      ext_get_or no_rows table (plan_of N) (fits.size ∙ sym (rounds_size N (length N.pairs) refl))
      (λ x h.
      let place = place_in_order N order is x (omega (arith, h, fits.size)) in
      let P : ℕ → Type 0 = λ y. rows_at table y ≡ rows_at (plan_of N) y in
      subst P place.2 (agree N order is table (plan_of N) fits (plan_fits N order is) (suc place.0) place.0 (omega arith) place.1));
}

pub one_plan : OnePlan
one_plan N table free =
    let codes = codes_exist N table free in
    let order = planning_order N codes.0 table codes.1 in
    one_plan_by N order.0 order.1
