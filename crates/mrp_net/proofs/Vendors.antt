-- The network: vendors and days change no plan of it, and what a vendor's figures begin at is
-- within the supply of its pair.
use Rattle.std.proofs.Common.{◌≡◌, ℕ, zero, suc, ◌+◌, ◌≤◌, cond, eqb, List, length, get_or, map, arith, refl, sym, ap, ◌∙◌, subst}
use Rattle.std.specs.List.{range_with_len}
use Rattle.std.proofs.lemmas.Bool.{cond_both, eq-eqb, true≢false}
use Rattle.std.proofs.lemmas.List.Sums.{get_or-le-sum_by}
use Rattle.mrp_cal.specs.Calendar.{CalendarTerms}
use Rattle.mrp_netting.specs.PlanRows.{PlanRows}
use Rattle.mrp_master_data.specs.Growing.{with_calendar}
use Rattle.mrp_master_data.specs.Rows.{Vendor}
use Rattle.mrp_master_data.specs.Table.{Table, horizon}
use Rattle.mrp_net.specs.Plan.{pair_plan, rounds}
use Rattle.mrp_net.specs.VendorLaws.{with_vendors, VendorsChangeNoPlan, VendorsChangeNoEdge, VendorsChangeNoLane, VendorsAreSupplied, DaysChangeNoPlan}

-- ---- vendors

vendors_keep_rounds : (N : Table) (vendors : List Vendor) (k : ℕ) → rounds (with_vendors N vendors) k ≡ rounds N k
vendors_keep_rounds N vendors zero = refl
vendors_keep_rounds N vendors (suc k) =
    ap (λ (z : List PlanRows). map (pair_plan N z) (range_with_len 0 (length N.pairs))) (vendors_keep_rounds N vendors k)

pub vendors_change_no_plan : VendorsChangeNoPlan
vendors_change_no_plan N vendors = vendors_keep_rounds N vendors (length N.pairs)

pub vendors_change_no_edge : VendorsChangeNoEdge
vendors_change_no_edge N vendors = refl

pub vendors_change_no_lane : VendorsChangeNoLane
vendors_change_no_lane N vendors = refl

-- a vendor is among those of its pair
counted : (n m : ℕ) → n ≡ m → (amount : ℕ) → amount ≤ cond (eqb n m) amount 0
counted n m same amount =
    cond_both (eqb n m) amount 0 (λ z. amount ≤ z) (λ _. omega arith) (λ no. absurd (true≢false (sym (eq-eqb n m same) ∙ no)))

pub vendors_are_supplied : VendorsAreSupplied
vendors_are_supplied N is = λ k d h.
    let v : Vendor = get_or N.vendors k d in
    let among = get_or-le-sum_by (λ (w : Vendor). cond (eqb w.pair.0 v.pair.0) (w.figure + w.transit) 0) N.vendors k d h in
    omega (arith, among, counted v.pair.0 v.pair.0 refl (v.figure + v.transit))

-- ---- days

-- with as many periods
days_keep_rounds : (N : Table) (c : CalendarTerms) (k : ℕ) → rounds (with_calendar N (record c { periods = horizon N })) k ≡ rounds N k
days_keep_rounds N c zero = refl
days_keep_rounds N c (suc k) =
    ap (λ (z : List PlanRows). map (pair_plan N z) (range_with_len 0 (length N.pairs))) (days_keep_rounds N c k)

pub days_change_no_plan : DaysChangeNoPlan
days_change_no_plan N c same =
    subst (λ (p : ℕ). rounds (with_calendar N (record c { periods = p })) (length N.pairs) ≡ rounds N (length N.pairs)) (sym same)
    (days_keep_rounds N c (length N.pairs))
