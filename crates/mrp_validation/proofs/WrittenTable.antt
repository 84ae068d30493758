-- A valid table written out: the rows that were read are that.
use Rattle.std.proofs.Common.{◌≡◌, ◌≤◌, ◌<◌, ℕ, ◌+◌, false, List, [], ◌∷◌, ◌++◌, length, map, Result, Ok, Err, refl, ap, sym, ◌∙◌, subst, append_assoc, append-nil}
use Rattle.std.proofs.Common.{arith}
use Rattle.mrp_cal.specs.Calendar.{CalendarTerms}
use Rattle.mrp_cal.specs.declared.fault.CalFault.{CalFault}
use Rattle.mrp_master_data.specs.declared.numbers.PlantNo.{PlantNo}
use Rattle.mrp_master_data.specs.declared.rows.BillRow.{BillRow}
use Rattle.mrp_master_data.specs.declared.rows.CumRow.{CumRow}
use Rattle.mrp_master_data.specs.declared.rows.DemandRow.{DemandRow}
use Rattle.mrp_master_data.specs.declared.rows.FirmRow.{FirmRow}
use Rattle.mrp_master_data.specs.declared.rows.PolicyRow.{PolicyRow}
use Rattle.mrp_master_data.specs.declared.rows.ReceiptRow.{ReceiptRow}
use Rattle.mrp_master_data.specs.declared.rows.ResetRow.{ResetRow}
use Rattle.mrp_master_data.specs.declared.rows.ShipRow.{ShipRow}
use Rattle.mrp_master_data.specs.declared.rows.UsageRow.{UsageRow}
use Rattle.mrp_master_data.specs.Growing.{with_bill, with_cum, with_demand, with_firm, with_plant, with_policy, with_receipt, with_reset, with_ship, with_usage}
use Rattle.mrp_master_data.specs.Growing.{with_calendar, with_end, with_vendor}
use Rattle.mrp_master_data.specs.Rows.{Vendor}
use Rattle.mrp_master_data.specs.Table.{Table}
use Rattle.mrp_master_data.specs.Growing.{empty_table}
use Rattle.mrp_validation.specs.declared.fault.TableFaultKind.{TableFaultKind}
use Rattle.mrp_validation.specs.declared.kind.Kind.{Kind}
use Rattle.mrp_validation.specs.declared.kind.Kind.TheVariants as kind
use Rattle.mrp_validation.specs.Grammar.{◌>>=◌, bill_of, cum_of, demand_of, may_follow, pair_fits, pair_row, pair_terms, PairTerms, kind_place, plant_in_row}
use Rattle.mrp_validation.specs.Grammar.{day_in_row, end_in_row, firm_of, policy_of, receipt_of, reset_in_row, RunTerms, ship_of, usage_of, vendor_in_row, with_pair_terms}
use Rattle.mrp_validation.specs.Reading.{at_row, first_lacking, first_terms, IsCalendarOf, IsReadSoFar, kind_of_row, read_from, Reads, row_after, row_of_kind}
use Rattle.mrp_validation.specs.Reading.{rows_after, started, Starts, StartsWith, waiting}
use Rattle.mrp_validation.specs.Written.{AreNumbered, bill_fields, cum_fields, demand_fields, last_row, later_rows, pair_rows, plant_fields, receipt_fields, reset_fields}
use Rattle.mrp_validation.specs.Written.{day_fields, firm_fields, policy_fields, rows_of, run_fields, ship_fields, usage_fields, vendor_fields}
use Rattle.mrp_validation.proofs.Accept.{waited, was_read, went_on}
use Rattle.mrp_validation.proofs.Keeping.{follows, follows_no_end, row_after_keeps}
use Rattle.mrp_validation.proofs.KeepingPair.{fits}
use Rattle.mrp_validation.proofs.KeepingShares.{pair_terms_are}
use Rattle.mrp_validation.proofs.KeepingSteps.{after, after_check, same_Ok}
use Rattle.mrp_validation.proofs.Whole.{first_keeps}
use Rattle.mrp_validation.proofs.WrittenBegun.{day_said}
use Rattle.mrp_validation.proofs.WrittenEnd.{end_added, end_said, not_ended}
use Rattle.mrp_validation.proofs.WrittenFields.{IsOfKind, of_kind}
use Rattle.mrp_validation.proofs.WrittenPair.{pair_numbered, pair_terms_said, pairs_written}
use Rattle.mrp_validation.proofs.WrittenRows.{bill_said, cum_said, demand_said, firm_said, plant_said, policy_said, receipt_said, reset_said, run_said, ship_said}
use Rattle.mrp_validation.proofs.WrittenRows.{usage_said}
use Rattle.mrp_validation.proofs.WrittenVendor.{vendor_said}
use Rattle.mrp_qty.specs.declared.limits.LimitSet.{LimitSet}

abbrev Row : Type 0
Row = List (List ℕ)

-- ---- lists with a row more

none : (xs ys : List Row) → xs ≡ [] → ys ≡ [] → xs ++ ys ≡ []
none xs ys ex ey = ap (λ l. l ++ ys) ex ∙ ey

none_of : {X : Type 0} (f : X → Row) (xs : List X) → xs ≡ [] → map f xs ≡ []
none_of f xs e = ap (map f) e

-- a row more in front of nothing
at_end : (now old later : List Row) (row : Row) → now ≡ old ++ row ∷ [] → later ≡ [] → now ++ later ≡ (old ++ later) ++ row ∷ []
at_end now old later row e nothing =
    ap (λ l. now ++ l) nothing ∙ append-nil now ∙ e ∙ ap (λ l. l ++ row ∷ []) (sym (append-nil old) ∙ ap (λ l. old ++ l) (sym nothing))

at_ends : (now old after before : List Row) (row : Row) → now ≡ old ++ row ∷ [] → after ≡ [] → before ≡ [] → now ++ after ≡ (old ++ before) ++ row ∷ []
at_ends now old after before row e ea eb = at_end now old after row e ea ∙ ap (λ l. (old ++ l) ++ row ∷ []) (ea ∙ sym eb)

-- a row more behind other rows
behind : (front now old : List Row) (row : Row) → now ≡ old ++ row ∷ [] → front ++ now ≡ (front ++ old) ++ row ∷ []
behind front now old row e = ap (λ l. front ++ l) e ∙ sym (append_assoc front old (row ∷ []))

map_push : {X : Type 0} (f : X → Row) (xs : List X) (x : X) (row : Row) → row ≡ f x → map f (xs ++ x ∷ []) ≡ map f xs ++ row ∷ []
map_push f [] x row e = ap (λ r. r ∷ []) (sym e)
map_push f (y ∷ ys) x row e = ap (λ l. f y ∷ l) (map_push f ys x row e)

-- ---- the kinds that have not come yet have no rows

record IsFresh (N : Table) (place : ℕ) : Type 0 where
  pairs : place < 2 → N.pairs ≡ []
  bills : place < 3 → N.bills ≡ []
  demands : place < 4 → N.demands ≡ []
  receipts : place < 5 → N.receipts ≡ []
  ships : place < 6 → N.ships ≡ []
  cums : place < 7 → N.cums ≡ []
  resets : place < 8 → N.resets ≡ []
  firms : place < 9 → N.firms ≡ []
  policies : place < 10 → N.policies ≡ []
  usages : place < 11 → N.usages ≡ []
  vendors : place < 12 → N.vendors ≡ []
  days : place < 13 → N.calendar.begun ≡ []
  ended : place < 14 → N.ended ≡ false

stays_fresh : (N : Table) (m n : ℕ) → IsFresh N m → m ≤ n → IsFresh N n
stays_fresh N m n fresh le = record {
  pairs = λ lt. fresh.pairs (omega arith);
  bills = λ lt. fresh.bills (omega arith);
  demands = λ lt. fresh.demands (omega arith);
  receipts = λ lt. fresh.receipts (omega arith);
  ships = λ lt. fresh.ships (omega arith);
  cums = λ lt. fresh.cums (omega arith);
  resets = λ lt. fresh.resets (omega arith);
  firms = λ lt. fresh.firms (omega arith);
  policies = λ lt. fresh.policies (omega arith);
  usages = λ lt. fresh.usages (omega arith);
  vendors = λ lt. fresh.vendors (omega arith);
  days = λ lt. fresh.days (omega arith);
  ended = λ lt. fresh.ended (omega arith);
}

-- the rows from a kind on
abbrev from_days : Table → List Row
from_days N = map day_fields N.calendar.begun ++ last_row N

abbrev from_vendors : Table → List Row
from_vendors N = map (vendor_fields N) N.vendors ++ from_days N

abbrev from_usages : Table → List Row
from_usages N = map (usage_fields N) N.usages ++ from_vendors N

abbrev from_policies : Table → List Row
from_policies N = map (policy_fields N) N.policies ++ from_usages N

abbrev from_firms : Table → List Row
from_firms N = map (firm_fields N) N.firms ++ from_policies N

abbrev from_resets : Table → List Row
from_resets N = map (reset_fields N) N.resets ++ from_firms N

abbrev from_cums : Table → List Row
from_cums N = map (cum_fields N) N.cums ++ from_resets N

abbrev from_ships : Table → List Row
from_ships N = map (ship_fields N) N.ships ++ from_cums N

abbrev from_receipts : Table → List Row
from_receipts N = map (receipt_fields N) N.receipts ++ from_ships N

abbrev from_demands : Table → List Row
from_demands N = map (demand_fields N) N.demands ++ from_receipts N

abbrev from_bills : Table → List Row
from_bills N = map (bill_fields N) N.bills ++ from_demands N

abbrev from_pairs : Table → List Row
from_pairs N = pair_rows N 0 N.pairs ++ from_bills N

module _ (N : Table) (place : ℕ) (fresh : IsFresh N place) where
  no_end : place < 14 → last_row N ≡ []
  no_end lt = not_ended N (fresh.ended lt)

  no_days : place < 13 → from_days N ≡ []
  no_days lt = none _ _ (none_of day_fields N.calendar.begun (fresh.days lt)) (no_end (omega arith))

  no_vendors : place < 12 → from_vendors N ≡ []
  no_vendors lt = none _ _ (none_of (vendor_fields N) N.vendors (fresh.vendors lt)) (no_days (omega arith))

  no_usages : place < 11 → from_usages N ≡ []
  no_usages lt = none _ _ (none_of (usage_fields N) N.usages (fresh.usages lt)) (no_vendors (omega arith))

  no_policies : place < 10 → from_policies N ≡ []
  no_policies lt = none _ _ (none_of (policy_fields N) N.policies (fresh.policies lt)) (no_usages (omega arith))

  no_firms : place < 9 → from_firms N ≡ []
  no_firms lt = none _ _ (none_of (firm_fields N) N.firms (fresh.firms lt)) (no_policies (omega arith))

  no_resets : place < 8 → from_resets N ≡ []
  no_resets lt = none _ _ (none_of (reset_fields N) N.resets (fresh.resets lt)) (no_firms (omega arith))

  no_cums : place < 7 → from_cums N ≡ []
  no_cums lt = none _ _ (none_of (cum_fields N) N.cums (fresh.cums lt)) (no_resets (omega arith))

  no_ships : place < 6 → from_ships N ≡ []
  no_ships lt = none _ _ (none_of (ship_fields N) N.ships (fresh.ships lt)) (no_cums (omega arith))

  no_receipts : place < 5 → from_receipts N ≡ []
  no_receipts lt = none _ _ (none_of (receipt_fields N) N.receipts (fresh.receipts lt)) (no_ships (omega arith))

  no_demands : place < 4 → from_demands N ≡ []
  no_demands lt = none _ _ (none_of (demand_fields N) N.demands (fresh.demands lt)) (no_receipts (omega arith))

  no_bills : place < 3 → from_bills N ≡ []
  no_bills lt = none _ _ (none_of (bill_fields N) N.bills (fresh.bills lt)) (no_demands (omega arith))

  no_pairs : place < 2 → from_pairs N ≡ []
  no_pairs lt = none _ _ (ap (pair_rows N 0) (fresh.pairs lt)) (no_bills (omega arith))

-- ---- what a row adds is what it says

abbrev IsNumbered : Table → Type 0
IsNumbered N = AreNumbered 0 N.pairs (length N.items)

-- the table with a row more, written out, has that row more
record Adds (N M : Table) (k : Kind) (row : Row) : Type 0 where
  limits : M.limits ≡ N.limits
  calendar : run_fields M.calendar ≡ run_fields N.calendar
  numbered : IsNumbered N → IsNumbered M
  rows : later_rows M ≡ later_rows N ++ row ∷ []
  fresh : IsFresh M (kind_place k)

module _ (N : Table) (row : Row) where
  plant_adds : (x : List ℕ) → IsFresh N 1 → IsOfKind row kind.Plant → plant_in_row N row ≡ Ok x → Adds N (with_plant N x) kind.Plant row
  plant_adds x fresh k is =
      let more : IsFresh (with_plant N x) 1 = record {
        pairs = fresh.pairs;
        bills = fresh.bills;
        demands = fresh.demands;
        receipts = fresh.receipts;
        ships =
            fresh.ships;
        cums = fresh.cums;
        resets = fresh.resets;
        firms = fresh.firms;
        policies = fresh.policies;
        usages = fresh.usages;
        vendors = fresh.vendors;
        days = fresh.days;
        ended = fresh.ended;
      } in
      record {
        limits = refl;
        calendar = refl;
        numbered = λ h. h;
        rows = at_ends _ (map plant_fields N.plants) _ (from_pairs N) row (map_push plant_fields N.plants x row (plant_said N row x k is))
            (no_pairs (with_plant N x) 1 more (omega arith)) (no_pairs N 1 fresh (omega arith));
        fresh = more;
      }

  bill_adds : (x : BillRow) → IsFresh N 3 → IsOfKind row kind.Bill → bill_of N row ≡ Ok x → Adds N (with_bill N x) kind.Bill row
  bill_adds x fresh k is =
      let more : IsFresh (with_bill N x) 3 = record {
        pairs = fresh.pairs;
        bills = λ lt. absurd (omega arith);
        demands = fresh.demands;
        receipts = fresh.receipts;
        ships = fresh.ships;
        cums =
            fresh.cums;
        resets = fresh.resets;
        firms = fresh.firms;
        policies = fresh.policies;
        usages = fresh.usages;
        vendors = fresh.vendors;
        days = fresh.days;
        ended = fresh.ended;
      } in
      record {
        limits = refl;
        calendar = refl;
        numbered = λ h. h;
        rows = behind (map plant_fields N.plants) _ _ row (behind (pair_rows N 0 N.pairs) _ _ row
            (at_ends _ (map (bill_fields N) N.bills) _ (from_demands N) row (map_push (bill_fields N) N.bills x row (bill_said N row x k is))
            (no_demands (with_bill N x) 3 more (omega arith)) (no_demands N 3 fresh (omega arith))));
        fresh = more;
      }

  demand_adds : (x : DemandRow) → IsFresh N 4 → IsOfKind row kind.Demand → demand_of N row ≡ Ok x → Adds N (with_demand N x) kind.Demand row
  demand_adds x fresh k is =
      let more : IsFresh (with_demand N x) 4 = record {
        pairs = fresh.pairs;
        bills = fresh.bills;
        demands = λ lt. absurd (omega arith);
        receipts = fresh.receipts;
        ships = fresh.ships;
        cums =
            fresh.cums;
        resets = fresh.resets;
        firms = fresh.firms;
        policies = fresh.policies;
        usages = fresh.usages;
        vendors = fresh.vendors;
        days = fresh.days;
        ended = fresh.ended;
      } in
      record {
        limits = refl;
        calendar = refl;
        numbered = λ h. h;
        rows = behind (map plant_fields N.plants) _ _ row (behind (pair_rows N 0 N.pairs) _ _ row (behind (map (bill_fields N) N.bills) _ _ row
            (at_ends _ (map (demand_fields N) N.demands) _ (from_receipts N) row (map_push (demand_fields N) N.demands x row (demand_said N row x k is))
            (no_receipts (with_demand N x) 4 more (omega arith)) (no_receipts N 4 fresh (omega arith)))));
        fresh = more;
      }

  receipt_adds : (x : ReceiptRow) → IsFresh N 5 → IsOfKind row kind.Receipt → receipt_of N row ≡ Ok x → Adds N (with_receipt N x) kind.Receipt row
  receipt_adds x fresh k is =
      let more : IsFresh (with_receipt N x) 5 = record {
        pairs = fresh.pairs;
        bills = fresh.bills;
        demands = fresh.demands;
        receipts = λ lt. absurd (omega arith);
        ships = fresh.ships;
        cums =
            fresh.cums;
        resets = fresh.resets;
        firms = fresh.firms;
        policies = fresh.policies;
        usages = fresh.usages;
        vendors = fresh.vendors;
        days = fresh.days;
        ended = fresh.ended;
      } in
      record {
        limits = refl;
        calendar = refl;
        numbered = λ h. h;
        rows = behind (map plant_fields N.plants) _ _ row (behind (pair_rows N 0 N.pairs) _ _ row
            (behind (map (bill_fields N) N.bills) _ _ row (behind (map (demand_fields N) N.demands) _ _ row
            (at_ends _ (map (receipt_fields N) N.receipts) _ (from_ships N) row (map_push (receipt_fields N) N.receipts x row (receipt_said N row x k is))
            (no_ships (with_receipt N x) 5 more (omega arith)) (no_ships N 5 fresh (omega arith))))));
        fresh = more;
      }

  ship_adds : (x : ShipRow) → IsFresh N 6 → IsOfKind row kind.Ship → ship_of N row ≡ Ok x → Adds N (with_ship N x) kind.Ship row
  ship_adds x fresh k is =
      let more : IsFresh (with_ship N x) 6 = record {
        pairs = fresh.pairs;
        bills = fresh.bills;
        demands = fresh.demands;
        receipts = fresh.receipts;
        ships = λ lt. absurd (omega arith);
        cums =
            fresh.cums;
        resets = fresh.resets;
        firms = fresh.firms;
        policies = fresh.policies;
        usages = fresh.usages;
        vendors = fresh.vendors;
        days = fresh.days;
        ended = fresh.ended;
      } in
      record {
        limits = refl;
        calendar = refl;
        numbered = λ h. h;
        rows = behind (map plant_fields N.plants) _ _ row (behind (pair_rows N 0 N.pairs) _ _ row
            (behind (map (bill_fields N) N.bills) _ _ row (behind (map (demand_fields N) N.demands) _ _ row
            (behind (map (receipt_fields N) N.receipts) _ _ row
            (at_ends _ (map (ship_fields N) N.ships) _ (from_cums N) row (map_push (ship_fields N) N.ships x row (ship_said N row x k is))
            (no_cums (with_ship N x) 6 more (omega arith)) (no_cums N 6 fresh (omega arith)))))));
        fresh = more;
      }

  cum_adds : (x : CumRow) → IsFresh N 7 → IsOfKind row kind.Cum → cum_of N row ≡ Ok x → Adds N (with_cum N x) kind.Cum row
  cum_adds x fresh k is =
      let more : IsFresh (with_cum N x) 7 = record {
        pairs = fresh.pairs;
        bills = fresh.bills;
        demands = fresh.demands;
        receipts = fresh.receipts;
        ships = fresh.ships;
        cums =
            λ lt. absurd (omega arith);
        resets = fresh.resets;
        firms = fresh.firms;
        policies = fresh.policies;
        usages = fresh.usages;
        vendors = fresh.vendors;
        days = fresh.days;
        ended = fresh.ended;
      } in
      record {
        limits = refl;
        calendar = refl;
        numbered = λ h. h;
        rows = behind (map plant_fields N.plants) _ _ row (behind (pair_rows N 0 N.pairs) _ _ row
            (behind (map (bill_fields N) N.bills) _ _ row (behind (map (demand_fields N) N.demands) _ _ row
            (behind (map (receipt_fields N) N.receipts) _ _ row (behind (map (ship_fields N) N.ships) _ _ row
            (at_ends _ (map (cum_fields N) N.cums) _ (from_resets N) row (map_push (cum_fields N) N.cums x row (cum_said N row x k is))
            (no_resets (with_cum N x) 7 more (omega arith)) (no_resets N 7 fresh (omega arith))))))));
        fresh = more;
      }

  reset_adds : (x : ResetRow) → IsFresh N 8 → IsOfKind row kind.Reset → reset_in_row N row ≡ Ok x → Adds N (with_reset N x) kind.Reset row
  reset_adds x fresh k is =
      let more : IsFresh (with_reset N x) 8 = record {
        pairs = fresh.pairs;
        bills = fresh.bills;
        demands = fresh.demands;
        receipts = fresh.receipts;
        ships = fresh.ships;
        cums =
            fresh.cums;
        resets = λ lt. absurd (omega arith);
        firms = fresh.firms;
        policies = fresh.policies;
        usages = fresh.usages;
        vendors = fresh.vendors;
        days = fresh.days;
        ended = fresh.ended;
      } in
      record {
        limits = refl;
        calendar = refl;
        numbered = λ h. h;
        rows = behind (map plant_fields N.plants) _ _ row (behind (pair_rows N 0 N.pairs) _ _ row
            (behind (map (bill_fields N) N.bills) _ _ row (behind (map (demand_fields N) N.demands) _ _ row
            (behind (map (receipt_fields N) N.receipts) _ _ row (behind (map (ship_fields N) N.ships) _ _ row (behind (map (cum_fields N) N.cums) _ _ row
            (at_ends _ (map (reset_fields N) N.resets) _ (from_firms N) row (map_push (reset_fields N) N.resets x row (reset_said N row x k is))
            (no_firms (with_reset N x) 8 more (omega arith)) (no_firms N 8 fresh (omega arith)))))))));
        fresh = more;
      }

  firm_adds : (x : FirmRow) → IsFresh N 9 → IsOfKind row kind.Firm → firm_of N row ≡ Ok x → Adds N (with_firm N x) kind.Firm row
  firm_adds x fresh k is =
      let more : IsFresh (with_firm N x) 9 = record {
        pairs = fresh.pairs;
        bills = fresh.bills;
        demands = fresh.demands;
        receipts = fresh.receipts;
        ships = fresh.ships;
        cums =
            fresh.cums;
        resets = fresh.resets;
        firms = λ lt. absurd (omega arith);
        policies = fresh.policies;
        usages = fresh.usages;
        vendors = fresh.vendors;
        days = fresh.days;
        ended = fresh.ended;
      } in
      record {
        limits = refl;
        calendar = refl;
        numbered = λ h. h;
        rows = behind (map plant_fields N.plants) _ _ row (behind (pair_rows N 0 N.pairs) _ _ row
            (behind (map (bill_fields N) N.bills) _ _ row (behind (map (demand_fields N) N.demands) _ _ row
            (behind (map (receipt_fields N) N.receipts) _ _ row (behind (map (ship_fields N) N.ships) _ _ row (behind (map (cum_fields N) N.cums) _ _ row
            (behind (map (reset_fields N) N.resets) _ _ row
            (at_ends _ (map (firm_fields N) N.firms) _ (from_policies N) row (map_push (firm_fields N) N.firms x row (firm_said N row x k is))
            (no_policies (with_firm N x) 9 more (omega arith)) (no_policies N 9 fresh (omega arith))))))))));
        fresh = more;
      }

  policy_adds : (x : PolicyRow) → IsFresh N 10 → IsOfKind row kind.Policy → policy_of N row ≡ Ok x → Adds N (with_policy N x) kind.Policy row
  policy_adds x fresh k is =
      let more : IsFresh (with_policy N x) 10 = record {
        pairs = fresh.pairs;
        bills = fresh.bills;
        demands = fresh.demands;
        receipts = fresh.receipts;
        ships = fresh.ships;
        cums =
            fresh.cums;
        resets = fresh.resets;
        firms = fresh.firms;
        policies = λ lt. absurd (omega arith);
        usages = fresh.usages;
        vendors = fresh.vendors;
        days = fresh.days;
        ended = fresh.ended;
      } in
      record {
        limits = refl;
        calendar = refl;
        numbered = λ h. h;
        rows = behind (map plant_fields N.plants) _ _ row (behind (pair_rows N 0 N.pairs) _ _ row
            (behind (map (bill_fields N) N.bills) _ _ row (behind (map (demand_fields N) N.demands) _ _ row
            (behind (map (receipt_fields N) N.receipts) _ _ row (behind (map (ship_fields N) N.ships) _ _ row (behind (map (cum_fields N) N.cums) _ _ row
            (behind (map (reset_fields N) N.resets) _ _ row (behind (map (firm_fields N) N.firms) _ _ row
            (at_ends _ (map (policy_fields N) N.policies) _ (from_usages N) row
            (map_push (policy_fields N) N.policies x row (policy_said N row x k is)) (no_usages (with_policy N x) 10 more (omega arith)) (no_usages N 10 fresh (omega arith)))))))))));
        fresh = more;
      }

  usage_adds : (x : UsageRow) → IsFresh N 11 → IsOfKind row kind.Usage → usage_of N row ≡ Ok x → Adds N (with_usage N x) kind.Usage row
  usage_adds x fresh k is =
      let more : IsFresh (with_usage N x) 11 = record {
        pairs = fresh.pairs;
        bills = fresh.bills;
        demands = fresh.demands;
        receipts = fresh.receipts;
        ships = fresh.ships;
        cums =
            fresh.cums;
        resets = fresh.resets;
        firms = fresh.firms;
        policies = fresh.policies;
        usages = λ lt. absurd (omega arith);
        vendors = fresh.vendors;
        days = fresh.days;
        ended = fresh.ended;
      } in
      record {
        limits = refl;
        calendar = refl;
        numbered = λ h. h;
        rows = behind (map plant_fields N.plants) _ _ row (behind (pair_rows N 0 N.pairs) _ _ row
            (behind (map (bill_fields N) N.bills) _ _ row (behind (map (demand_fields N) N.demands) _ _ row
            (behind (map (receipt_fields N) N.receipts) _ _ row (behind (map (ship_fields N) N.ships) _ _ row (behind (map (cum_fields N) N.cums) _ _ row
            (behind (map (reset_fields N) N.resets) _ _ row (behind (map (firm_fields N) N.firms) _ _ row
            (behind (map (policy_fields N) N.policies) _ _ row
            (at_ends _ (map (usage_fields N) N.usages) _ (from_vendors N) row (map_push (usage_fields N) N.usages x row (usage_said N row x k is))
            (no_vendors (with_usage N x) 11 more (omega arith)) (no_vendors N 11 fresh (omega arith))))))))))));
        fresh = more;
      }

  vendor_adds : (x : Vendor) → IsFresh N 12 → IsOfKind row kind.Vendor → vendor_in_row N row ≡ Ok x → Adds N (with_vendor N x) kind.Vendor row
  vendor_adds x fresh k is =
      let more : IsFresh (with_vendor N x) 12 = record {
        pairs = fresh.pairs;
        bills = fresh.bills;
        demands = fresh.demands;
        receipts = fresh.receipts;
        ships = fresh.ships;
        cums =
            fresh.cums;
        resets = fresh.resets;
        firms = fresh.firms;
        policies = fresh.policies;
        usages = fresh.usages;
        vendors = λ lt. absurd (omega arith);
        days = fresh.days;
        ended = fresh.ended;
      } in
      record {
        limits = refl;
        calendar = refl;
        numbered = λ h. h;
        rows = behind (map plant_fields N.plants) _ _ row (behind (pair_rows N 0 N.pairs) _ _ row
            (behind (map (bill_fields N) N.bills) _ _ row (behind (map (demand_fields N) N.demands) _ _ row
            (behind (map (receipt_fields N) N.receipts) _ _ row (behind (map (ship_fields N) N.ships) _ _ row (behind (map (cum_fields N) N.cums) _ _ row
            (behind (map (reset_fields N) N.resets) _ _ row (behind (map (firm_fields N) N.firms) _ _ row
            (behind (map (policy_fields N) N.policies) _ _ row (behind (map (usage_fields N) N.usages) _ _ row
            (at_ends _ (map (vendor_fields N) N.vendors) _ (from_days N) row
            (map_push (vendor_fields N) N.vendors x row (vendor_said N row x k is)) (no_days (with_vendor N x) 12 more (omega arith)) (no_days N 12 fresh (omega arith)))))))))))));
        fresh = more;
      }

  day_adds : (c : CalendarTerms) → IsFresh N 13 → IsOfKind row kind.Day → day_in_row N row ≡ Ok c → Adds N (with_calendar N c) kind.Day row
  day_adds c fresh k is =
      let more : IsFresh (with_calendar N c) 13 = record {
        pairs = fresh.pairs;
        bills = fresh.bills;
        demands = fresh.demands;
        receipts = fresh.receipts;
        ships = fresh.ships;
        cums = fresh.cums;
        resets = fresh.resets;
        firms = fresh.firms;
        policies = fresh.policies;
        usages = fresh.usages;
        vendors = fresh.vendors;
        days = λ lt. absurd (omega arith);
        ended = fresh.ended;
      } in
      let said = day_said N row c k is in
      record {
        limits = refl;
        calendar = said.run;
        numbered = λ h. h;
        rows = behind (map plant_fields N.plants) _ _ row (behind (pair_rows N 0 N.pairs) _ _ row
            (behind (map (bill_fields N) N.bills) _ _ row (behind (map (demand_fields N) N.demands) _ _ row
            (behind (map (receipt_fields N) N.receipts) _ _ row (behind (map (ship_fields N) N.ships) _ _ row (behind (map (cum_fields N) N.cums) _ _ row
            (behind (map (reset_fields N) N.resets) _ _ row (behind (map (firm_fields N) N.firms) _ _ row
            (behind (map (policy_fields N) N.policies) _ _ row (behind (map (usage_fields N) N.usages) _ _ row
            (behind (map (vendor_fields N) N.vendors) _ _ row
            (at_ends _ (map day_fields N.calendar.begun) _ (last_row N) row
            (ap (map day_fields) said.begun_are ∙ map_push day_fields N.calendar.begun said.begun row said.row_is)
            (no_end (with_calendar N c) 13 more (omega arith)) (no_end N 13 fresh (omega arith))))))))))))));
        fresh = more;
      }

  end_adds : N.ended ≡ false → (rows : ℕ) → IsOfKind row kind.End → end_in_row N row ≡ Ok rows → Adds N (with_end N) kind.End row
  end_adds unended rows k is = record {
    limits = refl;
    calendar = refl;
    numbered = λ h. h;
    rows = behind (map plant_fields N.plants) _ _ row (behind (pair_rows N 0 N.pairs) _ _ row
        (behind (map (bill_fields N) N.bills) _ _ row (behind (map (demand_fields N) N.demands) _ _ row
        (behind (map (receipt_fields N) N.receipts) _ _ row (behind (map (ship_fields N) N.ships) _ _ row (behind (map (cum_fields N) N.cums) _ _ row
        (behind (map (reset_fields N) N.resets) _ _ row (behind (map (firm_fields N) N.firms) _ _ row
        (behind (map (policy_fields N) N.policies) _ _ row (behind (map (usage_fields N) N.usages) _ _ row
        (behind (map (vendor_fields N) N.vendors) _ _ row (behind (map day_fields N.calendar.begun) _ _ row
        (end_added N row unended (end_said N row rows k is))))))))))))));
    fresh = record {
      pairs = λ lt. absurd (omega arith);
      bills = λ lt. absurd (omega arith);
      demands = λ lt. absurd (omega arith);
      receipts = λ lt. absurd (omega arith);
      ships = λ lt. absurd (omega arith);
      cums = λ lt. absurd (omega arith);
      resets = λ lt. absurd (omega arith);
      firms = λ lt. absurd (omega arith);
      policies = λ lt. absurd (omega arith);
      usages = λ lt. absurd (omega arith);
      vendors = λ lt. absurd (omega arith);
      days = λ lt. absurd (omega arith);
      ended = λ lt. absurd (omega arith);
    };
  }

-- a pair, with its item and its sources
pair_adds : (N M : Table) (last : Kind) (row : Row) → IsReadSoFar N last → IsFresh N 2 → IsOfKind row kind.Pair → pair_row N row ≡ Ok M → Adds N M kind.Pair row
pair_adds N M last row so_far fresh k is =
    let a = after (pair_terms N.limits row) _ M is in
    let b = after (pair_fits N a.0) _ M a.2 in
    let same : with_pair_terms N b.0 a.0 ≡ M = same_Ok _ M b.2 in
    let fit = fits N a.0 b.0 b.1 in
    let pairs = pairs_written N b.0 a.0 so_far.read so_far.once so_far.sourced fit (pair_terms_are N.limits row a.0 a.1) row k
    (pair_terms_said N.limits row a.0 a.1) in
    subst (λ (m : Table). Adds N m kind.Pair row) same (record {
      limits = refl;
      calendar = refl;
      numbered = pair_numbered N b.0 a.0;
      rows = behind (map plant_fields N.plants) _ _ row
          (at_ends _ (pair_rows N 0 N.pairs) _ (from_bills N) row pairs (no_bills (with_pair_terms N b.0 a.0) 2 (more b.0 a.0) (omega arith))
          (no_bills N 2 fresh (omega arith)));
      fresh = more b.0 a.0;
    })
  where
    more : (plant : PlantNo) (t : PairTerms) → IsFresh (with_pair_terms N plant t) 2
    more plant t = record {
      pairs = λ lt. absurd (omega arith);
      bills = fresh.bills;
      demands = fresh.demands;
      receipts = fresh.receipts;
      ships =
          fresh.ships;
      cums = fresh.cums;
      resets = fresh.resets;
      firms = fresh.firms;
      policies = fresh.policies;
      usages = fresh.usages;
      vendors = fresh.vendors;
      days = fresh.days;
      ended = fresh.ended;
    }

-- what was read of a row makes the table with it
made_adds : {X : Type 0} (N : Table) (k : Kind) (row : Row) (read : Result X TableFaultKind) (made : X → Table) (M : Table)
    → ((x : X) → read ≡ Ok x → Adds N (made x) k row)
    → (read >>= λ x. Ok (made x)) ≡ Ok M → Adds N M k row
made_adds N k row read made M more is =
    let a = after read (λ x. Ok (made x)) M is in
    subst (λ (m : Table). Adds N m k row) (same_Ok (made a.0) M a.2) (more a.0 a.1)

row_adds : (k last : Kind) (N M : Table) (row : Row) → IsReadSoFar N last → kind_place last < kind_place kind.End → IsFresh N (kind_place k) → IsOfKind row k
    → row_of_kind k N row ≡ Ok M → Adds N M k row
unfolding row_of_kind
row_adds kind.Run last N M row so_far unended fresh k is = absurd (cc)
row_adds kind.Plant last N M row so_far unended fresh k is = made_adds N kind.Plant row (plant_in_row N row) (with_plant N) M (λ x. plant_adds N row x fresh k) is
row_adds kind.Pair last N M row so_far unended fresh k is = pair_adds N M last row so_far fresh k is
row_adds kind.Bill last N M row so_far unended fresh k is = made_adds N kind.Bill row (bill_of N row) (with_bill N) M (λ x. bill_adds N row x fresh k) is
row_adds kind.Demand last N M row so_far unended fresh k is = made_adds N kind.Demand row (demand_of N row) (with_demand N) M (λ x. demand_adds N row x fresh k) is
row_adds kind.Receipt last N M row so_far unended fresh k is = made_adds N kind.Receipt row (receipt_of N row) (with_receipt N) M (λ x. receipt_adds N row x fresh k) is
row_adds kind.Ship last N M row so_far unended fresh k is = made_adds N kind.Ship row (ship_of N row) (with_ship N) M (λ x. ship_adds N row x fresh k) is
row_adds kind.Cum last N M row so_far unended fresh k is = made_adds N kind.Cum row (cum_of N row) (with_cum N) M (λ x. cum_adds N row x fresh k) is
row_adds kind.Reset last N M row so_far unended fresh k is = made_adds N kind.Reset row (reset_in_row N row) (with_reset N) M (λ x. reset_adds N row x fresh k) is
row_adds kind.Firm last N M row so_far unended fresh k is = made_adds N kind.Firm row (firm_of N row) (with_firm N) M (λ x. firm_adds N row x fresh k) is
row_adds kind.Policy last N M row so_far unended fresh k is = made_adds N kind.Policy row (policy_of N row) (with_policy N) M (λ x. policy_adds N row x fresh k) is
row_adds kind.Usage last N M row so_far unended fresh k is = made_adds N kind.Usage row (usage_of N row) (with_usage N) M (λ x. usage_adds N row x fresh k) is
row_adds kind.Vendor last N M row so_far unended fresh k is = made_adds N kind.Vendor row (vendor_in_row N row) (with_vendor N) M (λ x. vendor_adds N row x fresh k) is
row_adds kind.Day last N M row so_far unended fresh k is = made_adds N kind.Day row (day_in_row N row) (with_calendar N) M (λ c. day_adds N row c fresh k) is
row_adds kind.End last N M row so_far unended fresh k is = made_adds N kind.End row (end_in_row N row) (λ rows. with_end N) M
    (λ rows. end_adds N row (so_far.ended unended) rows k) is

abbrev AddsTo : Table → Row → Table × Kind → Type 0
AddsTo N row t = Adds N t.0 t.1 row

row_after_adds : (s t : Table × Kind) (row : Row) → IsReadSoFar s.0 s.1 → IsFresh s.0 (kind_place s.1) → row_after s row ≡ Ok t → Adds s.0 t.0 t.1 row
unfolding row_after
row_after_adds s t row so_far fresh is =
    let a = after (kind_of_row row) _ t is in
    let b = after_check (may_follow a.0 s.1) _ _ t a.2 in
    let c = after (row_of_kind a.0 s.0 row) _ t b.1 in
    subst (AddsTo s.0 row) (same_Ok (c.0, a.0) t c.2)
    (row_adds a.0 s.1 s.0 c.0 row so_far (follows_no_end a.0 s.1 b.0)
    (stays_fresh s.0 (kind_place s.1) (kind_place a.0) fresh (follows a.0 s.1 b.0)) (of_kind row a.0 a.1) c.1)

-- ---- the rows one after the other

record AddsAll (N M : Table) (rows : List Row) : Type 0 where
  limits : M.limits ≡ N.limits
  calendar : run_fields M.calendar ≡ run_fields N.calendar
  numbered : IsNumbered N → IsNumbered M
  written : later_rows M ≡ later_rows N ++ rows

rows_add : (rows : List Row) (number : ℕ) (s : Table × Kind) (M : Table) → IsReadSoFar s.0 s.1 → IsFresh s.0 (kind_place s.1) → rows_after number s rows ≡ Ok M
    → AddsAll s.0 M rows
unfolding rows_after
rows_add [] number s M so_far fresh e =
    let same : s.0 ≡ M = cc in
    subst (λ (m : Table). AddsAll s.0 m []) same (record { limits = refl; calendar = refl; numbered = λ h. h; written = sym (append-nil (later_rows s.0)) })
rows_add (row ∷ rows) number s M so_far fresh e =
    let a = went_on (at_row number (row_after s row)) (λ t. rows_after (number + 1) t rows) M e in
    let one = was_read number (row_after s row) a.0 a.1 in
    let adds = row_after_adds s a.0 row so_far fresh one in
    let rest = rows_add rows (number + 1) a.0 M (row_after_keeps s a.0 row so_far one) adds.fresh a.2 in
    record {
      limits = rest.limits ∙ adds.limits;
      calendar = rest.calendar ∙ adds.calendar;
      numbered = λ h. rest.numbered (adds.numbered h);
      written = rest.written ∙ ap (λ l. l ++ rows) adds.rows ∙ append_assoc (later_rows s.0) (row ∷ []) rows;
    }

-- ---- the first row

record HasRun (limits : LimitSet) (N : Table) (row : Row) : Type 0 where
  same : N.limits ≡ limits
  run : row ≡ run_fields N.calendar
  empty : later_rows N ≡ []
  numbered : IsNumbered N
  fresh : IsFresh N 0

run_has : (limits : LimitSet) (N : Table) (row : Row) (t : RunTerms) (c : Result CalendarTerms CalFault) → first_terms limits row ≡ Ok t → IsCalendarOf t c
    → Ok N ≡ started limits c
    → HasRun limits N row
run_has limits N row t (Ok c) is says e =
    let same : empty_table limits c ≡ N = cc in
    subst (λ (m : Table). HasRun limits m row) same (record {
      same = refl;
      run = run_said limits row t c is says.0 says.1;
      empty = none _ [] (ap (map day_fields) says.0.begun) refl;
      numbered = refl;
      fresh = record {
        pairs = λ lt. refl;
        bills = λ lt. refl;
        demands = λ lt. refl;
        receipts = λ lt. refl;
        ships = λ lt. refl;
        cums = λ lt. refl;
        resets =
            λ lt. refl;
        firms = λ lt. refl;
        policies = λ lt. refl;
        usages = λ lt. refl;
        vendors = λ lt. refl;
        days = λ lt. says.0.begun;
        ended = λ lt. refl;
      };
    })
run_has limits N row t (Err f) is says e = absurd (cc)

start_has : (limits : LimitSet) (N : Table) (row : Row) (terms : Result RunTerms TableFaultKind) → first_terms limits row ≡ terms
    → StartsWith limits terms (Ok N) → HasRun limits N row
start_has limits N row (Ok t) is s = run_has limits N row t s.0 is s.1 s.2
start_has limits N row (Err e) is s = absurd (cc s)

-- ---- the whole table

record IsWritten (limits : LimitSet) (rows : List Row) (N : Table) : Type 0 where
  same : N.limits ≡ limits
  rows_are : rows ≡ rows_of N
  numbered : IsNumbered N

whole_written : (limits : LimitSet) (start : Result Table TableFaultKind) (row : Row) (rows : List Row) (N : Table) → Starts limits row start
    → Ok N ≡ read_from start rows
    → IsWritten limits (row ∷ rows) N
whole_written limits (Ok first) row rows N starts e =
    let a = went_on (rows_after 2 (first, kind.Run) rows) waiting N (sym e) in
    let w = waited a.0 N (first_lacking a.0 a.0.sources) a.2 in
    let has = start_has limits first row (first_terms limits row) refl starts in
    let all = rows_add rows 2 (first, kind.Run) a.0 (first_keeps limits first row starts) has.fresh a.1 in
    let head : row ≡ run_fields a.0.calendar = has.run ∙ sym all.calendar in
    let rest : rows ≡ later_rows a.0 = sym (all.written ∙ ap (λ l. l ++ rows) has.empty) in
    subst (IsWritten limits (row ∷ rows)) w.1 (record {
      same = all.limits ∙ has.same;
      rows_are = ap (λ r. r ∷ rows) head ∙ ap (λ l. run_fields a.0.calendar ∷ l) rest;
      numbered = all.numbered has.numbered;
    })
whole_written limits (Err k) row rows N starts e = absurd (cc)

is_written : (limits : LimitSet) (rows : List Row) (N : Table) → Reads limits rows (Ok N) → IsWritten limits rows N
is_written limits [] N e = absurd (cc)
is_written limits (row ∷ rows) N reads = whole_written limits reads.0 row rows N reads.1 reads.2

pub limits_written : (limits : LimitSet) (rows : List Row) (N : Table) → Reads limits rows (Ok N) → N.limits ≡ limits
limits_written limits rows N reads = (is_written limits rows N reads).same

pub written_out : (limits : LimitSet) (rows : List Row) (N : Table) → Reads limits rows (Ok N) → rows ≡ rows_of N
written_out limits rows N reads = (is_written limits rows N reads).rows_are

pub one_list : (limits : LimitSet) (a b : List Row) (N : Table) → Reads limits a (Ok N) → Reads limits b (Ok N) → a ≡ b
one_list limits a b N ra rb = written_out limits a N ra ∙ sym (written_out limits b N rb)

pub items_numbered : (limits : LimitSet) (rows : List Row) (N : Table) → Reads limits rows (Ok N) → AreNumbered 0 N.pairs (length N.items)
items_numbered limits rows N reads = (is_written limits rows N reads).numbered
