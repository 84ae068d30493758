-- A valid row more keeps a table valid.
use Rattle.std.proofs.Common.{◌≡◌, ◌≤◌, ◌<◌, ◌&&◌, ℕ, ltb, leb, true, List, Result, Ok, refl, subst, arith}
use Rattle.std.proofs.lemmas.Bool.{and_parts}
use Rattle.std.proofs.lemmas.Bool.Decides.{nat_tests}
use Rattle.std.proofs.lemmas.List.Elements.{All-nil}
use Rattle.mrp_master_data.specs.declared.rows.BillRow.{BillRow}
use Rattle.mrp_master_data.specs.declared.rows.CumRow.{CumRow}
use Rattle.mrp_master_data.specs.declared.rows.DemandRow.{DemandRow}
use Rattle.mrp_master_data.specs.declared.rows.FirmRow.{FirmRow}
use Rattle.mrp_master_data.specs.declared.rows.PolicyRow.{PolicyRow}
use Rattle.mrp_master_data.specs.declared.rows.ReceiptRow.{ReceiptRow}
use Rattle.mrp_master_data.specs.declared.rows.ResetRow.{ResetRow}
use Rattle.mrp_master_data.specs.declared.rows.ShipRow.{ShipRow}
use Rattle.mrp_master_data.specs.declared.rows.UsageRow.{UsageRow}
use Rattle.mrp_master_data.specs.Rows.{Vendor}
use Rattle.std.specs.Str.{bytes_eq}
use Rattle.mrp_cal.specs.Calendar.{CalendarTerms, IsCalendar}
use Rattle.mrp_validation.specs.declared.fault.TableFaultKind.{TableFaultKind}
use Rattle.mrp_validation.specs.declared.kind.Kind.{Kind}
use Rattle.mrp_validation.specs.declared.kind.Kind.TheVariants as kind
use Rattle.mrp_validation.specs.Grammar.{◌>>=◌, bill_of, cum_of, demand_of, may_follow, kind_place, plant_in_row, receipt_of, reset_in_row, ship_of}
use Rattle.mrp_validation.specs.Grammar.{day_in_row, end_in_row, firm_of, policy_of, usage_of, vendor_in_row}
use Rattle.mrp_master_data.specs.Growing.{with_plant, with_bill, with_demand, with_receipt, with_ship, with_cum, with_reset, with_firm, with_policy, with_usage}
use Rattle.mrp_master_data.specs.Growing.{with_calendar, with_end, with_vendor}
use Rattle.mrp_validation.specs.Reading.{IsReadSoFar, kind_of_row, row_after, row_of_kind}
use Rattle.mrp_master_data.specs.Table.{Table, IsBillRow, IsCumRow, IsDemandRow, IsFirmRow, IsName, IsPairRow, IsPolicyRow}
use Rattle.mrp_master_data.specs.Table.{IsReceiptRow, IsResetRow, IsShipRow, IsSourceRow, IsUsageRow, IsVendorRow, is_same_pair}
use Rattle.mrp_master_data.specs.Table.{is_same_source, is_same_bill, is_same_cum, is_same_policy, is_same_reset, is_same_usage, is_same_vendor}
use Rattle.mrp_master_data.specs.Growing.{empty_table}
use Rattle.mrp_validation.proofs.KeepingBill.{bill_keeps}
use Rattle.mrp_master_data.proofs.Grow.{read-with_end}
use Rattle.mrp_master_data.proofs.SpelledLists.{IsDistinct-nil}
use Rattle.mrp_validation.proofs.KeepingPair.{pair_keeps}
use Rattle.mrp_validation.proofs.KeepingRead.{bill_read, cum_read, demand_read, firm_read, plant_read, policy_read, receipt_read, reset_read, ship_read}
use Rattle.mrp_validation.proofs.KeepingRead.{usage_read}
use Rattle.mrp_validation.proofs.KeepingRows.{plant_keeps, demand_keeps, receipt_keeps, ship_keeps, cum_keeps, reset_keeps, firm_keeps, policy_keeps}
use Rattle.mrp_validation.proofs.KeepingSteps.{after, after_check, same_Ok}
use Rattle.mrp_validation.proofs.KeepingUsage.{usage_keeps}
use Rattle.mrp_validation.proofs.KeepingDay.{day_read, once_but, sourced_but}
use Rattle.mrp_validation.proofs.KeepingVendor.{vendor_keeps, vendor_read}
use Rattle.mrp_qty.specs.declared.limits.LimitSet.{LimitSet}
use Rattle.mrp_qty.specs.Limits.{limits_of}

-- a kind stands with the kinds before it
pub follows : (k last : Kind) → may_follow k last ≡ true → kind_place last ≤ kind_place k
follows k last e =
    let all = and_parts (ltb 0 (kind_place k) && leb (kind_place last) (kind_place k)) (ltb (kind_place last) (kind_place kind.End)) e in
    let parts = and_parts (ltb 0 (kind_place k)) (leb (kind_place last) (kind_place k)) all.0 in
    grind (arith, nat_tests)

-- and not behind the end
pub follows_no_end : (k last : Kind) → may_follow k last ≡ true → kind_place last < kind_place kind.End
follows_no_end k last e =
    let all = and_parts (ltb 0 (kind_place k) && leb (kind_place last) (kind_place k)) (ltb (kind_place last) (kind_place kind.End)) e in
    grind (arith, nat_tests)

module _ (N : Table) (last : Kind) (row : List (List ℕ)) (so_far : IsReadSoFar N last) where
  plant_more : (x : List ℕ) → kind_place last ≤ 1 → plant_in_row N row ≡ Ok x → IsReadSoFar (with_plant N x) kind.Plant
  plant_more x before is =
      let kept = plant_keeps N row x so_far.once so_far.sourced (so_far.vendors (omega (arith, before))) is in
      record {
        read = plant_read N row x so_far.read is;
        once = kept.0;
        sourced = kept.1;
        items = so_far.items;
        sources = so_far.sources;
        resets =
            λ lt. so_far.resets (omega (arith, before));
        vendors = λ lt. so_far.vendors (omega (arith, before));
        ended = λ lt. so_far.ended (omega (arith, before));
      }

  bill_more : (x : BillRow) → kind_place last ≤ 3 → bill_of N row ≡ Ok x → IsReadSoFar (with_bill N x) kind.Bill
  bill_more x before is =
      let kept = bill_keeps N row x so_far.once so_far.sourced is in
      record {
        read = bill_read N row x so_far.read is;
        once = kept.0;
        sourced = kept.1;
        items = so_far.items;
        sources = so_far.sources;
        resets =
            λ lt. so_far.resets (omega (arith, before));
        vendors = λ lt. so_far.vendors (omega (arith, before));
        ended = λ lt. so_far.ended (omega (arith, before));
      }

  demand_more : (x : DemandRow) → kind_place last ≤ 4 → demand_of N row ≡ Ok x → IsReadSoFar (with_demand N x) kind.Demand
  demand_more x before is =
      let kept = demand_keeps N x so_far.once so_far.sourced in
      record {
        read = demand_read N row x so_far.read is;
        once = kept.0;
        sourced = kept.1;
        items = so_far.items;
        sources = so_far.sources;
        resets =
            λ lt. so_far.resets (omega (arith, before));
        vendors = λ lt. so_far.vendors (omega (arith, before));
        ended = λ lt. so_far.ended (omega (arith, before));
      }

  receipt_more : (x : ReceiptRow) → kind_place last ≤ 5 → receipt_of N row ≡ Ok x → IsReadSoFar (with_receipt N x) kind.Receipt
  receipt_more x before is =
      let kept = receipt_keeps N x so_far.once so_far.sourced in
      record {
        read = receipt_read N row x so_far.read is;
        once = kept.0;
        sourced = kept.1;
        items = so_far.items;
        sources = so_far.sources;
        resets =
            λ lt. so_far.resets (omega (arith, before));
        vendors = λ lt. so_far.vendors (omega (arith, before));
        ended = λ lt. so_far.ended (omega (arith, before));
      }

  ship_more : (x : ShipRow) → kind_place last ≤ 6 → ship_of N row ≡ Ok x → IsReadSoFar (with_ship N x) kind.Ship
  ship_more x before is =
      let kept = ship_keeps N row x so_far.once so_far.sourced (so_far.resets (omega (arith, before))) is in
      record {
        read = ship_read N row x so_far.read is;
        once = kept.0;
        sourced = kept.1;
        items = so_far.items;
        sources = so_far.sources;
        resets =
            λ lt. so_far.resets (omega (arith, before));
        vendors = λ lt. so_far.vendors (omega (arith, before));
        ended = λ lt. so_far.ended (omega (arith, before));
      }

  cum_more : (x : CumRow) → kind_place last ≤ 7 → cum_of N row ≡ Ok x → IsReadSoFar (with_cum N x) kind.Cum
  cum_more x before is =
      let kept = cum_keeps N row x so_far.once so_far.sourced is in
      record {
        read = cum_read N row x so_far.read is;
        once = kept.0;
        sourced = kept.1;
        items = so_far.items;
        sources = so_far.sources;
        resets =
            λ lt. so_far.resets (omega (arith, before));
        vendors = λ lt. so_far.vendors (omega (arith, before));
        ended = λ lt. so_far.ended (omega (arith, before));
      }

  reset_more : (x : ResetRow) → kind_place last ≤ 8 → reset_in_row N row ≡ Ok x → IsReadSoFar (with_reset N x) kind.Reset
  reset_more x before is =
      let kept = reset_keeps N row x so_far.once so_far.sourced is in
      record {
        read = reset_read N row x so_far.read kept.0 kept.1 is;
        once = kept.0;
        sourced = kept.1;
        items = so_far.items;
        sources = so_far.sources;
        resets =
            λ lt. absurd (omega arith);
        vendors = λ lt. so_far.vendors (omega (arith, before));
        ended = λ lt. so_far.ended (omega (arith, before));
      }

  firm_more : (x : FirmRow) → kind_place last ≤ 9 → firm_of N row ≡ Ok x → IsReadSoFar (with_firm N x) kind.Firm
  firm_more x before is =
      let kept = firm_keeps N x so_far.once so_far.sourced in
      record {
        read = firm_read N row x so_far.read is;
        once = kept.0;
        sourced = kept.1;
        items = so_far.items;
        sources = so_far.sources;
        resets =
            λ lt. absurd (omega arith);
        vendors = λ lt. so_far.vendors (omega (arith, before));
        ended = λ lt. so_far.ended (omega (arith, before));
      }

  policy_more : (x : PolicyRow) → kind_place last ≤ 10 → policy_of N row ≡ Ok x → IsReadSoFar (with_policy N x) kind.Policy
  policy_more x before is =
      let kept = policy_keeps N row x so_far.once so_far.sourced is in
      record {
        read = policy_read N row x so_far.read kept.0 is;
        once = kept.0;
        sourced = kept.1;
        items = so_far.items;
        sources = so_far.sources;
        resets =
            λ lt. absurd (omega arith);
        vendors = λ lt. so_far.vendors (omega (arith, before));
        ended = λ lt. so_far.ended (omega (arith, before));
      }

  usage_more : (x : UsageRow) → kind_place last ≤ 11 → usage_of N row ≡ Ok x → IsReadSoFar (with_usage N x) kind.Usage
  usage_more x before is =
      let kept = usage_keeps N row x so_far.once so_far.sourced is in
      record {
        read = usage_read N row x so_far.read is;
        once = kept.0;
        sourced = kept.1;
        items = so_far.items;
        sources = so_far.sources;
        resets =
            λ lt. absurd (omega arith);
        vendors = λ lt. so_far.vendors (omega (arith, before));
        ended = λ lt. so_far.ended (omega (arith, before));
      }

  vendor_more : (v : Vendor) → kind_place last ≤ 12 → vendor_in_row N row ≡ Ok v → IsReadSoFar (with_vendor N v) kind.Vendor
  vendor_more v before is =
      let kept = vendor_keeps N row v so_far.once so_far.sourced is in
      record {
        read = vendor_read N row v so_far.read kept.0 is;
        once = kept.0;
        sourced = kept.1;
        items = so_far.items;
        sources = so_far.sources;
        resets = λ lt. absurd (omega arith);
        vendors = λ lt. absurd (omega arith);
        ended = λ lt. so_far.ended (omega (arith, before));
      }

  day_more : (c : CalendarTerms) → kind_place last ≤ 13 → day_in_row N row ≡ Ok c → IsReadSoFar (with_calendar N c) kind.Day
  day_more c before is = record {
    read = day_read N row c so_far.read is;
    once = once_but N c N.ended so_far.once;
    sourced = sourced_but N c N.ended so_far.sourced;
    items = so_far.items;
    sources = so_far.sources;
    resets = λ lt. absurd (omega arith);
    vendors = λ lt. absurd (omega arith);
    ended = λ lt. so_far.ended (omega (arith, before));
  }

  end_more : IsReadSoFar (with_end N) kind.End
  end_more = record {
    read = read-with_end N so_far.read;
    once = once_but N N.calendar true so_far.once;
    sourced = sourced_but N N.calendar true so_far.sourced;
    items = so_far.items;
    sources = so_far.sources;
    resets = λ lt. absurd (omega arith);
    vendors = λ lt. absurd (omega arith);
    ended = λ lt. absurd (omega arith);
  }

-- what was read of a row makes the table with it
made_keeps : {X : Type 0} (k : Kind) (read : Result X TableFaultKind) (made : X → Table) (M : Table) → ((x : X) → read ≡ Ok x → IsReadSoFar (made x) k)
    → (read >>= λ x. Ok (made x)) ≡ Ok M → IsReadSoFar M k
made_keeps k read made M more is =
    let a = after read (λ x. Ok (made x)) M is in
    subst (λ (m : Table). IsReadSoFar m k) (same_Ok (made a.0) M a.2) (more a.0 a.1)

-- one row more of each kind
row_keeps : (k last : Kind) (N M : Table) (row : List (List ℕ)) → IsReadSoFar N last → kind_place last ≤ kind_place k → row_of_kind k N row ≡ Ok M
    → IsReadSoFar M k
unfolding row_of_kind
row_keeps kind.Run last N M row so_far before is = absurd (cc)
row_keeps kind.Plant last N M row so_far before is = made_keeps kind.Plant (plant_in_row N row) (with_plant N) M (λ x. plant_more N last row so_far x before) is
row_keeps kind.Pair last N M row so_far before is = pair_keeps N M last row so_far before is
row_keeps kind.Bill last N M row so_far before is = made_keeps kind.Bill (bill_of N row) (with_bill N) M (λ x. bill_more N last row so_far x before) is
row_keeps kind.Demand last N M row so_far before is = made_keeps kind.Demand (demand_of N row) (with_demand N) M
    (λ x. demand_more N last row so_far x before) is
row_keeps kind.Receipt last N M row so_far before is = made_keeps kind.Receipt (receipt_of N row) (with_receipt N) M
    (λ x. receipt_more N last row so_far x before) is
row_keeps kind.Ship last N M row so_far before is = made_keeps kind.Ship (ship_of N row) (with_ship N) M (λ x. ship_more N last row so_far x before) is
row_keeps kind.Cum last N M row so_far before is = made_keeps kind.Cum (cum_of N row) (with_cum N) M (λ x. cum_more N last row so_far x before) is
row_keeps kind.Reset last N M row so_far before is = made_keeps kind.Reset (reset_in_row N row) (with_reset N) M (λ x. reset_more N last row so_far x before) is
row_keeps kind.Firm last N M row so_far before is = made_keeps kind.Firm (firm_of N row) (with_firm N) M (λ x. firm_more N last row so_far x before) is
row_keeps kind.Policy last N M row so_far before is = made_keeps kind.Policy (policy_of N row) (with_policy N) M (λ x. policy_more N last row so_far x before) is
row_keeps kind.Usage last N M row so_far before is = made_keeps kind.Usage (usage_of N row) (with_usage N) M (λ x. usage_more N last row so_far x before) is
row_keeps kind.Vendor last N M row so_far before is = made_keeps kind.Vendor (vendor_in_row N row) (with_vendor N) M
    (λ v. vendor_more N last row so_far v before) is
row_keeps kind.Day last N M row so_far before is = made_keeps kind.Day (day_in_row N row) (with_calendar N) M (λ c. day_more N last row so_far c before) is
row_keeps kind.End last N M row so_far before is = made_keeps kind.End (end_in_row N row) (λ rows. with_end N) M (λ rows ok. end_more N last row so_far) is

-- a table and the kind of its last row
abbrev Kept : Table × Kind → Type 0
Kept s = IsReadSoFar s.0 s.1

pub row_after_keeps : (s t : Table × Kind) (row : List (List ℕ)) → IsReadSoFar s.0 s.1 → row_after s row ≡ Ok t → IsReadSoFar t.0 t.1
unfolding row_after
row_after_keeps s t row so_far is =
    let a = after (kind_of_row row) _ t is in
    let b = after_check (may_follow a.0 s.1) _ _ t a.2 in
    let c = after (row_of_kind a.0 s.0 row) _ t b.1 in
    subst Kept (same_Ok (c.0, a.0) t c.2) (row_keeps a.0 s.1 s.0 c.0 row so_far (follows a.0 s.1 b.0) c.1)

-- the run alone
pub empty_keeps : (limits : LimitSet) (c : CalendarTerms) → IsCalendar c → c.periods ≤ (limits_of limits).periods → IsReadSoFar (empty_table limits c) kind.Run
empty_keeps limits c calendar within = record {
  read = record {
    calendar = calendar;
    limits = record {
      some_periods = calendar.periods.0;
      periods = within;
      plants = omega arith;
      items = omega arith;
      pairs = omega arith;
      sources = omega arith;
      bills = omega arith;
      demands = omega arith;
      receipts = omega arith;
      ships = omega arith;
      cums = omega arith;
      resets = omega arith;
      firms = omega arith;
      policies = omega arith;
      usages = omega arith;
      vendors = omega arith;
    };
    plants = All-nil IsName;
    items = All-nil IsName;
    pairs = All-nil (IsPairRow (empty_table limits c));
    sources = All-nil (IsSourceRow (empty_table limits c));
    bills = All-nil (IsBillRow (empty_table limits c));
    demands = All-nil (IsDemandRow (empty_table limits c));
    receipts = All-nil (IsReceiptRow (empty_table limits c));
    ships = All-nil (IsShipRow (empty_table limits c));
    cums = All-nil (IsCumRow (empty_table limits c));
    resets = All-nil (IsResetRow (empty_table limits c));
    firms = All-nil (IsFirmRow (empty_table limits c));
    policies = All-nil (IsPolicyRow (empty_table limits c));
    usages = All-nil (IsUsageRow (empty_table limits c));
    vendors = All-nil (IsVendorRow (empty_table limits c));
  };
  once = record {
    plants = IsDistinct-nil bytes_eq;
    items = IsDistinct-nil bytes_eq;
    pairs = IsDistinct-nil is_same_pair;
    sources = IsDistinct-nil is_same_source;
    bills = IsDistinct-nil is_same_bill;
    cums = IsDistinct-nil is_same_cum;
    resets = IsDistinct-nil is_same_reset;
    policies = IsDistinct-nil is_same_policy;
    usages = IsDistinct-nil is_same_usage;
    vendors = IsDistinct-nil is_same_vendor;
  };
  sourced = record {
    items = λ i lt. absurd (omega arith);
    few = λ x lt. absurd (omega arith);
    arrive = λ k d lt. absurd (omega arith);
    order = λ i j d le lt. absurd (omega arith);
    supplies = λ x lt. absurd (omega arith);
    others = λ k d lt. absurd (omega arith);
    parents = λ k d lt. absurd (omega arith);
    plants = λ k d lt. absurd (omega arith);
    ships = λ k d lt. absurd (omega arith);
    cums = λ k d lt. absurd (omega arith);
    resets = λ k d lt. absurd (omega arith);
    usages = λ k d lt. absurd (omega arith);
    vendors = λ k d lt. absurd (omega arith);
    named = λ k d lt. absurd (omega arith);
  };
  items = omega arith;
  sources = omega arith;
  resets = λ lt. refl;
  vendors = λ lt. refl;
  ended = λ lt. refl;
}
