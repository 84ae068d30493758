-- Validation keeps the limits of a table: they are those within which its rows are read, from the first row on.
use Rattle.std.proofs.Common.{◌≡◌, ◌∙◌, ℕ, List, Result, Ok, Err, refl, sym, ap}
use Rattle.mrp_cal.specs.Calendar.{CalendarTerms}
use Rattle.mrp_cal.specs.declared.fault.CalFault.{CalFault}
use Rattle.mrp_qty.specs.declared.limits.LimitSet.{LimitSet}
use Rattle.mrp_master_data.specs.Growing.{empty_table, with_bill, with_calendar, with_cum, with_demand, with_end, with_firm, with_plant, with_policy}
use Rattle.mrp_master_data.specs.Growing.{with_receipt, with_reset, with_ship, with_usage, with_vendor}
use Rattle.mrp_master_data.specs.Table.{Table}
use Rattle.mrp_validation.specs.declared.fault.TableFaultKind.{TableFaultKind}
use Rattle.mrp_validation.specs.declared.kind.Kind.{Kind}
use Rattle.mrp_validation.specs.declared.kind.Kind.TheVariants as kind
use Rattle.mrp_validation.specs.Grammar.{◌>>=◌, bill_of, cum_of, day_in_row, demand_of, end_in_row, firm_of, may_follow, pair_fits, pair_terms}
use Rattle.mrp_validation.specs.Grammar.{plant_in_row, policy_of, receipt_of, reset_in_row, RunTerms, ship_of, usage_of, vendor_in_row, with_pair_terms}
use Rattle.mrp_validation.specs.Reading.{first_terms, kind_of_row, row_after, row_of_kind, started, Starts, StartsWith}
use Rattle.mrp_validation.proofs.KeepingSteps.{after, after_check, same_Ok}

-- ---- the first row

run_limits : (limits : LimitSet) (N : Table) (c : Result CalendarTerms CalFault) → Ok N ≡ started limits c → N.limits ≡ limits
run_limits limits N (Ok c) is = let same : N ≡ empty_table limits c = cc in ap (λ (m : Table). m.limits) same
run_limits limits N (Err e) is = absurd (cc)

with_limits : (limits : LimitSet) (N : Table) (terms : Result RunTerms TableFaultKind) → StartsWith limits terms (Ok N) → N.limits ≡ limits
with_limits limits N (Ok t) s = run_limits limits N s.0 s.2
with_limits limits N (Err e) s = absurd (cc s)

pub start_limits : (limits : LimitSet) (N : Table) (row : List (List ℕ)) → Starts limits row (Ok N) → N.limits ≡ limits
start_limits limits N row s = with_limits limits N (first_terms limits row) s

-- ---- the rows after it

made_limits : {X : Type 0} (N : Table) (read : Result X TableFaultKind) (made : X → Table) (M : Table) → ((x : X) → (made x).limits ≡ N.limits)
    → (read >>= λ x. Ok (made x)) ≡ Ok M → M.limits ≡ N.limits
made_limits N read made M keeps is =
    let a = after read (λ x. Ok (made x)) M is in
    ap (λ (m : Table). m.limits) (sym (same_Ok (made a.0) M a.2)) ∙ keeps a.0

pair_limits : (N M : Table) (row : List (List ℕ)) → (pair_terms N.limits row >>= λ t. pair_fits N t >>= λ plant. Ok (with_pair_terms N plant t)) ≡ Ok M
    → M.limits ≡ N.limits
pair_limits N M row is =
    let a = after (pair_terms N.limits row) _ M is in
    made_limits N (pair_fits N a.0) (λ plant. with_pair_terms N plant a.0) M (λ plant. refl) a.2

kind_limits : (k : Kind) (N M : Table) (row : List (List ℕ)) → row_of_kind k N row ≡ Ok M → M.limits ≡ N.limits
unfolding row_of_kind
kind_limits kind.Run N M row is = absurd (cc)
kind_limits kind.Plant N M row is = made_limits N (plant_in_row N row) (with_plant N) M (λ x. refl) is
kind_limits kind.Pair N M row is = pair_limits N M row is
kind_limits kind.Bill N M row is = made_limits N (bill_of N row) (with_bill N) M (λ x. refl) is
kind_limits kind.Demand N M row is = made_limits N (demand_of N row) (with_demand N) M (λ x. refl) is
kind_limits kind.Receipt N M row is = made_limits N (receipt_of N row) (with_receipt N) M (λ x. refl) is
kind_limits kind.Ship N M row is = made_limits N (ship_of N row) (with_ship N) M (λ x. refl) is
kind_limits kind.Cum N M row is = made_limits N (cum_of N row) (with_cum N) M (λ x. refl) is
kind_limits kind.Reset N M row is = made_limits N (reset_in_row N row) (with_reset N) M (λ x. refl) is
kind_limits kind.Firm N M row is = made_limits N (firm_of N row) (with_firm N) M (λ x. refl) is
kind_limits kind.Policy N M row is = made_limits N (policy_of N row) (with_policy N) M (λ x. refl) is
kind_limits kind.Usage N M row is = made_limits N (usage_of N row) (with_usage N) M (λ x. refl) is
kind_limits kind.Vendor N M row is = made_limits N (vendor_in_row N row) (with_vendor N) M (λ x. refl) is
kind_limits kind.Day N M row is = made_limits N (day_in_row N row) (with_calendar N) M (λ x. refl) is
kind_limits kind.End N M row is = made_limits N (end_in_row N row) (λ rows. with_end N) M (λ x. refl) is

pub row_limits : (s t : Table × Kind) (row : List (List ℕ)) → row_after s row ≡ Ok t → t.0.limits ≡ s.0.limits
unfolding row_after
row_limits s t row is =
    let a = after (kind_of_row row) _ t is in
    let b = after_check (may_follow a.0 s.1) _ _ t a.2 in
    let c = after (row_of_kind a.0 s.0 row) _ t b.1 in
    ap (λ (u : Table × Kind). u.0.limits) (sym (same_Ok (c.0, a.0) t c.2)) ∙ kind_limits a.0 s.0 c.0 row c.1
