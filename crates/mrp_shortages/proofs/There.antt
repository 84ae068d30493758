-- Shortages: what is there of a pair in period 0, and that it is within 64 bits.
use Rattle.std.proofs.Common.{◌≡◌, ◌∙◌, ℕ, ◌+◌, ◌*◌, ◌^◌, ◌<◌, ◌≤◌, ◌==◌, cond, List, [], ◌∷◌, length, slice_index, ap, arith}
use Rattle.std.specs.List.{sum_by}
use Rattle.std.proofs.lemmas.Bool.{cond_both}
use Rattle.std.proofs.lemmas.List.FromFn.{length-map-range_with_len}
use Rattle.std.proofs.lemmas.List.Sums.{sum_by-cons}
use Rattle.mrp_netting.specs.PlanRows.{PlanRows}
use Rattle.mrp_netting.proofs.OneRows.{length-one-order}
use Rattle.mrp_master_data.specs.declared.rows.FirmRow.{FirmRow}
use Rattle.mrp_master_data.specs.Table.{Table, IsTable, IsPair, horizon}
use Rattle.mrp_net.specs.FirmOrders.{due_in, firm_total, firms_of}
use Rattle.mrp_net.specs.Plan.{gross, pair_data, rows_at}
use Rattle.mrp_net.specs.PlanLaws.{Fits}
use Rattle.mrp_net.specs.Policies.{policy_of}
use Rattle.mrp_net.specs.Sums.{incoming, opening_total, pair_at, received, received_total, shipped, shipped_total, vendor_total}
use Rattle.mrp_net.proofs.Firms.{firm_total-is}
use Rattle.mrp_net.proofs.Sooner.{when_due-all, when_due-none}
use Rattle.mrp_net.proofs.Periods.{arrivals-le}
use Rattle.mrp_loops.specs.Sized.{IsSized}
use Rattle.mrp_qty.specs.declared.quantity.TheConstants.{MOST}

-- there is a period 0
pub some_period : (N : Table) → IsTable N → 0 < horizon N
some_period N is = omega (arith, is.read.limits.some_periods)

-- of receipts that may be counted sooner none is among what comes in at its time
pub come_sooner : (N : Table) (x : ℕ) → 0 < (policy_of N x).sooner → incoming N x 0 ≡ shipped N x 0
come_sooner N x some = omega (arith, when_due-none N x 0 some)

pub come_when_due : (N : Table) (x : ℕ) → (policy_of N x).sooner ≡ 0 → incoming N x 0 ≡ received N x 0 + shipped N x 0
come_when_due N x none = omega (arith, when_due-all N x 0 none)

-- in a sized network what comes in and the firm planned orders of a pair are within its bound
supply_within : (N : Table) (x : ℕ) → IsSized N → IsPair N x → received_total N x + shipped_total N x + firm_total N x ≤ MOST
supply_within N x is pair =
    let all : (pair_at N x).on_hand + received_total N x + shipped_total N x + opening_total N x + firm_total N x + vendor_total N x
    + slice_index is.needs x ≤ MOST = is.within x pair in
    omega (arith, all)

pub come_within : (N : Table) (x : ℕ) → IsSized N → IsPair N x → received N x 0 + shipped N x 0 ≤ MOST
come_within N x is pair = omega (arith, arrivals-le N x 0 (some_period N is.table), supply_within N x is pair)

-- the orders of a plan that fits have all periods
pub order_length : (N : Table) (table : List PlanRows) (x : ℕ) → Fits N table → IsPair N x → length (rows_at table x).order ≡ horizon N
order_length N table x fits in_table =
    ap (λ (r : PlanRows). length r.order) (fits.rows x in_table)
    ∙ length-one-order (pair_data N table x)
    ∙ length-map-range_with_len (gross N table x) 0 (horizon N)

-- all firm planned orders of a pair
pub firms_within : (N : Table) (x : ℕ) (orders : List FirmRow) → IsSized N → IsPair N x → orders ≡ firms_of N x → sum_by (λ f. f.quantity) orders ≤ MOST
firms_within N x orders is pair are =
    omega (arith, ap (λ (fs : List FirmRow). sum_by (λ (f : FirmRow). f.quantity) fs) are, firm_total-is N x, supply_within N x is pair)

-- those that are due in a period are no more than all
pub due_le : (orders : List FirmRow) (t : ℕ) → due_in orders t ≤ sum_by (λ f. f.quantity) orders
due_le [] t = omega arith
due_le (f ∷ orders) t =
    let own : cond (f.due == t) f.quantity 0 ≤ f.quantity =
    cond_both (f.due == t) f.quantity 0 (λ n. n ≤ f.quantity) (λ _. omega arith) (λ _. omega arith) in
    omega (
      arith,
      own,
      due_le orders t,
      sum_by-cons (λ (g : FirmRow). cond (g.due == t) g.quantity 0) f orders,
      sum_by-cons (λ (g : FirmRow). g.quantity) f orders,
    )
