-- Reach: a table that goes on where another one ends.
use Rattle.std.specs.Prelude.{◌≡◌, ℕ, ◌+◌, ◌≤◌, ◌<◌, ◌⊎◌, nat_lt, if◌then◌else◌, Option, Some, None, map, filter, All}
use Rattle.mrp_master_data.specs.Rows.{Vendor}
use Rattle.mrp_master_data.specs.Table.{Table, horizon}
use Rattle.mrp_net.specs.Policies.{policy_of}

-- a reset of a vendor's figures, if it is in one of so many periods
abbrev pub reset_below : ℕ → Option ℕ → Option ℕ
reset_below T None = None
reset_below T (Some t) = if nat_lt t T then Some t else None

-- what a vendor row says, without a reset behind so many periods
abbrev pub vendor_below : ℕ → Vendor → Vendor
vendor_below T v = record v { reset = reset_below T v.reset }

-- M has at least as many periods as N, of the same days, and the same plants, pairs, sources, bills, policies and
-- opening figures. Its rows of the periods of N are those of N, in order; firm planned orders count by their release.
-- Receipts of a pair that come later come more than SOONER periods behind the last period of N, so that the plan counts
-- none of them in it
pub record Lengthens (N M : Table) : Type 0 where
  pub first : M.calendar.first ≡ N.calendar.first
  pub days : M.calendar.days ≡ N.calendar.days
  pub begun : filter (λ b. nat_lt b.period (horizon N)) M.calendar.begun ≡ N.calendar.begun
  pub longer : horizon N ≤ horizon M
  pub plants : M.plants ≡ N.plants
  pub items : M.items ≡ N.items
  pub pairs : M.pairs ≡ N.pairs
  pub sources : M.sources ≡ N.sources
  pub bills : M.bills ≡ N.bills
  pub policies : M.policies ≡ N.policies
  pub cums : M.cums ≡ N.cums
  pub vendors : map (vendor_below (horizon N)) M.vendors ≡ N.vendors
  pub demands : filter (λ d. nat_lt d.period (horizon N)) M.demands ≡ N.demands
  pub receipts : filter (λ r. nat_lt r.period (horizon N)) M.receipts ≡ N.receipts
  pub later_receipts : All (λ r. (r.period < horizon N)
      ⊎ (horizon N + (policy_of N r.pair.0).sooner ≤ r.period)) M.receipts
  pub ships : filter (λ s. nat_lt s.period (horizon N)) M.ships ≡ N.ships
  pub resets : filter (λ r. nat_lt r.period (horizon N)) M.resets ≡ N.resets
  pub firms : filter (λ f. nat_lt f.start (horizon N)) M.firms ≡ N.firms
  pub usages : filter (λ u. nat_lt u.period (horizon N)) M.usages ≡ N.usages
