-- The network: what its rows add up to for each pair. Rows that are equal all count.
use Rattle.std.specs.Prelude.{ℕ, ◌+◌, ◌==◌, ◌&&◌, nat_lt, max, if◌then◌else◌, List, [], map, sum_by, slice_index_or}
use Rattle.std.specs.List.{range_with_len}
use Rattle.mrp_netting.specs.declared.params.PairParams.{PairParams}
use Rattle.mrp_lot.specs.declared.rule.Rule.TheVariants.{LotForLot}
use Rattle.mrp_master_data.specs.declared.rows.PairRow.{PairRow}
use Rattle.mrp_master_data.specs.declared.rows.Supply.TheVariants.{Buy}
use Rattle.mrp_master_data.specs.Rows.{params_of}
use Rattle.mrp_master_data.specs.Table.{Table, horizon}
use Rattle.mrp_netting.specs.PlanningData.{PairTerms}
use Rattle.mrp_net.specs.FirmOrders.{firms_of, firm_total}
use Rattle.mrp_net.specs.Policies.{policy_of}
use Rattle.mrp_net.specs.Terms.{terms_of}

-- what a look-up past the pairs of the table reads
abbrev pub no_pair : PairRow
no_pair =
    record {
      plant = record { 0 = 0 };
      item = record { 0 = 0 };
      supply = Buy;
      rule = LotForLot;
      lead = 0;
      on_hand =
          0;
      safety = 0;
    }

-- the row of a pair
abbrev pub pair_at : Table → ℕ → PairRow
pair_at N x = slice_index_or N.pairs x no_pair

-- what the plan of the pair needs of its row
abbrev pub params_at : Table → ℕ → PairParams
params_at N x = params_of (pair_at N x)

-- an amount for each period, as a row
abbrev pub row_of : Table → (ℕ → ℕ) → List ℕ
row_of N amount = map amount (range_with_len 0 (horizon N))

-- the demand rows of a pair in a period, and in all periods
abbrev pub demand : Table → ℕ → ℕ → ℕ
demand N x t = sum_by (λ d. if (d.pair.0 == x) && (d.period == t) then d.quantity else 0) N.demands

abbrev pub demand_total : Table → ℕ → ℕ
demand_total N x = sum_by (λ d. if d.pair.0 == x then d.quantity else 0) N.demands

-- the receipt rows of a pair in a period, and in all periods
abbrev pub received : Table → ℕ → ℕ → ℕ
received N x t = sum_by (λ r. if (r.pair.0 == x) && (r.period == t) then r.quantity else 0) N.receipts

abbrev pub received_total : Table → ℕ → ℕ
received_total N x = sum_by (λ r. if r.pair.0 == x then r.quantity else 0) N.receipts

-- the shipments to a pair that arrive in a period, and in all periods
abbrev pub shipped : Table → ℕ → ℕ → ℕ
shipped N x t = sum_by (λ s. if (s.pair.0 == x) && (s.period == t) then s.quantity else 0) N.ships

abbrev pub shipped_total : Table → ℕ → ℕ
shipped_total N x = sum_by (λ s. if s.pair.0 == x then s.quantity else 0) N.ships

-- the receipts that may be counted sooner than they come: of a pair whose policy has SOONER all of them
abbrev pub received_sooner : Table → ℕ → List ℕ
received_sooner N x = if nat_lt 0 (policy_of N x).sooner then row_of N (received N x) else []

-- and those that count when they come
abbrev pub received_when_due : Table → ℕ → ℕ → ℕ
received_when_due N x t = if nat_lt 0 (policy_of N x).sooner then 0 else received N x t

-- what comes in at its time, beside firm planned orders: receipts that count when they come, and shipments
abbrev pub incoming : Table → ℕ → ℕ → ℕ
incoming N x t = received_when_due N x t + shipped N x t

-- what planners say of the pair: its row, its policy, the receipts that may be counted sooner, and its firm planned
-- orders by release and by due period
abbrev pub terms_at : Table → ℕ → PairTerms
terms_at N x = terms_of (horizon N) (params_at N x) (policy_of N x) (received_sooner N x) (firms_of N x)

-- the first period for which planned orders of the pair can be released in time: the greater of lead time and fence
abbrev pub earliest_at : Table → ℕ → ℕ
earliest_at N x = max (params_at N x).lead (policy_of N x).fence

-- the opening figures of all sources of a pair
abbrev pub opening_total : Table → ℕ → ℕ
opening_total N x = sum_by (λ c. if c.pair.0 == x then c.figure else 0) N.cums

-- what the vendor of a pair has delivered and what is on its way from it: where its schedule's figures go on
abbrev pub vendor_total : Table → ℕ → ℕ
vendor_total N x = sum_by (λ v. if v.pair.0 == x then v.figure + v.transit else 0) N.vendors

-- what is counted of a pair without any planned order: on hand, receipts, shipments and firm planned orders, and the
-- opening figures and those of its vendor, on which its cumulative figures go on
abbrev pub supply : Table → ℕ → ℕ
supply N x = (pair_at N x).on_hand + received_total N x + shipped_total N x + opening_total N x
    + firm_total N x + vendor_total N x
