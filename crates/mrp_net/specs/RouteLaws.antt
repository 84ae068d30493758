-- The network: laws of its routes. What is added up over the routes of a plant, and of all plants.
use Rattle.std.specs.Prelude.{◌≡◌, ℕ, ◌==◌, List}
use Rattle.std.specs.Prelude.{length, filter, sum_by}
use Rattle.std.specs.List.{range_with_len}
use Rattle.mrp_master_data.specs.declared.rows.SourceRow.{SourceRow}
use Rattle.mrp_master_data.specs.Table.{Table, IsTable}
use Rattle.mrp_net.specs.Lanes.{taken_over}
use Rattle.mrp_net.specs.Sums.{pair_at}

-- the sources by which a customer plant takes items, and those by which items are taken from a supplier plant
abbrev pub taken_by : Table → ℕ → List SourceRow
taken_by N customer = filter (λ s. (pair_at N s.pair.0).plant.0 == customer) N.sources

abbrev pub taken_from : Table → ℕ → List SourceRow
taken_from N supplier = filter (λ s. s.plant.0 == supplier) N.sources

-- an amount of each source, added up over a route
abbrev pub over_route : Table → (SourceRow → ℕ) → ℕ → ℕ → ℕ
over_route N amount customer supplier = sum_by amount (taken_over N customer supplier)

-- and over all plants
abbrev pub over_plants : Table → (ℕ → ℕ) → ℕ
over_plants N amount = sum_by amount (range_with_len 0 (length N.plants))

-- each source is on one route: what is added up over the routes of a customer, of a supplier, and of
-- all customers is added up over their sources
abbrev pub RoutesCoverCustomers : Type 0
RoutesCoverCustomers =
    (N : Table) → IsTable N → (amount : SourceRow → ℕ) (customer : ℕ)
    → over_plants N (λ supplier. over_route N amount customer supplier) ≡ sum_by amount (taken_by N customer)

abbrev pub RoutesCoverSuppliers : Type 0
RoutesCoverSuppliers =
    (N : Table) → IsTable N → (amount : SourceRow → ℕ) (supplier : ℕ)
    → over_plants N (λ customer. over_route N amount customer supplier) ≡ sum_by amount (taken_from N supplier)

abbrev pub RoutesCoverSources : Type 0
RoutesCoverSources =
    (N : Table) → IsTable N → (amount : SourceRow → ℕ)
    → over_plants N (λ customer. over_plants N (λ supplier. over_route N amount customer supplier))
    ≡ sum_by amount N.sources
