-- The network: laws of vendors and of days. What they count for, and that no plan changes by them.
use Rattle.std.specs.Prelude.{◌≡◌, ◌+◌, ◌≤◌, List, All}
use Rattle.mrp_cal.specs.Calendar.{CalendarTerms}
use Rattle.mrp_master_data.specs.Growing.{with_calendar}
use Rattle.mrp_master_data.specs.Rows.{Vendor}
use Rattle.mrp_master_data.specs.Table.{Table, IsTable, horizon}
use Rattle.mrp_net.specs.Edges.{edges}
use Rattle.mrp_net.specs.Lanes.{lanes}
use Rattle.mrp_net.specs.Plan.{plan_of}
use Rattle.mrp_net.specs.Sums.{supply}

-- the table with other vendors
abbrev pub with_vendors : Table → List Vendor → Table
with_vendors N vendors = record N { vendors = vendors }

-- whoever delivers what is bought, the plan is the same
abbrev pub VendorsChangeNoPlan : Type 0
VendorsChangeNoPlan = (N : Table) (vendors : List Vendor) → plan_of (with_vendors N vendors) ≡ plan_of N

-- and so are the edges and the lanes
abbrev pub VendorsChangeNoEdge : Type 0
VendorsChangeNoEdge = (N : Table) (vendors : List Vendor) → edges (with_vendors N vendors) ≡ edges N

abbrev pub VendorsChangeNoLane : Type 0
VendorsChangeNoLane = (N : Table) (vendors : List Vendor) → lanes (with_vendors N vendors) ≡ lanes N

-- the figures of a vendor's schedule begin at no more than what its pair has without any order
abbrev pub VendorsAreSupplied : Type 0
VendorsAreSupplied = (N : Table) → IsTable N → All (λ v. v.figure + v.transit ≤ supply N v.pair.0) N.vendors

-- whatever the dates of the periods, the plan is the same
abbrev pub DaysChangeNoPlan : Type 0
DaysChangeNoPlan = (N : Table) (c : CalendarTerms) → c.periods ≡ horizon N → plan_of (with_calendar N c) ≡ plan_of N
