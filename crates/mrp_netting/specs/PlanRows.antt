-- Netting one pair: the rows of its plan, and what is read off them.
use Rattle.std.specs.Prelude.{ℕ, ◌-◌, ◌&&◌, Bool, nat_lt, List, length, map, filter, sum, take, drop, slice_index}
use Rattle.std.specs.List.{range_with_len}
use Rattle.mrp_netting.specs.declared.params.Late.{Late}

-- the rows of one pair's plan, and its late orders by rising period
pub record PlanRows : Type 0 where
  -- gross requirements
  pub gross : List ℕ
  -- scheduled receipts
  pub incoming : List ℕ
  -- planned order receipts
  pub order : List ℕ
  -- planned order releases
  pub release : List ℕ
  -- projected available balance
  pub available : List ℕ
  pub late : List Late

-- the sum of n periods from t on
abbrev pub sum_from : List ℕ → ℕ → ℕ → ℕ
sum_from row t n = sum (take n (drop t row))

-- the period has an order, and lies before the first one that can be met: the lead time, or the fence
abbrev pub is_late : ℕ → List ℕ → ℕ → Bool
is_late lead order t = nat_lt t lead && nat_lt 0 (slice_index order t)

-- the periods of late orders among the first n
abbrev pub late_periods : ℕ → List ℕ → ℕ → List ℕ
late_periods lead order n = filter (is_late lead order) (range_with_len 0 n)

-- the late order of such a period, with how many periods are missing
abbrev pub late_order : ℕ → List ℕ → ℕ → Late
late_order lead order t = record { period = t; quantity = slice_index order t; by = lead - t }

-- late orders of the given orders
abbrev pub late_orders : ℕ → List ℕ → List Late
late_orders lead order = map (late_order lead order) (late_periods lead order (length order))
