-- Netting one pair: what its plan keeps, the five rows and the late orders.
use Rattle.std.specs.Prelude.{◌≡◌, ℕ, ◌<◌, List, [], length, map, replicate, All}
use Rattle.mrp_qty.specs.Row.{IsRow}
use Rattle.mrp_netting.specs.declared.params.Late.{Late}
use Rattle.mrp_netting.specs.PlanRows.{PlanRows, late_order}

-- five rows of one horizon
pub record AreRows (rows : PlanRows) : Type 0 where
  pub gross : IsRow rows.gross
  pub incoming : IsRow rows.incoming
  pub order : IsRow rows.order
  pub release : IsRow rows.release
  pub available : IsRow rows.available
  pub incoming_len : length rows.incoming ≡ length rows.gross
  pub order_len : length rows.order ≡ length rows.gross
  pub release_len : length rows.release ≡ length rows.gross
  pub available_len : length rows.available ≡ length rows.gross

-- rows of zeros, and no late order
abbrev pub nothing_planned : ℕ → PlanRows
nothing_planned horizon = record {
  gross = replicate horizon 0;
  incoming = replicate horizon 0;
  order = replicate horizon 0;
  release = replicate horizon 0;
  available = replicate horizon 0;
  late = [];
}

-- the late orders of given periods
abbrev pub late_orders_in : ℕ → List ℕ → List ℕ → List Late
late_orders_in lead order periods = map (late_order lead order) periods

-- each late period is one of the horizon, within the lead time
abbrev pub AreLate : ℕ → List ℕ → List ℕ → Type 0
AreLate lead order periods = All (λ t. (t < length order) × (t < lead)) periods
