-- The agents of all plants: the plans that they give, to be gathered.
use Rattle.std.specs.Prelude.{◌≡◌, ℕ, ◌<◌, List, Vec, length, map, filter, slice_index_or}
use Rattle.std.specs.Global.{Global}
use Rattle.std.specs.List.{range_with_len}
use Rattle.mrp_netting.specs.PlanRows.{PlanRows}
use Rattle.mrp_netting.specs.declared.plan.PairPlan.{PairPlan}
use Rattle.mrp_master_data.specs.Table.{Table}
use Rattle.mrp_plant_view.specs.View.{is_of_plant}
use Rattle.mrp_loops.specs.Within.{plan_at}

-- by the plan of the network the plans of a plant's pairs with numbers below one, in table order
abbrev pub plans_below : Table → ℕ → ℕ → List PlanRows
plans_below N p bound = map (plan_at N) (filter (is_of_plant N p) (range_with_len 0 bound))

-- a list of each plant, with the plans of its pairs with numbers below one
pub record HaveGiven (N : Table) (given : List (Vec PairPlan Global)) (bound : ℕ) : Type 0 where
  pub all : length given ≡ length N.plants
  pub each : (p : ℕ) (d : Vec PairPlan Global) → p < length given
      → (slice_index_or given p d).items ≡ plans_below N p bound
