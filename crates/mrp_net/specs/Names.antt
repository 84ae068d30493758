-- The network: the names of its pairs.
use Rattle.std.specs.Prelude.{◌≡◌, ℕ, List, slice_get, Some}
use Rattle.mrp_master_data.specs.Table.{Table, IsPair}
use Rattle.mrp_net.specs.Sums.{pair_at}

-- x is the pair of that plant and item
pub record IsNamed (N : Table) (x : ℕ) (plant item : List ℕ) : Type 0 where
  pub pair : IsPair N x
  pub at_plant : slice_get N.plants (pair_at N x).plant.0 ≡ Some plant
  pub of_item : slice_get N.items (pair_at N x).item.0 ≡ Some item
