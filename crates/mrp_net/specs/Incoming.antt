-- The network: what comes in at its time for each of its pairs, kept for the pairs to which something is on its way,
-- and for those whose receipts may be counted sooner.
use Rattle.std.specs.Prelude.{◌≡◌, ℕ, ◌+◌, ◌-◌, ◌*◌, ◌^◌, ◌<◌, ◌≤◌, List, length, All, slice_index}
use Rattle.mrp_master_data.specs.declared.rows.PolicyRow.{PolicyRow}
use Rattle.mrp_master_data.specs.declared.rows.ShipRow.{ShipRow}
use Rattle.mrp_master_data.specs.Table.{Table, IsPair, horizon}
use Rattle.mrp_net.specs.declared.incoming.Incoming.{Incoming}
use Rattle.mrp_net.specs.Policies.{policy_of}
use Rattle.mrp_net.specs.Sums.{incoming, shipped}

-- pairs, each once, with their places, which count from 1: a pair to which a shipment is, or with a policy that has
-- SOONER, has one
pub record AreCounted (ships : List ShipRow) (policies : List PolicyRow) (pairs places : List ℕ) : Type 0 where
  pub back : (x : ℕ) → 0 < slice_index places x → (slice_index places x ≤ length pairs)
      × (slice_index pairs (slice_index places x - 1) ≡ x)
  pub seen : All (λ s. 0 < slice_index places s.pair.0) ships
  pub sooner : All (λ p. 0 < p.policy.sooner → 0 < slice_index places p.pair.0) policies
  pub few : length pairs ≤ length ships + length policies
  pub within : (k : ℕ) → k < length pairs → slice_index pairs k < length places

-- an amount of each of these pairs in each period, row by row
pub record AreRows (N : Table) (amount : ℕ → ℕ → ℕ) (pairs rows : List ℕ) : Type 0 where
  pub size : length rows ≡ length pairs * horizon N
  pub each : (k t : ℕ) → k < length pairs → t < horizon N
      → slice_index rows (k * horizon N + t) ≡ amount (slice_index pairs k) t

-- what comes in for the pairs that have a place; nothing is on its way to the others, and their receipts count when
-- they come
pub record IsIncoming (N : Table) (i : Incoming) : Type 0 where
  pub size : length i.places.items ≡ length N.pairs
  pub few : length i.rows.items < 2 ^ 40
  pub none : (x t : ℕ) → IsPair N x → slice_index i.places.items x ≡ 0 → shipped N x t ≡ 0
  pub when_due : (x : ℕ) → IsPair N x → slice_index i.places.items x ≡ 0 → (policy_of N x).sooner ≡ 0
  pub room : (x : ℕ) → IsPair N x → 0 < slice_index i.places.items x
      → slice_index i.places.items x * horizon N ≤ length i.rows.items
  pub each : (x t : ℕ) → IsPair N x → 0 < slice_index i.places.items x → t < horizon N
      → slice_index i.rows.items ((slice_index i.places.items x - 1) * horizon N + t) ≡ incoming N x t
