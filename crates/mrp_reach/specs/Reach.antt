-- Reach: until which period requirements and releases of a pair are whole, as nothing that is wanted behind the horizon
-- changes them. Each counts the whole periods, from 0 on. Subtraction of ℕ stops at 0.
use Rattle.std.specs.Prelude.{◌≡◌, ℕ, ◌+◌, ◌-◌, min, max, List, [], ◌∷◌, length, map, slice_index}
use Rattle.mrp_lot.specs.declared.rule.Rule.{Rule}
use Rattle.mrp_lot.specs.declared.rule.Rule.TheVariants.{LotForLot, Fixed, Periods, MinMultiple}
use Rattle.mrp_master_data.specs.Table.{Table, IsPair, horizon}
use Rattle.mrp_net.specs.Edges.{demanders}
use Rattle.mrp_net.specs.Policies.{policy_of}
use Rattle.mrp_net.specs.Sums.{earliest_at, pair_at}

-- the least of a number and those of a list
abbrev pub least : ℕ → List ℕ → ℕ
least n [] = n
least n (m ∷ ms) = least (min n m) ms

-- how many periods beyond its own a lot rule orders for
abbrev pub periods_joined : Rule → ℕ
periods_joined LotForLot = 0
periods_joined (Fixed q) = 0
periods_joined (Periods k) = k - 1
periods_joined (MinMultiple m k) = 0

-- and an order of the pair: the periods of cover, and those that its rule joins
abbrev pub looks_ahead : Table → ℕ → ℕ
looks_ahead N x = (policy_of N x).cover + periods_joined (pair_at N x).rule

-- how many periods of orders are whole, where so many of requirements are
abbrev pub orders_whole : Table → ℕ → ℕ → ℕ
orders_whole N x whole = whole - looks_ahead N x

-- and of releases: those a lead time before, and all in which no planned order is released
abbrev pub releases_whole : Table → ℕ → ℕ → ℕ
releases_whole N x whole = max (earliest_at N x) (orders_whole N x whole) - (pair_at N x).lead

-- and of receipts that are counted: requirements of the periods of cover decide when one is
abbrev pub receipts_whole : Table → ℕ → ℕ → ℕ
receipts_whole N x whole = whole - (policy_of N x).cover

-- how many periods of a pair's requirements are whole, those of its demanders being given: the horizon without demanders,
-- else as many as the releases of each demander
abbrev pub whole_at : Table → List ℕ → ℕ → ℕ
whole_at N wholes x = least (horizon N)
    (map (λ e. releases_whole N e.demander.0 (slice_index wholes e.demander.0)) (demanders N x))

-- how many periods of requirements are whole, of each pair
pub record AreWhole (N : Table) (wholes : List ℕ) : Type 0 where
  pub size : length wholes ≡ length N.pairs
  pub whole : (x : ℕ) → IsPair N x → slice_index wholes x ≡ whole_at N wholes x
