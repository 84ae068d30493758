-- Advice where a plan is whole in its first periods alone: behind these, what is wanted behind the horizon may change
-- when an order is needed, or whether it is.
use Rattle.std.specs.Prelude.{ℕ, nat_lt, Bool, false, if◌then◌else◌, List, slice_index, Option, Some, None, option_map}
use Rattle.std.specs.Borrow.{Bor}
use Rattle.mrp_master_data.specs.Table.{Table}
use Rattle.mrp_reach.specs.Reach.{receipts_whole}
use Rattle.mrp_advice.specs.declared.advice.Action.TheVariants.{Beyond}
use Rattle.mrp_advice.specs.declared.advice.Advice.{Advice}
use Rattle.mrp_advice.specs.declared.orders.OpenOrder.{OpenOrder}
use Rattle.mrp_advice.specs.Actions.{advice_for}

-- the whole periods of each pair's requirements, if they are given
abbrev pub wholes_of : Option (Bor (List ℕ)) → Option (List ℕ)
wholes_of = option_map (λ wholes. wholes.now)

-- in how many periods it is whole which open orders of a pair are needed there, where those of requirements are given
abbrev pub needs_whole : Option (List ℕ) → Table → ℕ → Option ℕ
needs_whole wholes N x = option_map (λ each. receipts_whole N x (slice_index each x)) wholes

-- an order is needed in one of so many periods
abbrev pub is_needed_below : ℕ → Option ℕ → Bool
is_needed_below whole None = false
is_needed_below whole (Some t) = nat_lt t whole

-- the message for an order that isn't needed in one of the whole periods: `beyond` where it comes in one of them, and
-- none where it comes later
abbrev pub beyond_for : ℕ → OpenOrder → Option Advice
beyond_for whole order =
    if nat_lt order.period whole then Some (record { action = Beyond; order = order; needed = None }) else None

-- the message for an order where so many periods are whole, or where that isn't asked for
abbrev pub advice_within : Option ℕ → OpenOrder → Option ℕ → Option Advice
advice_within None order needed = advice_for order needed
advice_within (Some whole) order needed =
    if is_needed_below whole needed then advice_for order needed else beyond_for whole order
