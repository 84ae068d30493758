-- Advice: what an exception message says of an open order that is needed in some period, or in none.
use Rattle.std.specs.Prelude.{ℕ, ◌==◌, nat_lt, if◌then◌else◌, Option, Some, None, option_map}
use Rattle.mrp_advice.specs.declared.advice.Action.{Action}
use Rattle.mrp_advice.specs.declared.advice.Action.TheVariants.{Expedite, Defer, Cancel}
use Rattle.mrp_advice.specs.declared.advice.Advice.{Advice}
use Rattle.mrp_advice.specs.declared.orders.OpenOrder.{OpenOrder}

-- what to do with an order that is due in one period and needed in another or in none; nothing where they are the same
abbrev pub action_for : ℕ → Option ℕ → Option Action
action_for due None = Some Cancel
action_for due (Some t) = if t == due then None else Some (if nat_lt t due then Expedite else Defer)

-- the message for an order, where there is something to do
abbrev pub advice_for : OpenOrder → Option ℕ → Option Advice
advice_for order needed = option_map (λ action. record { action = action; order = order; needed = needed })
    (action_for order.period needed)
