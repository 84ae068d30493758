-- Advice: what is said of an open order, where the plan is whole in its first periods alone.
use Rattle.std.proofs.Common.{ℕ, nat_lt}
use Rattle.std.specs.Prelude.{Option, Some, None, IfSome, option_map}
use Rattle.std.proofs.lemmas.Bool.{cond_both}
use Rattle.mrp_advice.specs.declared.advice.Action.{Action}
use Rattle.mrp_advice.specs.declared.advice.Action.TheVariants.{Beyond}
use Rattle.mrp_advice.specs.declared.advice.Advice.{Advice}
use Rattle.mrp_advice.specs.declared.orders.OpenOrder.{OpenOrder}
use Rattle.mrp_advice.specs.Actions.{action_for, advice_for}
use Rattle.mrp_advice.specs.Beyond.{advice_within, beyond_for, is_needed_below}

said : (P : Advice → Type 0) (f : Action → Advice) (o : Option Action) → ((a : Action) → P (f a)) → IfSome (option_map f o) P
said P f None each = tt
said P f (Some a) each = each a

-- what holds of each message that names an order and a period in which it is needed, and of one that names no period,
-- holds of the message for the order
pub said_within : (P : Advice → Type 0) (whole : Option ℕ) (order : OpenOrder) (needed : Option ℕ)
    → ((action : Action) → P (record { action = action; order = order; needed = needed }))
    → P (record { action = Beyond; order = order; needed = None }) → IfSome (advice_within whole order needed) P
said_within P None order needed each beyond =
    said P (λ action. record { action = action; order = order; needed = needed }) (action_for order.period needed) each
said_within P (Some whole) order needed each beyond =
    cond_both (is_needed_below whole needed) (advice_for order needed) (beyond_for whole order) (λ (o : Option Advice). IfSome o P)
    (λ here. said P (λ action. record { action = action; order = order; needed = needed }) (action_for order.period needed) each)
    (λ later. cond_both (nat_lt order.period whole) (Some (record { action = Beyond; order = order; needed = None })) None
    (λ (o : Option Advice). IfSome o P) (λ comes. beyond) (λ comes_later. tt))
