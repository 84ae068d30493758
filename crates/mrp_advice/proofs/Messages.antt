-- Advice: exception messages for open orders that are needed in the same periods.
use Rattle.std.proofs.Common.{◌≡◌, ◌∙◌, ℕ, List, [], ◌∷◌, length, refl, ap}
use Rattle.std.specs.Prelude.{Option, filter_map}
use Rattle.std.specs.List.{cons_option, filter, range_with_len}
use Rattle.mrp_advice.specs.declared.advice.Advice.{Advice}
use Rattle.mrp_advice.specs.declared.orders.OpenOrder.{OpenOrder}
use Rattle.mrp_advice.specs.Advice.{messages_by}
use Rattle.mrp_advice.specs.Beyond.{advice_within}
use Rattle.mrp_advice.specs.OpenOrders.{comes_by, open_order_at}

found_same : (f g : ℕ → Option Advice) (is : List ℕ) → ((i : ℕ) → f i ≡ g i) → filter_map f is ≡ filter_map g is
found_same f g [] same = refl
found_same f g (i ∷ is) same =
    ap (λ (o : Option Advice). cons_option o (filter_map f is)) (same i)
    ∙ ap (cons_option (g i)) (found_same f g is same)

pub messages_same : (whole until : Option ℕ) (f g : ℕ → Option ℕ) (orders : List OpenOrder) → ((i : ℕ) → f i ≡ g i)
    → messages_by whole until f orders ≡ messages_by whole until g orders
messages_same whole until f g orders same =
    ap (filter (λ (a : Advice). comes_by until a.order))
    (found_same (λ i. advice_within whole (open_order_at orders i) (f i)) (λ i. advice_within whole (open_order_at orders i) (g i))
    (range_with_len 0 (length orders))
    (λ i. ap (advice_within whole (open_order_at orders i)) (same i)))
