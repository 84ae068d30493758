-- Advice: a last period leaves the exception messages for later open orders out, and no others.
use Rattle.std.proofs.Common.{◌≡◌, ◌∙◌, ℕ, zero, suc, ◌+◌, ◌<◌, leb, ltb, Bool, not, List, ◌++◌, All, length, sym, subst, refl, arith}
use Rattle.std.specs.Prelude.{Option, Some, None, IfSome, filter_map}
use Rattle.std.specs.List.{cons_option, filter, range_with_len}
use Rattle.std.specs.List.Sorted.{IsPermutation}
use Rattle.std.proofs.lemmas.Bool.{leb-true, le-leb}
use Rattle.std.proofs.lemmas.Bool.Decides.{nat_tests}
use Rattle.std.proofs.lemmas.List.Elements.{All-cons, All-nil, filter_passes}
use Rattle.std.proofs.lemmas.List.Sorted.{IsPermutation-filter_both}
use Rattle.mrp_grouping.proofs.Sorting.{filter_whole}
use Rattle.mrp_netting.specs.PlanRows.{PlanRows}
use Rattle.mrp_master_data.specs.Table.{Table, horizon}
use Rattle.mrp_net.specs.Plan.{pair_data}
use Rattle.mrp_advice.specs.declared.advice.Advice.{Advice}
use Rattle.mrp_advice.specs.declared.orders.OpenOrder.{OpenOrder}
use Rattle.mrp_advice.specs.Advice.{messages, messages_of}
use Rattle.mrp_advice.specs.AdviceLaws.{AllAreAdvised, HorizonDropsNone, NoneComesLater, OthersAreKept}
use Rattle.mrp_advice.specs.AdviceLines.{IsOpenOrder}
use Rattle.mrp_advice.specs.Beyond.{advice_within, needs_whole}
use Rattle.mrp_advice.specs.Needed.{needed}
use Rattle.mrp_advice.specs.OpenOrders.{comes_by, no_order, open_order_at, open_orders}
use Rattle.mrp_advice.proofs.Coming.{open_in_table}
use Rattle.mrp_advice.proofs.BeyondFacts.{said_within}

-- all messages of a pair
abbrev pair_messages : Option (List ℕ) → Table → List PlanRows → ℕ → List Advice
pair_messages wholes N table x = messages (needs_whole wholes N x) (pair_data N table x) (open_orders N x)

pub all_are_advised : AllAreAdvised
all_are_advised wholes N table x = filter_whole (λ (a : Advice). comes_by None a.order) (pair_messages wholes N table x) (λ k d h. refl)

pub none_comes_later : NoneComesLater
none_comes_later wholes until N table x =
    let by : Advice → Bool = λ a. comes_by (Some until) a.order in
    λ k d h. leb-true _ until (filter_passes by (pair_messages wholes N table x) k d h)

later : (period until : ℕ) → ltb until period ≡ not (leb period until)
later period until = grind (arith, nat_tests)

pub others_are_kept : OthersAreKept
others_are_kept wholes until N table x =
    let by : Advice → Bool = λ a. comes_by (Some until) a.order in
    let after : Advice → Bool = λ a. ltb until a.order.period in
    let all = pair_messages wholes N table x in
    subst (λ (z : List Advice). IsPermutation z (filter by all ++ filter after z)) (sym (all_are_advised wholes N table x))
    (IsPermutation-filter_both by after (λ a. later a.order.period until) all)

-- ---- a last period at the end of the horizon

all_more : (P : Advice → Type 0) (o : Option Advice) (rest : List Advice) → IfSome o P → All P rest → All P (cons_option o rest)
all_more P None rest one all = all
all_more P (Some a) rest one all = All-cons P a rest one all

all_found : (P : Advice → Type 0) (f : ℕ → Option Advice) (a n : ℕ) → ((i : ℕ) → i < a + n → IfSome (f i) P)
    → All P (filter_map f (range_with_len a n))
all_found P f a zero each = All-nil P
all_found P f a (suc n) each =
    all_more P (f a) (filter_map f (range_with_len (a + 1) n)) (each a (omega arith)) (all_found P f (a + 1) n (λ i h. each i (omega arith)))

-- the messages of open orders in the horizon are for periods of it
messages_within : (N : Table) (whole : Option ℕ) (needs : ℕ → Option ℕ) (orders : List OpenOrder) → All (IsOpenOrder N) orders
    → All (λ a. a.order.period < horizon N) (messages_of whole needs orders)
messages_within N whole needs orders are =
    all_found (λ a. a.order.period < horizon N) (λ i. advice_within whole (open_order_at orders i) (needs i)) 0 (length orders)
    (λ i h.
    let due = (are i no_order (omega arith)).due in
    said_within (λ a. a.order.period < horizon N) whole (open_order_at orders i) (needs i) (λ action. due) due)

pub horizon_drops_none : HorizonDropsNone
horizon_drops_none wholes until N is end table x =
    let within = messages_within N (needs_whole wholes N x) (needed (pair_data N table x) (open_orders N x)) (open_orders N x) (open_in_table N is x) in
    filter_whole (λ (a : Advice). comes_by (Some until) a.order) (pair_messages wholes N table x)
    (λ k d h. let period = within k d h in le-leb _ until (omega (arith, period, end)))
    ∙ sym (all_are_advised wholes N table x)
