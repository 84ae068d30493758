-- Advice where the whole periods are given, laws: whatever a table that goes on wants behind the horizon, it has the
-- same messages, but for orders of which it isn't known yet when they are needed.
use Rattle.std.specs.Prelude.{◌≡◌, ◌≢◌, ℕ, ◌<◌, true, false, List, length, slice_index, All, Contains, Option, Some, None}
use Rattle.mrp_netting.specs.PlanRows.{PlanRows}
use Rattle.mrp_master_data.specs.Table.{Table, IsPair}
use Rattle.mrp_net.specs.PlanLaws.{Fits}
use Rattle.mrp_loops.specs.Sized.{IsSized}
use Rattle.mrp_reach.specs.Lengthening.{Lengthens}
use Rattle.mrp_reach.specs.Reach.{AreWhole, receipts_whole}
use Rattle.mrp_advice.specs.declared.advice.Action.TheVariants.{Beyond}
use Rattle.mrp_advice.specs.declared.advice.Advice.{Advice}
use Rattle.mrp_advice.specs.Advice.{pair_advice}
use Rattle.mrp_advice.specs.AdviceLaws.{needed_at}
use Rattle.mrp_advice.specs.Beyond.{advice_within, is_needed_below, needs_whole}
use Rattle.mrp_advice.specs.OpenOrders.{open_order_at, open_orders}

-- two tables, of which the later one goes on where the other one ends, the plan of each, and how many periods of each
-- pair's requirements are whole in each
pub record IsPlannedOn (N M : Table) (plans later : List PlanRows) (wholes longer : List ℕ) : Type 0 where
  pub sized : IsSized N
  pub later_sized : IsSized M
  pub goes_on : Lengthens N M
  pub fits : Fits N plans
  pub later_fits : Fits M later
  pub are_whole : AreWhole N wholes
  pub are_longer : AreWhole M longer

-- in the first w periods an order is needed in the same one or in none
pub record IsNeededAlike (w : ℕ) (needed after : Option ℕ) : Type 0 where
  pub same : is_needed_below w needed ≡ true → after ≡ needed
  pub none : is_needed_below w needed ≡ false → is_needed_below w after ≡ false

-- an open order of the table is one of the table that goes on, in the same place, and is needed there alike in the
-- periods in which that is whole
pub record StaysNeeded (N M : Table) (plans later : List PlanRows) (wholes : List ℕ) (x i : ℕ) : Type 0 where
  pub order : open_order_at (open_orders M x) i ≡ open_order_at (open_orders N x) i
  pub more : i < length (open_orders M x)
  pub needed : IsNeededAlike (receipts_whole N x (slice_index wholes x)) (needed_at N plans x i) (needed_at M later x i)

abbrev pub NeedsStay : Type 0
NeedsStay =
    (N M : Table) (plans later : List PlanRows) (wholes longer : List ℕ) → IsPlannedOn N M plans later wholes longer
    → (x i : ℕ) → IsPair N x → i < length (open_orders N x) → StaysNeeded N M plans later wholes x i

-- so each message but those that nothing is known yet is a message of the table that goes on, whether its whole periods
-- are given or not
abbrev pub MessagesStay : Type 0
MessagesStay =
    (N M : Table) (plans later : List PlanRows) (wholes longer : List ℕ) → IsPlannedOn N M plans later wholes longer
    → (until : Option ℕ) (x : ℕ) → IsPair N x
    → All (λ a. a.action ≢ Beyond
    → Contains (pair_advice None until M later x) a × Contains (pair_advice (Some longer) until M later x) a)
    (pair_advice (Some wholes) until N plans x)

-- the message for the i-th open order of a pair
abbrev pub message_at : Option (List ℕ) → Table → List PlanRows → ℕ → ℕ → Option Advice
message_at wholes N table x i =
    advice_within (needs_whole wholes N x) (open_order_at (open_orders N x) i) (needed_at N table x i)

-- and an order whose message is another one by the whole periods, or is left out, is needed in the table that goes on in
-- none of the periods in which that is whole
abbrev pub OthersAreNotNeeded : Type 0
OthersAreNotNeeded =
    (N M : Table) (plans later : List PlanRows) (wholes longer : List ℕ) → IsPlannedOn N M plans later wholes longer
    → (x i : ℕ) → IsPair N x → i < length (open_orders N x)
    → message_at (Some wholes) N plans x i ≢ message_at None N plans x i
    → is_needed_below (receipts_whole N x (slice_index wholes x)) (needed_at M later x i) ≡ false
