-- Advice: what periods lack beside open orders, and how long the open orders of a sort
-- last while they are gone through.
use Rattle.std.specs.Prelude.{◌≡◌, ℕ, ◌+◌, ◌-◌, ◌<◌, ◌≤◌, suc, nat_lt, Bool, true, false, List, length, sum, take}
use Rattle.std.specs.Prelude.{slice_index, Option}
use Rattle.std.specs.List.{find, range_with_len}
use Rattle.mrp_netting.specs.declared.params.PairParams.{PairParams}
use Rattle.mrp_netting.specs.declared.planning_data.Policy.{Policy}
use Rattle.mrp_netting.specs.PlanningData.{PairData}
use Rattle.mrp_advice.specs.declared.lacks.Lacks.{Lacks}
use Rattle.mrp_advice.specs.declared.orders.OpenOrder.{OpenOrder}
use Rattle.mrp_advice.specs.declared.run_out.RunOut.{RunOut}
use Rattle.mrp_advice.specs.declared.run_out.RunOuts.{RunOuts}
use Rattle.mrp_advice.specs.Needed.{asked_by, may_come_sooner, pieces_of, there_beside}
use Rattle.mrp_advice.specs.OpenOrders.{open_order_at}

-- what a period lacks beside the open orders of a sort
abbrev pub lacking : PairData → Bool → ℕ → ℕ
lacking d sooner t = asked_by d t - (d.params.on_hand + there_beside d sooner t)

-- what a period lacks where receipts count when they come: what safety stock and the gross requirements up to it, and
-- those of the periods of cover, ask beyond what is on hand
abbrev pub lack_of_stock : PairParams → ℕ → List ℕ → ℕ → ℕ
lack_of_stock params cover gross t = (params.safety + sum (take (suc t + cover) gross)) - params.on_hand

-- the rows have so many periods
pub record HaveRoom (periods : ℕ) (lacks : Lacks) : Type 0 where
  pub receipts : length lacks.receipts ≡ periods
  pub others : length lacks.others ≡ periods

-- the row has what each period lacks beside the open orders of a sort
pub record LacksBeside (d : PairData) (sooner : Bool) (row : List ℕ) : Type 0 where
  pub size : length row ≡ length d.gross
  pub each : (t : ℕ) → t < length d.gross → slice_index row t ≡ lacking d sooner t

-- both rows have; that of receipts where these may be counted sooner
pub record AreLacks (d : PairData) (lacks : Lacks) : Type 0 where
  pub receipts : 0 < d.policy.sooner → LacksBeside d true lacks.receipts
  pub others : LacksBeside d false lacks.others

-- the first period that lacks more than so many pieces
abbrev pub first_lacking : List ℕ → ℕ → Option ℕ
first_lacking row pieces = find (λ t. nat_lt pieces (slice_index row t)) (range_with_len 0 (length row))

-- the row of a sort, and the pieces of its open orders so far
abbrev pub lacks_of : Lacks → Bool → List ℕ
lacks_of lacks true = lacks.receipts
lacks_of lacks false = lacks.others

abbrev pub run_out_of : RunOuts → Bool → RunOut
run_out_of run_outs true = run_outs.receipts
run_out_of run_outs false = run_outs.others

-- the period in which the i-th open order is needed, by the row of its sort
abbrev pub needed_by : Policy → Lacks → List OpenOrder → ℕ → Option ℕ
needed_by policy lacks orders i =
    let sooner = may_come_sooner policy (open_order_at orders i) in
    first_lacking (lacks_of lacks sooner) (pieces_of policy sooner (take i orders))

-- the periods before one lack no more than so many pieces
pub record IsRunOut (row : List ℕ) (run_out : RunOut) : Type 0 where
  pub within : run_out.period ≤ length row
  pub enough : (t : ℕ) → t < run_out.period → slice_index row t ≤ run_out.pieces

-- so it is of both sorts
pub record AreRunOuts (lacks : Lacks) (run_outs : RunOuts) : Type 0 where
  pub receipts : IsRunOut lacks.receipts run_outs.receipts
  pub others : IsRunOut lacks.others run_outs.others
