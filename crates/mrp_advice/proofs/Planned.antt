-- Advice: open orders are what the plan has as incoming, in each period where receipts count when they come,
-- and elsewhere over all periods.
use Rattle.std.proofs.Common.{◌≡◌, ℕ, zero, suc, ◌≤◌, List, length, sum, slice_index, refl, ap, arith}
use Rattle.std.proofs.lemmas.List.FromFn.{length-map-range_with_len}
use Rattle.mrp_netting.specs.PlanRows.{PlanRows}
use Rattle.mrp_netting.specs.PlanningData.{PairData, had_before, incoming_at, incoming_row, one}
use Rattle.mrp_netting.proofs.ReceiptLaws.{had-all, incoming-sum, incoming_row-at}
use Rattle.mrp_netting.proofs.RowSums.{sum_take-all}
use Rattle.mrp_netting.proofs.TogetherLaws.{incoming-due}
use Rattle.mrp_master_data.specs.Table.{Table, horizon}
use Rattle.mrp_net.specs.Plan.{gross, pair_data}
use Rattle.mrp_net.proofs.Sooner.{received_sooner-few}
use Rattle.mrp_advice.specs.AdviceLaws.{OrdersAreAllPlanned, OrdersArePlanned}
use Rattle.mrp_advice.specs.OpenOrders.{open_orders, orders_in}
use Rattle.mrp_advice.proofs.Sorts.{both_pieces, orders_are_of_plan, others_to, receipts_to}

one-incoming : (d : PairData) → (one d).incoming ≡ incoming_row d
unfolding one
one-incoming d = refl

periods : (N : Table) (table : List PlanRows) (x : ℕ) → length (pair_data N table x).gross ≡ horizon N
periods N table x = length-map-range_with_len (gross N table x) 0 (horizon N)

pub orders_are_planned : OrdersArePlanned
orders_are_planned N table fits x t pair within none =
    let d = pair_data N table x in
    let are = orders_are_of_plan N table x t within in
    omega (
      arith,
      ap (λ (rows : PlanRows). slice_index rows.incoming t) (fits.rows x pair),
      ap (λ (row : List ℕ). slice_index row t) (one-incoming d),
      incoming_row-at d t (omega (arith, within, periods N table x)),
      incoming-due d t none,
      both_pieces d.policy (orders_in N x t),
      are.receipts,
      are.others,
    )

-- all receipts are counted by the end of their row
had_before-all : (d : PairData) (n : ℕ) → length d.receipts ≤ n → had_before d n ≡ sum d.receipts
had_before-all d zero end = omega (arith, sum_take-all d.receipts zero end)
had_before-all d (suc t) end = had-all d t end

pub orders_are_all_planned : OrdersAreAllPlanned
orders_are_all_planned N table fits x pair =
    let d = pair_data N table x in
    let n = horizon N in
    let size = periods N table x in
    omega (
      arith,
      ap (λ (rows : PlanRows). sum rows.incoming) (fits.rows x pair),
      ap (λ (row : List ℕ). sum row) (one-incoming d),
      sum_take-all (incoming_row d) n (omega (arith, size, length-map-range_with_len (incoming_at d) 0 (length d.gross))),
      incoming-sum d n (omega (arith, size)),
      had_before-all d n (received_sooner-few N x),
      sum_take-all d.receipts n (received_sooner-few N x),
      both_pieces d.policy (open_orders N x),
      receipts_to N table x n (omega arith),
      others_to N table x n (omega arith),
    )
