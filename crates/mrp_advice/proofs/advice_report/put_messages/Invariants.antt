use Rattle.std.proofs.Common.{◌≡◌, ◌++◌, true, false, take}
use Rattle.std.specs.Prelude.{filter_map}
use Rattle.std.specs.List.{filter, flat_map, range_with_len}
use Rattle.mrp_csv_out.specs.Writing.{IsBetweenRows, written}
use Rattle.mrp_advice.specs.AdviceLines.{advice_line_row}
use Rattle.mrp_advice.specs.Beyond.{advice_within}
use Rattle.mrp_advice.specs.Lacking.{AreRunOuts, needed_by}
use Rattle.mrp_advice.specs.Needed.{pieces_of}
use Rattle.mrp_advice.specs.OpenOrders.{comes_by, open_order_at}
use Rattle.mrp_advice.proofs.advice_report.put_messages.Given as goal

-- the rows of the orders before this one are there, of those that come by the last period
abbrev pub invariant-orders : goal.invariant-orders
invariant-orders l = record {
  between : IsBetweenRows l.rows;
  run_outs : AreRunOuts l.lacks l.run_outs;
  receipts : l.run_outs.receipts.pieces ≡ pieces_of l.policy true (take l.i l.orders);
  others : l.run_outs.others.pieces ≡ pieces_of l.policy false (take l.i l.orders);
  so_far : written l.rows ≡ written l.initial.rows ++ flat_map (advice_line_row l.line)
      (filter (λ a. comes_by l.line.until a.order)
      (filter_map (λ k. advice_within l.line.whole (open_order_at l.orders k) (needed_by l.policy l.lacks l.orders k)) (range_with_len 0 l.i)));
}
