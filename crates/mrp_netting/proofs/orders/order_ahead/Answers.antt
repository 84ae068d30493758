use Rattle.std.proofs.Common.{◌≡◌, ℕ, List, length, slice_index, slice_set, sum, take, drop, suc, sym, ◌∙◌, ap, arith, add-one}
use Rattle.std.proofs.lemmas.List.{get_or_read, length-set}
use Rattle.std.proofs.lemmas.List.Edits.{fill_by_more}
use Rattle.std.proofs.lemmas.List.FromFn.{fill_by_all}
use Rattle.mrp_qty.proofs.RangeLaws.{sum_drop_take-suc, sum_drop_take-le}
use Rattle.mrp_netting.specs.PlanningData.{order_at, balance_before}
use Rattle.mrp_netting.specs.PlanningBound.{data_of}
use Rattle.mrp_netting.proofs.DataLaws.{balance_before-zero}
use Rattle.mrp_netting.proofs.OrderSteps.{IsMoved, window-moves}
use Rattle.mrp_netting.proofs.orders.order_ahead.Goals as goal
use Rattle.mrp_netting.proofs.orders.order_ahead.Goals.{After-get}

-- the periods of cover a period later
moved : (c : After-get) → IsMoved c.args.gross.now c.loop-t.t c.args.given.now.policy.cover c.loop-t.ahead c.quantity_at.result c.get.result
moved c =
    let gross = c.args.gross.now in
    let t = c.loop-t.t in
    window-moves gross t c.args.given.now.policy.cover c.loop-t.ahead c.quantity_at.result c.get.result c.loop-t.invariant.ahead c.quantity_at.ensures
    (c.get.ensures.value ∙ get_or_read gross t _ (omega arith) c.index-gross-t.is 0)

pub loop-t-init : goal.loop-t-init
loop-t-init c = record {
  before = sym (balance_before-zero (data_of c.args.given.now c.args.gross.now));
  ahead = c.front_quantity-ahead.ensures;
  order_len = c.requires.order_room;
  available_len = c.requires.available_room;
  order = λ k h. absurd (omega arith);
  available = λ k h. absurd (omega arith);
}

pub overflow_add-ahead : goal.overflow_add-ahead
overflow_add-ahead c =
    let gross = c.args.gross.now in
    let t = c.loop-t.t in
    let cover = c.args.given.now.policy.cover in
    omega (arith, c.requires.within.total, c.loop-t.invariant.ahead, sum_drop_take-suc gross t cover, sum_drop_take-le gross t (suc cover))

pub overflow_sub-ahead : goal.overflow_sub-ahead
overflow_sub-ahead c = (moved c).covers

pub order_and_stock-ordered-requires-clause-ahead : goal.order_and_stock-ordered-requires-clause-ahead
order_and_stock-ordered-requires-clause-ahead c = (moved c).moved

pub loop-t-preserved : goal.loop-t-preserved
loop-t-preserved c =
    let d = data_of c.args.given.now c.args.gross.now in
    let t = c.loop-t.t in
    let inv = c.loop-t.invariant in
    let order = c.loop-t.order in
    let available = c.loop-t.available in
    let later = (moved (goal.at.loop-t-preserved c).After-get).moved in
    let ordered : c.set.new.self ≡ slice_set order t (order_at d t) =
    c.set.ensures ∙ ap (λ (q : ℕ). slice_set order t q) c.order_and_stock-ordered.ensures.order in
    let stocked : c.set-in-loop-t.new.self ≡ slice_set available t (balance_before d (suc t)) =
    c.set-in-loop-t.ensures ∙ ap (λ (q : ℕ). slice_set available t q) c.order_and_stock-ordered.ensures.balance in
    record {
      before = c.order_and_stock-ordered.ensures.balance ∙ ap (balance_before d) (sym (add-one t));
      ahead = later ∙ ap (λ (k : ℕ). sum (take d.policy.cover (drop k d.gross))) (sym (add-one t));
      order_len = ap length ordered ∙ length-set order t _ ∙ inv.order_len;
      available_len = ap length stocked ∙ length-set available t _ ∙ inv.available_len;
      order = λ k h. ap (λ (xs : List ℕ). slice_index xs k) ordered
          ∙ fill_by_more (order_at d) order t 0 (omega (arith, inv.order_len)) inv.order k h;
      available = λ k h. ap (λ (xs : List ℕ). slice_index xs k) stocked
          ∙ fill_by_more (λ j. balance_before d (suc j)) available t 0 (omega (arith, inv.available_len)) inv.available k h;
    }

pub returns-clause-orders : goal.returns-clause-orders
returns-clause-orders c =
    let inv = c.loop-t.invariant in
    fill_by_all (order_at (data_of c.args.given.now c.args.gross.now)) c.loop-t.order (length c.args.gross.now) 0
    inv.order_len (λ k h. inv.order k (omega arith))

pub returns-clause-balances : goal.returns-clause-balances
returns-clause-balances c =
    let inv = c.loop-t.invariant in
    fill_by_all (λ j. balance_before (data_of c.args.given.now c.args.gross.now) (suc j)) c.loop-t.available (length c.args.gross.now) 0
    inv.available_len (λ k h. inv.available k (omega arith))
