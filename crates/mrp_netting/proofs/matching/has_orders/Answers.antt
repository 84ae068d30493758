use Rattle.std.proofs.Common.{ℕ, ◌+◌, ◌-◌, List, length, sum, take, drop, suc, refl, sym, ap, ◌∙◌, arith, add-one}
use Rattle.std.proofs.lemmas.Bool.{false≢true}
use Rattle.std.proofs.lemmas.List.{get_or_read, take_rest}
use Rattle.std.proofs.lemmas.List.FromFn.{fill_by_all}
use Rattle.mrp_qty.proofs.RangeLaws.{sum_drop_take-le}
use Rattle.mrp_netting.specs.PlanningData.{order_at, balance_before}
use Rattle.mrp_netting.specs.PlanningBound.{data_of}
use Rattle.mrp_netting.proofs.Compared.{row_reads}
use Rattle.mrp_netting.proofs.DataLaws.{balance_before-zero}
use Rattle.mrp_netting.proofs.matching.has_orders.Goals as goal
use Rattle.mrp_netting.proofs.matching.has_orders.Goals.{then-get-via-then-get, then-get-via-else-get+then-get-2}

pub loop-t-init : goal.loop-t-init
loop-t-init c = record {
  before = sym (balance_before-zero (data_of c.args.given.now c.args.gross.now));
  order = λ k h. absurd (omega arith);
  available = λ k h. absurd (omega arith);
}

pub front_quantity-ahead-requires : goal.front_quantity-ahead-requires
front_quantity-ahead-requires c =
    let gross = c.args.gross.now in
    omega (arith, c.requires.within.total, sum_drop_take-le gross (c.loop-t.t + 1) (length gross - (c.loop-t.t + 1)))

pub order_and_stock-ordered-requires-clause-ahead : goal.order_and_stock-ordered-requires-clause-ahead
order_and_stock-ordered-requires-clause-ahead c =
    let gross = c.args.gross.now in
    let cover = c.args.given.now.policy.cover in
    c.front_quantity-ahead.ensures
    ∙ ap (λ (xs : List ℕ). sum (take cover xs)) (take_rest gross (c.loop-t.t + 1))
    ∙ ap (λ (k : ℕ). sum (take cover (drop k gross))) (add-one c.loop-t.t)

pub returns-then-get : goal.returns-then-get
returns-then-get c =
    let d = data_of c.args.given.now c.args.gross.now in
    let t = c.loop-t.t in
    let n = length c.args.gross.now in
    let here = get_or_read c.args.order.now t _ (omega arith) c.index-order-t.is 0 in (
      λ no_. absurd (false≢true no_),
      λ are.
          let order = row_reads (order_at d) c.args.order.now n t are.0 (omega arith) in
          let balance = row_reads (λ k. balance_before d (suc k)) c.args.available.now n t are.1 (omega arith) in
          absurd (elim c.then-get.branch [
            | then-get-via-then-get w ↦ omega (
              arith,
              here,
              order,
              c.get.ensures.value,
              c.get-in-loop-t.ensures.value,
              c.order_and_stock-ordered.ensures.order,
            )
            | then-get-via-else-get+then-get-2 w ↦
                let left = get_or_read c.args.available.now t _ (omega arith) w.index-available-t.is 0 in
                omega (arith, left, balance, w.get-else-get.ensures.value, w.get-else-get-2.ensures.value, c.order_and_stock-ordered.ensures.balance)
          ]),
    )

pub returns : goal.returns
returns c =
    let d = data_of c.args.given.now c.args.gross.now in
    let n = length c.args.gross.now in (
      λ yes. (
        fill_by_all (order_at d) c.args.order.now n 0 c.requires.order_len (λ k h. c.loop-t.invariant.order k (omega arith)),
        fill_by_all (λ k. balance_before d (suc k)) c.args.available.now n 0 c.requires.available_len
            (λ k h. c.loop-t.invariant.available k (omega arith)),
      ),
      λ are. refl,
    )
