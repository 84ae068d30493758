use Rattle.std.proofs.Common.{◌≡◌, ℕ, ◌+◌, ◌<◌, List, length, sum, take, drop, ◌∙◌, ap, arith}
use Rattle.std.proofs.lemmas.List.{get_or_read, take_rest}
use Rattle.std.proofs.lemmas.List.Sums.{sum_by-take-drop}
use Rattle.mrp_qty.proofs.RangeLaws.{sum_drop_take-more, sum_drop_take-le}
use Rattle.mrp_netting.specs.PlanningData.{need, greatest}
use Rattle.mrp_netting.specs.PlanningBound.{data_of}
use Rattle.mrp_netting.proofs.Greatest.{greatest-zero, greatest-more}
use Rattle.mrp_netting.proofs.OrderSteps.{came-length, came-most, window-more, greatest-most, greatest-horizon}
use Rattle.mrp_netting.proofs.orders.greatest_need.Goals as goal

pub front_quantity-requires : goal.front_quantity-requires
front_quantity-requires c =
    let rest = ap (λ (xs : List ℕ). sum xs) (take_rest c.args.gross.now c.args.t) in
    omega (arith, rest, c.requires.within.total, sum_by-take-drop (λ (x : ℕ). x) c.args.gross.now c.args.t)

pub overflow_add-needed : goal.overflow_add-needed
overflow_add-needed c =
    let rest = ap (λ (xs : List ℕ). sum (take c.args.given.now.policy.cover xs)) (take_rest c.args.gross.now c.args.t) in
    omega (arith, rest, c.requires.within.total, c.front_quantity.ensures, sum_drop_take-le c.args.gross.now c.args.t c.args.given.now.policy.cover)

pub loop-n-init : goal.loop-n-init
loop-n-init c =
    let d = data_of c.args.given.now c.args.gross.now in
    let cover = d.policy.cover in
    let start = ap (λ (m : ℕ). sum (take m (drop c.args.t d.gross))) (let e : 0 + cover ≡ cover = omega arith in e) in
    let rest = ap (λ (xs : List ℕ). sum (take cover xs)) (take_rest d.gross c.args.t) in
    let none = greatest-zero (need d c.args.before c.args.t) in
    record {
      needed = omega (arith, rest, start, c.front_quantity.ensures);
      had = omega arith;
      most = omega (arith, none);
    }

pub overflow_add-needed-in-loop-n : goal.overflow_add-needed-in-loop-n
overflow_add-needed-in-loop-n c =
    let gross = c.args.gross.now in
    let t = c.args.t in
    let n = c.loop-n.n in
    let cover = c.args.given.now.policy.cover in
    omega (
      arith,
      c.requires.within.total,
      window-more gross t n cover _ c.quantity_at-needed.ensures,
      sum_drop_take-le gross t (n + 1 + cover),
    )

pub bounds-incoming-t : goal.bounds-incoming-t
bounds-incoming-t c =
    let d = data_of c.args.given.now c.args.gross.now in
    omega (arith, came-length d c.args.incoming.now c.requires.incoming)

pub overflow_add-had : goal.overflow_add-had
overflow_add-had c =
    let d = data_of c.args.given.now c.args.gross.now in
    omega (arith, came-most d c.args.incoming.now c.args.t c.loop-n.n c.requires.within c.requires.incoming)

pub loop-n-preserved : goal.loop-n-preserved
loop-n-preserved c =
    let d = data_of c.args.given.now c.args.gross.now in
    let incoming = c.args.incoming.now in
    let t = c.args.t in
    let n = c.loop-n.n in
    let there : t + n < length incoming = omega (arith, came-length d incoming c.requires.incoming) in
    let came = get_or_read incoming (t + n) _ there c.index-incoming-t.is 0 in
    let comes = sum_drop_take-more incoming t n in
    let same = ap (λ (row : List ℕ). sum (take (n + 1) (drop t row))) c.requires.incoming in
    let needs = window-more d.gross t n d.policy.cover _ c.quantity_at-needed.ensures in
    record {
      needed = omega (arith, needs);
      had = omega (arith, came, comes);
      most = omega (arith, needs, came, comes, same, greatest-more (need d c.args.before t) n);
    }

pub of-requires : goal.of-requires
of-requires c =
    let d = data_of c.args.given.now c.args.gross.now in
    omega (arith, greatest-most d c.args.before c.args.t c.loop-n.n c.requires.within)

pub returns : goal.returns
returns c =
    let d = data_of c.args.given.now c.args.gross.now in
    let needs = need d c.args.before c.args.t in
    let all = ap (greatest needs) (let e : c.loop-n.n ≡ c.min-count.result = omega arith in e ∙ c.min-count.ensures) in
    c.of.ensures ∙ c.loop-n.invariant.most ∙ all ∙ greatest-horizon d c.args.before c.args.t c.args.periods c.requires.period
