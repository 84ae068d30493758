use Rattle.std.proofs.Common.{◌≡◌, ℕ, ◌+◌, sum, take, suc, length, slice_index, slice_set, List, ap, ◌∙◌, arith, rules}
use Rattle.std.proofs.lemmas.List.{length-set}
use Rattle.std.proofs.lemmas.List.Edits.{fill_by_more}
use Rattle.mrp_qty.proofs.RangeLaws.{sum_take-suc}
use Rattle.mrp_advice.specs.Lacking.{lack_of_stock}
use Rattle.mrp_advice.proofs.lacks.find_lack_of_stock.Goals as goal

pub periods-init : goal.periods-init
periods-init c = search rules

pub periods-preserved : goal.periods-preserved
periods-preserved c =
    let gross = c.args.gross.now in
    let t = c.periods.t in
    let k = c.args.cover in
    let inv = c.periods.invariant in
    let next = ap (λ (n : ℕ). sum (take n gross)) (let e : t + 1 + k ≡ suc (t + k) = omega arith in e) in
    let there = ap (λ (n : ℕ). sum (take n gross)) (let e : suc t + k ≡ suc (t + k) = omega arith in e) in
    let here : c.of.result ≡ lack_of_stock c.args.params k gross t = omega (arith, inv.asked, there, sum_take-suc gross (t + k)) in
    let written : c.set.new.self ≡ slice_set c.periods.lacks t (lack_of_stock c.args.params k gross t) =
    c.set.ensures ∙ ap (λ (q : ℕ). slice_set c.periods.lacks t q) here in
    record {
      asked = omega (arith, inv.asked, next, sum_take-suc gross (t + k));
      done = λ j h. ap (λ (xs : List ℕ). slice_index xs j) written
          ∙ fill_by_more (lack_of_stock c.args.params k gross) c.periods.lacks t 0 (omega (arith, inv.size)) inv.done j h;
      size = ap length written ∙ length-set c.periods.lacks t _ ∙ inv.size;
    }
