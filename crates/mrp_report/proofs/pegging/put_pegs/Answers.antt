use Rattle.std.proofs.Common.{◌≡◌, ◌<◌, ℕ, length, ap, arith}
use Rattle.std.specs.List.{flat_map, range_with_len}
use Rattle.std.proofs.lemmas.Result.{err_from_is_err_and}
use Rattle.mrp_report.specs.Pegs.{pair_pegs_text, pegs_text}
use Rattle.mrp_report.proofs.GatherFacts.{gathers-as, gathers-next, gathers-stop}
use Rattle.mrp_report.proofs.pegging.put_pegs.Goals as goal

pub pairs-preserved : goal.pairs-preserved
pairs-preserved g c = gathers-next (pair_pegs_text c.args.network.now c.args.plan.now) _ _ _ _ _ _ c.pairs.x c.pairs.invariant
    c.in_ok-put_pair_pegs.ensures.rows

pub returns-in_err-put_pair_pegs-clause-prefix : goal.returns-in_err-put_pair_pegs-clause-prefix
unfolding pegs_text
returns-in_err-put_pair_pegs-clause-prefix g c =
    let p = err_from_is_err_and c.from_residual.result c.from_residual.ensures.1 in
    let N = c.args.network.now in
    let lt : c.pairs.x < length N.pairs = omega arith in
    rw p.1 (gathers-stop (pair_pegs_text N c.args.plan.now) _ _ _ _ _ c.pairs.x (length N.pairs) lt c.pairs.invariant c.in_err-put_pair_pegs.ensures.prefix)

pub returns-clause-rows : goal.returns-clause-rows
unfolding pegs_text
returns-clause-rows g c =
    let N = c.args.network.now in
    let at_end : c.pairs.x ≡ length N.pairs = omega arith in
    gathers-as _ _ _ _ _ _ (ap (λ (n : ℕ). flat_map (pair_pegs_text N c.args.plan.now) (range_with_len 0 n)) at_end) c.pairs.invariant
