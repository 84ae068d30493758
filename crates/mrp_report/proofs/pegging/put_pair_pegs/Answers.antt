use Rattle.std.proofs.Common.{◌≡◌, ◌<◌, ℕ, ap, arith}
use Rattle.std.specs.List.{flat_map, range_with_len}
use Rattle.std.proofs.lemmas.Result.{err_from_is_err_and}
use Rattle.mrp_master_data.specs.Table.{horizon}
use Rattle.mrp_report.specs.Pegs.{pair_pegs_text, period_pegs_text}
use Rattle.mrp_report.proofs.GatherFacts.{gathers-as, gathers-next, gathers-stop}
use Rattle.mrp_report.proofs.pegging.put_pair_pegs.Goals as goal

pub periods-preserved : goal.periods-preserved
periods-preserved g c =
    gathers-next (period_pegs_text c.args.line.now.network.now c.args.line.now.plan.now c.args.line.now.x.0) _ _ _ _ _ _ c.periods.t c.periods.invariant
    c.in_ok-put_period_pegs.ensures.rows

pub returns-in_err-put_period_pegs-clause-prefix : goal.returns-in_err-put_period_pegs-clause-prefix
unfolding pair_pegs_text
returns-in_err-put_period_pegs-clause-prefix g c =
    let p = err_from_is_err_and c.from_residual.result c.from_residual.ensures.1 in
    let N = c.args.line.now.network.now in
    let lt : c.periods.t < horizon N = omega arith in
    rw p.1 (gathers-stop (period_pegs_text N c.args.line.now.plan.now c.args.line.now.x.0) _ _ _ _ _ c.periods.t
    (horizon N) lt c.periods.invariant c.in_err-put_period_pegs.ensures.prefix)

pub returns-clause-rows : goal.returns-clause-rows
unfolding pair_pegs_text
returns-clause-rows g c =
    let N = c.args.line.now.network.now in
    let at_end : c.periods.t ≡ horizon N = omega arith in
    gathers-as _ _ _ _ _ _ (ap (λ (n : ℕ). flat_map (period_pegs_text N c.args.line.now.plan.now c.args.line.now.x.0) (range_with_len 0 n)) at_end)
    c.periods.invariant
