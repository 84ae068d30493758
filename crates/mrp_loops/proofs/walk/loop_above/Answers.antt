use Rattle.std.proofs.Common.{◌-◌, length, drop}
use Rattle.std.proofs.lemmas.List.Elements.{All-take}
use Rattle.mrp_master_data.specs.declared.numbers.PairNo.{PairNo}
use Rattle.mrp_loops.specs.Upstream.{IsMet}
use Rattle.mrp_loops.proofs.walk.loop_above.Goals as goal

pub turned-requires-clause-met : goal.turned-requires-clause-met
turned-requires-clause-met c =
    let path = c.in_ok-lasso.lasso.path.items in
    let from = c.in_ok-lasso.lasso.from in
    rw c.as_slice-path.ensures.value
    (All-take (λ (z : PairNo). IsMet c.args.network.now z.0) (length path - from) (drop from path) c.in_ok-lasso.ensures.met)
