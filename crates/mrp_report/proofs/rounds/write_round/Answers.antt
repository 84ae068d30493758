use denote.Exit.{no}
use denote.Param.Send.{arg_sync, param_sync, shr_sync}
use Rattle.mrp_report.proofs.Crossing.{closure_sync, report_sync, size_sync}
use Rattle.std.proofs.Common.{◌≡◌, ◌-◌, ◌*◌, min, [], length, ap, ◌∙◌, arith}
use Rattle.mrp_report.specs.Parts.{pairs_text}
use Rattle.mrp_report.proofs.RoundFacts.{pieces_joined}
use Rattle.mrp_report.proofs.rounds.write_round.Goals as goal

pub returns-clause-text : goal.returns-clause-text
returns-clause-text g c =
    let N = c.args.report.now.network.now in
    let same : length c.for_each_mut.new.s ≡ length c.args.pieces.now = omega arith in
    pieces_joined N c.args.report.now.plan.now c.args.size c.args.first c.for_each_mut.new.s
    (λ k within. let at = (c.for_each_mut.ensures k [] (omega arith)).1 in grind arith)
    ∙ ap (λ n. pairs_text N c.args.report.now.plan.now c.args.first (min (length N.pairs - c.args.first) (n * c.args.size))) same

-- a search through all that a network owns meets its limit
pub for_each_mut-requires-sync-F : goal.for_each_mut-requires-sync-F
for_each_mut-requires-sync-F g c κs within =
    param_sync 2 _ (arg_sync _ no _ (closure_sync _ _ _ _
    (shr_sync _ _ _ (report_sync _)) (shr_sync _ _ _ size_sync) (shr_sync _ _ _ size_sync)))
