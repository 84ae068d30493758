use Rattle.std.proofs.Common.{length, arith}
use Rattle.std.proofs.lemmas.List.FromFn.{fill_by_all}
use Rattle.mrp_netting.specs.PlanningData.{incoming_at}
use Rattle.mrp_netting.specs.PlanningBound.{data_of}
use Rattle.mrp_netting.proofs.TogetherLaws.{incoming-due}
use Rattle.mrp_netting.proofs.incoming.plan_incoming.Goals as goal

pub returns-then-given-eq0 : goal.returns-then-given-eq0
returns-then-given-eq0 c =
    let d = data_of c.args.given.now c.args.gross.now in
    fill_by_all (incoming_at d) c.add_pieces-then-given-eq0.new.row (length c.args.gross.now) 0
    (omega (arith, c.add_pieces-then-given-eq0.ensures.size, c.add_pieces.ensures.size, c.put_pieces.ensures.size, c.requires.room))
    (λ t h. omega (
      arith,
      c.add_pieces-then-given-eq0.ensures.each t,
      c.add_pieces.ensures.each t,
      c.put_pieces.ensures.each t,
      incoming-due d t c.if-given-eq0.true,
    ))
