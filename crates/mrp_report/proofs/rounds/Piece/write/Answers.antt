use Rattle.std.proofs.Common.{◌≡◌, length, ◌∙◌, arith}
use Rattle.mrp_report.proofs.RoundFacts.{piece_is, room_kept}
use Rattle.mrp_report.proofs.rounds.Piece.write.Goals as goal

pub returns : goal.returns
returns c =
    let N = c.args.report.now.network.now in
    let room : length c.pairs_text-self-inside.new.room ≡ c.self.inside.room.len =
    omega (arith, c.pairs_text-self-inside.ensures.room, c.as_mut_slice.ensures.len, c.self.inside.room.ok) in
    record {
      text = room_kept _ _ c.pairs_text-self-inside.new.room _ room ∙ c.pairs_text-self-inside.ensures.text
          ∙ piece_is N c.args.report.now.plan.now c.args.first c.args.size c.args.k _ _ c.requires.round.within (omega arith) (omega arith);
    }
