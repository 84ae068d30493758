use Rattle.std.proofs.Common.{◌+◌, ap, arith}
use Rattle.mrp_world.specs.Mailbox.{Held}
use Rattle.mrp_world.proofs.MailboxPieces as piece
use Rattle.mrp_world.proofs.mailbox.Mailbox.pieces.Goals as goal

pub overflow_add-pieces : goal.overflow_add-pieces
overflow_add-pieces c =
    omega (
      arith,
      c.requires,
      piece.pieces_within c.args.item.0 c.args.self.now.records (c.loop-at.at + 1),
      piece.pieces_so_far c.args.item.0 _ _ c.loop-at.at _ c.loop-at.pieces c.pieces_in-pieces.result (ap (λ (h : Held). h.records) c.self.view_is)
          (omega (arith, c.loop-at-test.true, c.len-at-end.ensures)) c.index.ensures c.loop-at.invariant c.pieces_in-pieces.ensures,
    )

pub loop-at-preserved : goal.loop-at-preserved
loop-at-preserved c =
    piece.pieces_so_far c.args.item.0 _ _ c.loop-at.at _ c.loop-at.pieces c.pieces_in-pieces.result (ap (λ (h : Held). h.records) c.self.view_is)
    (omega (arith, c.loop-at-test.true, c.len-at-end.ensures)) c.index.ensures c.loop-at.invariant c.pieces_in-pieces.ensures
