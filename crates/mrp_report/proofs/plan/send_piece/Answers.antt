use Rattle.std.proofs.Common.{◌-◌, ◌*◌, length, arith}
use Rattle.mrp_report.proofs.RoomFacts.{room-fewer}
use Rattle.mrp_report.proofs.plan.send_piece.Goals as goal

pub pairs_text-used-requires-clause-room : goal.pairs_text-used-requires-clause-room
pairs_text-used-requires-clause-room g c =
    room-fewer (c.args.end - c.args.first) 16 (length c.args.report.now.dates.now * 164) _ (omega arith) c.requires.room
