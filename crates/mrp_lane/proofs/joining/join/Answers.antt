use Rattle.mrp_lane.proofs.Joined.{shows}
use Rattle.mrp_lane.proofs.joining.join.Goals as goal

pub returns : goal.returns
returns c =
    let met = c.meet-met.ensures.met in
    let shown = shows met in
    record {
      network = shown.network;
      lane = shown.lane;
      sent = shown.sent;
      taken = shown.taken;
      left = shown.left;
      sent_at = shown.sent_at;
      taken_at = shown.taken_at;
      left_at = shown.left_at;
      figures = shown.figures;
      legal_sent = met.legal_sent;
      legal_taken = met.legal_taken;
    }
