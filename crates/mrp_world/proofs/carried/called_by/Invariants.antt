use Rattle.std.proofs.Common.{◌≡◌, ◌+◌, length, slice_index}
use Rattle.mrp_net.specs.Shares.{share_of}
use Rattle.mrp_record.specs.Text.{total}
use Rattle.mrp_protocol.specs.Loads.{by_period}
use Rattle.mrp_world.proofs.Carrying.{from_on}
use Rattle.mrp_world.proofs.carried.called_by.Given as goal

-- the periods so far with pieces are counted, and their pieces and those of the periods to come make the whole
abbrev pub invariant-loop-period : goal.invariant-loop-period
invariant-loop-period l = record {
  lines : l.lines ≡ length (by_period (λ t. share_of l.source.low l.source.high (slice_index l.release t)) l.period);
  pieces : l.pieces + from_on (λ t. share_of l.source.low l.source.high (slice_index l.release t)) (length l.release) l.period
      ≡ total (by_period (λ t. share_of l.source.low l.source.high (slice_index l.release t)) (length l.release));
}
