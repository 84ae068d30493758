use Rattle.std.proofs.Common.{length, arith, ap}
use Rattle.std.proofs.lemmas.List.FromFn.{length-map-range_with_len}
use Rattle.mrp_master_data.specs.Table.{horizon}
use Rattle.mrp_net.specs.Sums.{incoming}
use Rattle.mrp_net.proofs.Periods.{row_reads}
use Rattle.mrp_net.proofs.network.Network.incoming.Goals as goal

pub offset_bounds-incoming_row-t : goal.offset_bounds-incoming_row-t
offset_bounds-incoming_row-t c =
    let N = c.args.self.now in
    omega (arith, ap length c.incoming_row.ensures, length-map-range_with_len (incoming N c.args.x.0) 0 (horizon N), c.requires.period, c.incoming_row.type_inv)

pub bounds-incoming_row-t : goal.bounds-incoming_row-t
bounds-incoming_row-t c =
    let N = c.args.self.now in
    omega (arith, ap length c.incoming_row.ensures, length-map-range_with_len (incoming N c.args.x.0) 0 (horizon N), c.requires.period)

pub returns : goal.returns
returns c = row_reads c.args.self.now (incoming c.args.self.now c.args.x.0) c.incoming_row.result.now c.args.t c.incoming_row.ensures c.requires.period
