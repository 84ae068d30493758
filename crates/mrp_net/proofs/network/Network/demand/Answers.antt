use Rattle.std.proofs.Common.{length, arith, ap}
use Rattle.std.proofs.lemmas.List.FromFn.{length-map-range_with_len}
use Rattle.mrp_master_data.specs.Table.{horizon}
use Rattle.mrp_net.specs.Sums.{demand}
use Rattle.mrp_net.proofs.Periods.{row_reads}
use Rattle.mrp_net.proofs.network.Network.demand.Goals as goal

pub offset_bounds-demand_row-t : goal.offset_bounds-demand_row-t
offset_bounds-demand_row-t c =
    let N = c.args.self.now in
    omega (arith, ap length c.demand_row.ensures, length-map-range_with_len (demand N c.args.x.0) 0 (horizon N), c.requires.period, c.demand_row.type_inv)

pub bounds-demand_row-t : goal.bounds-demand_row-t
bounds-demand_row-t c =
    let N = c.args.self.now in
    omega (arith, ap length c.demand_row.ensures, length-map-range_with_len (demand N c.args.x.0) 0 (horizon N), c.requires.period)

pub returns : goal.returns
returns c = row_reads c.args.self.now (demand c.args.self.now c.args.x.0) c.demand_row.result.now c.args.t c.demand_row.ensures c.requires.period
