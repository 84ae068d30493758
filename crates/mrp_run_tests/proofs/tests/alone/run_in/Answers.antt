use Rattle.std.proofs.Common.{◌≡◌, length, ap, arith}
use Rattle.mrp_master_data.specs.Table.{Table}
use Rattle.mrp_net.specs.Lanes.{lanes}
use Rattle.mrp_run_tests.proofs.tests.alone.run_in.Goals as goal

pub run-requires : goal.run-requires
run-requires g c =
    let same : length (lanes c.network.result.now) ≡ length (lanes c.in_ok-net.net.network) = ap (λ (M : Table). length (lanes M)) c.network.ensures.value in
    (c.type_bounds.sync-R, (c.type_bounds.sync-G, omega (arith, same, c.lanes.ensures, c.if-lanes-gt0.false)))
