use Rattle.std.proofs.Common.{sym}
use Rattle.mrp_c_api.proofs.large.mrp_orders_large.Goals as goal

pub returns : goal.returns
returns c = rw (sym c.large_reading_of-reading.ensures) c.orders.ensures
