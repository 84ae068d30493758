-- The protocol: how many events a run of it has.
use Rattle.std.specs.Prelude.{ℕ, ◌+◌, ◌*◌, length, sum_by}
use Rattle.mrp_master_data.specs.Table.{Table}
use Rattle.mrp_net.specs.Lanes.{lanes}
use Rattle.mrp_record.specs.Lengths.{length_of_text}
use Rattle.mrp_protocol.specs.Loads.{loads}

-- how many events a whole run has: each pair is planned, and each record of each lane sent and received
abbrev pub steps : Table → ℕ
steps N = length N.pairs + 2 * sum_by (λ lane. length_of_text (loads N lane)) (lanes N)
