-- The network: the share of a release that one of its sources is asked for, by the one rounding rule.
use Rattle.std.specs.Prelude.{ℕ, ◌-◌, ◌*◌, ◌/◌}

-- the share from one running share to another, in thousandths: what the thousandths up to `high` make of a release,
-- less what those up to `low` make, each rounded down. So the shares of all sources of a pair are the whole release.
abbrev pub share_of : ℕ → ℕ → ℕ → ℕ
share_of low high release = (release * high) / 1000 - (release * low) / 1000
