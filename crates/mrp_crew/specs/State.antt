-- A crew of workers: what callers see of it.
use Rattle.std.specs.Prelude.{ℕ}

-- how many workers it has, and for how many periods they plan
pub record CrewState : Type 0 where
  pub workers : ℕ
  pub horizon : ℕ
