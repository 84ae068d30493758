-- The library for C: what a caller finds in its buffer.
use Rattle.std.specs.Prelude.{◌≡◌, ℕ, ◌<◌, ◌≤◌, List, ◌++◌, length, drop}

-- a text is handed over: its length is told; where it fits, the buffer begins with it and goes on as it was, and else
-- the whole buffer is as it was
pub record HandsOver (text old new : List ℕ) (size : ℕ) : Type 0 where
  pub told : size ≡ length text
  pub filled : length text ≤ length old → new ≡ text ++ drop (length text) old
  pub kept : length old < length text → new ≡ old
