-- The reader of tables: whether there is room for one row more, as the limits that were read say, is as those of the table say.
use Rattle.std.proofs.Common.{◌≡◌, ℕ, ◌≤◌, ◌<◌, List, length, subst}
use Rattle.mrp_qty.specs.declared.limits.Limits.{Limits}
use Rattle.mrp_master_data.specs.Table.{most, Table}

pub full_of : {X : Type 0} (limit : Limits → ℕ) (l : Limits) (N : Table) (read xs : List X) → l ≡ most N → read ≡ xs → limit l ≤ length read
    → limit (most N) ≤ length xs
full_of {X} limit l N read xs is same full =
    subst (λ (ys : List X). limit (most N) ≤ length ys) same (subst (λ (k : Limits). limit k ≤ length read) is full)

pub room_of : {X : Type 0} (limit : Limits → ℕ) (l : Limits) (N : Table) (read xs : List X) → l ≡ most N → read ≡ xs → length read < limit l
    → length xs < limit (most N)
room_of {X} limit l N read xs is same room =
    subst (λ (ys : List X). length ys < limit (most N)) same (subst (λ (k : Limits). length read < limit k) is room)
