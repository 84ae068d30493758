-- The network: how many pieces of a component go into its parents over an edge, by the bill row, and by
-- usage rows from their periods on.
use Rattle.std.specs.Prelude.{ℕ, ◌+◌, ◌-◌, ◌*◌, ◌/◌, nat_le, max, if◌then◌else◌, List, [], ◌∷◌, length}
use Rattle.mrp_grouping.specs.Groups.{group, sorted_by}
use Rattle.mrp_master_data.specs.declared.rows.Usage.{Usage}
use Rattle.mrp_master_data.specs.declared.rows.UsageRow.{UsageRow}
use Rattle.mrp_master_data.specs.Table.{Table, horizon}

-- so many pieces for each parent
abbrev pub whole : ℕ → Usage
whole per = record { per = per; base = 1 }

-- pieces that go into so many parents, rounded up
abbrev pub pieces_for : Usage → ℕ → ℕ
pieces_for usage parents = (usage.per * parents + (usage.base - 1)) / usage.base

-- of rows by rising periods what the last says that begins by then, and before the first what is said before
abbrev pub in_force : ℕ → Usage → List UsageRow → Usage
in_force t before [] = before
in_force t before (u ∷ us) = in_force t (if nat_le u.period t then u.usage else before) us

-- the usage rows of a component, in order of their parents, and of each parent by rising periods
abbrev pub usages_to : Table → ℕ → List UsageRow
usages_to N x = group (λ u. u.component.0) x
    (sorted_by (λ u. u.parent.0) (length N.pairs) (sorted_by (λ u. u.period) (horizon N) N.usages))

-- of a component's rows those of a parent
abbrev pub usages_of : List UsageRow → ℕ → List UsageRow
usages_of us parent = group (λ u. u.parent.0) parent us

-- of a component's rows what is said of a parent in a period, where the bill row says so many in one
abbrev pub usage_in : List UsageRow → ℕ → ℕ → ℕ → Usage
usage_in us parent per t = in_force t (whole per) (usages_of us parent)

-- the greatest number of pieces for one parent that the bill row or a usage row says
abbrev pub most_per : ℕ → List UsageRow → ℕ
most_per per [] = per
most_per per (u ∷ us) = most_per (max per (pieces_for u.usage 1)) us
