-- The reader of tables: how many rows a table may have.
use Rattle.std.proofs.Common.{◌≡◌, ◌+◌, ◌-◌, ◌<◌, ◌≤◌, Bool, true, false, if◌then◌else◌, length, arith}
use Rattle.mrp_cal.proofs.BegunFacts.{begun-few}
use Rattle.mrp_master_data.specs.Table.{most}
use Rattle.mrp_qty.specs.Limits.{limits_of, rows_within}
use Rattle.mrp_qty.specs.declared.limits.LimitSet.{LimitSet}
use Rattle.mrp_qty.specs.declared.limits.LimitSet.TheVariants as set
use Rattle.mrp_tables.specs.declared.draft.Draft.{Draft}
use Rattle.mrp_tables.specs.Lists.{IsDraft}

-- there is one end at most
end-le : (ended : Bool) → (if ended then 1 else 0) ≤ 1
end-le true = omega arith
end-le false = omega arith

turns_are : (s : LimitSet) → (limits_of s).turns ≡ rows_within (limits_of s) + 1
turns_are set.Usual = omega arith
turns_are set.Large = omega arith

pub turns_most : (s : LimitSet) → (limits_of s).turns ≤ 81001522
turns_most set.Usual = omega arith
turns_most set.Large = omega arith

pub turns_some : (s : LimitSet) → 1 ≤ (limits_of s).turns
turns_some set.Usual = omega arith
turns_some set.Large = omega arith

pub draft_rows-lt : (d : Draft) → IsDraft d → d.rows < (most d.lists).turns
draft_rows-lt d is =
    let l = is.holds.rows.limits in
    let days : length d.lists.calendar.begun ≤ (most d.lists).periods - 1 =
    omega (arith, begun-few d.lists.calendar is.holds.rows.calendar, l.periods) in
    omega (
      arith,
      turns_are d.lists.limits,
      is.count,
      l.plants,
      l.pairs,
      l.bills,
      l.demands,
      l.receipts,
      l.ships,
      l.cums,
      l.resets,
      l.firms,
      l.policies,
      l.usages,
      l.vendors,
      days,
      end-le d.lists.ended,
    )

pub draft_rows-le : (d : Draft) → IsDraft d → d.rows ≤ 81001521
draft_rows-le d is = omega (arith, draft_rows-lt d is, turns_most d.lists.limits)
