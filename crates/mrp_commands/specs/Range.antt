-- Commands: what their values may be.
use Rattle.std.specs.Prelude.{ℕ, ◌<◌, ◌≤◌, IfSome, None, Option, Some}
use Rattle.mrp_qty.specs.Limits.{limits_of}
use Rattle.mrp_commands.specs.declared.request.Request.{Request}
use Rattle.mrp_commands.specs.declared.choice.Choice.{Choice}
use Rattle.mrp_commands.specs.declared.choice.Choice.TheVariants.{Plan, Check, Reach, Peg, Cums}
use Rattle.mrp_commands.specs.declared.choice.Choice.TheVariants.{Orders, Schedule, Pegs, Advice, Shortages}
use Rattle.mrp_commands.specs.declared.choice.TheConstants.{MOST_WORKERS, MOST_CAPACITY, LAST_PERIOD}

-- the numbers of a choice are in their ranges
abbrev pub IsInRange : Choice → Type 0
IsInRange (Plan workers capacity single) = (1 ≤ workers) × (workers ≤ MOST_WORKERS) × (1 ≤ capacity)
    × (capacity ≤ MOST_CAPACITY)
IsInRange (Check heading) = Unit {0}
IsInRange (Reach heading) = Unit {0}
IsInRange (Peg plant item period heading) = period ≤ LAST_PERIOD
IsInRange (Cums heading) = Unit {0}
IsInRange (Orders until heading) = IfSome until (λ period. period ≤ LAST_PERIOD)
IsInRange (Schedule from to heading) = Unit {0}
IsInRange (Pegs heading) = Unit {0}
IsInRange (Advice until reach heading) = IfSome until (λ period. period ≤ LAST_PERIOD)
IsInRange (Shortages heading) = Unit {0}

-- the period that is asked about, if one is
abbrev pub asked_period : Choice → Option ℕ
asked_period (Peg plant item period heading) = Some period
asked_period (Orders until heading) = until
asked_period (Advice until reach heading) = until
asked_period (Plan workers capacity single) = None
asked_period (Check heading) = None
asked_period (Reach heading) = None
asked_period (Cums heading) = None
asked_period (Schedule from to heading) = None
asked_period (Pegs heading) = None
asked_period (Shortages heading) = None

-- a table of the limits may have it
abbrev pub IsWithinLimits : Request → Type 0
IsWithinLimits request =
    IfSome (asked_period request.choice) (λ period. period < (limits_of request.reading.limits).periods)
