-- Reading a table: how many steps there were at a fault.
use Rattle.std.proofs.Common.{◌≡◌, inl, inr, ℕ, ◌+◌, ◌≤◌, max, List, length, Option, Some, None, Result, Ok, Err, IfErr, sym, ap, ◌∙◌, arith}
use Rattle.mrp_master_data.specs.Table.{Table}
use Rattle.mrp_master_data.specs.Turns.{row_count}
use Rattle.mrp_validation.specs.declared.fault.TableFault.{TableFault}
use Rattle.mrp_validation.specs.declared.fault.TableFaultKind.{TableFaultKind}
use Rattle.mrp_validation.specs.declared.fault.TableFaultKind.TheVariants as fault
use Rattle.mrp_validation.specs.Left.{OfLeft, TakesRow}
use Rattle.mrp_tables.specs.Steps.{HasWaited, StepsTo, UnlessMissing}

-- a fault of the first row, and of a later one
pub first_step : (old new row : ℕ) → row ≡ 1 → new ≡ old + 1 → new ≡ old + max 1 row
first_step old new row first tick = omega (arith, first, tick)

pub later_step : (old mid new row : ℕ) → 2 ≤ row → mid ≡ old + 1 → new + 1 ≡ mid + row → new ≡ old + max 1 row
later_step old mid new row later tick turns = omega (arith, later, tick, turns)

-- what holds of each fault
pub of_missing : (k : TableFaultKind) (says : Type 0) → says → UnlessMissing k says
of_missing fault.UnknownPair says it = tt
of_missing k says it = it

pub of_each : (r : Result Table TableFault) (says : TableFault → Type 0) → ((e : TableFault) → says e) → IfErr r says
of_each (Ok N) says each = tt
of_each (Err e) says each = each e

-- what is told after the last row: a missing pair, or the row behind the last
pub when_waited : (N : Table) (r : Result Table TableFault) (new mid old rows : ℕ) → IfErr r (HasWaited N) → mid ≡ old + 1 → new ≡ mid + rows
    → rows ≡ row_count N → IfErr r (λ e. UnlessMissing e.kind (new ≡ old + max 1 e.row))
when_waited N (Ok M) new mid old rows waited first more is = tt
when_waited N (Err e) new mid old rows (inl missing) first more is = rw missing tt
when_waited N (Err e) new mid old rows (inr cut) first more is = of_missing e.kind (new ≡ old + max 1 e.row) (omega (arith, cut.1, first, more, is))

no_read : (N : Table) (e : TableFault) → HasWaited N e → e.kind ≡ fault.ReadFault → ⊥
no_read N e (inl missing) failed = let other : fault.UnknownPair ≡ fault.ReadFault = sym missing ∙ failed in cc
no_read N e (inr cut) failed = let other : fault.Cut ≡ fault.ReadFault = sym cut.0 ∙ failed in cc

-- that is no failed read
pub waited_own : (N : Table) (r : Result Table TableFault) (says : Type 0) → IfErr r (HasWaited N) → IfErr r (λ e. e.kind ≡ fault.ReadFault → says)
waited_own N (Ok M) says waited = tt
waited_own N (Err e) says waited = λ failed. absurd (no_read N e waited failed)

-- as many steps as the named row says
pub steps_named : (left : Option (List (List (List ℕ)))) (old new row : ℕ) → new ≡ old + max 1 row → OfLeft left (StepsTo old new row)
steps_named None old new row same = tt
steps_named (Some rows) old new row same = inl same

-- as many as there are rows, and one for the end
pub steps_all : (left after : Option (List (List (List ℕ)))) (row : List (List ℕ)) (number old mid new : ℕ) → TakesRow left after row
    → OfLeft after (λ rows. new ≡ mid + length rows + 1) → mid ≡ old + 1 → OfLeft left (StepsTo old new number)
steps_all None after row number old mid new takes all first = tt
steps_all (Some rows) None row number old mid new takes all first = absurd takes
steps_all (Some rows) (Some rest) row number old mid new takes all first = inr (omega (arith, ap length takes, all, first))
