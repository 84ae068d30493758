-- The reader of tables: a row that was added to the draft, and one that was refused.
use Rattle.std.proofs.Common.{◌≡◌, ℕ, List, Option, Result, Ok, Err, MatchResult, sym, ap, ◌∙◌}
use Rattle.mrp_tables.specs.Drafts.{draft_state, TellsAdded}
use Rattle.mrp_tables.specs.declared.draft.Draft.{Draft}
use Rattle.mrp_validation.specs.declared.fault.TableFault.{TableFault}
use Rattle.mrp_validation.specs.declared.fault.TableFaultKind.{TableFaultKind}
use Rattle.mrp_validation.specs.declared.fault.TableFaultKind.TheVariants as fault
use Rattle.mrp_validation.specs.declared.kind.Kind.{Kind}
use Rattle.mrp_master_data.specs.Table.{Table}
use Rattle.mrp_validation.specs.Left.{OfLeft, TakesRow}
use Rattle.mrp_validation.specs.Reading.{OfRows, row_after, rows_after}
use Rattle.mrp_validation.proofs.Listed.{later_no_read_fault}
use Rattle.mrp_validation.proofs.Loop.{stops_row}

-- a row that was added, and one with a fault
pub added : (old new : Draft) (number : ℕ) (row : List (List ℕ)) (answer : Result (Unit {0}) TableFaultKind) (r : Result (Unit {0}) TableFault) (u : Unit {0})
    → MatchResult answer (λ value. r ≡ Ok value) (λ kind. r ≡ Err (record { row = number; kind = kind })) → r ≡ Ok u → TellsAdded old new answer row
    → row_after (draft_state old) row ≡ Ok (draft_state new)
added old new number row (Ok v) r u same e tells = tells
added old new number row (Err k) r u same e tells = absurd (cc)

refused_as : (before : Option (List (List (List ℕ)))) (number : ℕ) (s : Table × Kind) (e f : TableFault) → f ≡ e
    → OfRows e.kind (Unit {0}) (OfLeft before (λ rows. rows_after number s rows ≡ Err e))
    → OfRows f.kind (Unit {0}) (OfLeft before (λ rows. rows_after number s rows ≡ Err f))
refused_as before number s e f same says = rw same says

pub refused : (before after : Option (List (List (List ℕ)))) (old new : Draft) (number : ℕ) (row : List (List ℕ)) (answer : Result (Unit {0}) TableFaultKind)
    (r : Result (Unit {0}) TableFault) (e : TableFault)
    → MatchResult answer (λ value. r ≡ Ok value) (λ kind. r ≡ Err (record { row = number; kind = kind })) → r ≡ Err e → TellsAdded old new answer row
    → TakesRow before after row → OfRows e.kind (Unit {0}) (OfLeft before (λ rows. rows_after number (draft_state old) rows ≡ Err e))
refused before after old new number row (Ok v) r e same is tells takes = absurd (cc)
refused before after old new number row (Err k) r e same is tells takes =
    let f : e ≡ record { row = number; kind = k } = cc in
    refused_as before number (draft_state old) (record { row = number; kind = k }) e f (stops_row before after number (draft_state old) k row takes tells)

-- a fault of a row is never a failed read
pub refused_own : (old new : Draft) (number : ℕ) (row : List (List ℕ)) (answer : Result (Unit {0}) TableFaultKind) (r : Result (Unit {0}) TableFault)
    (e : TableFault)
    → MatchResult answer (λ value. r ≡ Ok value) (λ kind. r ≡ Err (record { row = number; kind = kind })) → r ≡ Err e → TellsAdded old new answer row
    → e.kind ≡ fault.ReadFault → ⊥
refused_own old new number row (Ok v) r e same is tells failed = absurd (cc)
refused_own old new number row (Err k) r e same is tells failed =
    let f : e ≡ record { row = number; kind = k } = cc in
    later_no_read_fault (draft_state old) row k tells (sym (ap (λ (x : TableFault). x.kind) f) ∙ failed)

pub refused_at : (number : ℕ) (answer : Result (Unit {0}) TableFaultKind) (r : Result (Unit {0}) TableFault) (e : TableFault)
    → MatchResult answer (λ value. r ≡ Ok value) (λ kind. r ≡ Err (record { row = number; kind = kind })) → r ≡ Err e → e.row ≡ number
refused_at number (Ok v) r e same is = absurd (cc)
refused_at number (Err k) r e same is = let f : e ≡ record { row = number; kind = k } = cc in ap (λ (x : TableFault). x.row) f
