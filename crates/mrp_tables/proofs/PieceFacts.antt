-- Reading a table in pieces: what the rows of a piece said, taken into the table row by row.
use Rattle.std.proofs.Common.{◌≡◌, ℕ, suc, ◌+◌, ◌<◌, List, [], ◌∷◌, ◌++◌, drop, get_or, length, Some, Result, Ok, Err, MatchResult, OnOk, refl, ap}
use Rattle.std.proofs.Common.{sym, ◌∙◌, subst}
use Rattle.std.proofs.Common.{add-one, drop-cons}
use Rattle.mrp_master_data.specs.Table.{Table}
use Rattle.mrp_validation.specs.Grammar.{TellsFault}
use Rattle.mrp_validation.specs.Left.{ReadsOn}
use Rattle.mrp_validation.specs.Reading.{row_after}
use Rattle.mrp_validation.specs.declared.fault.TableFault.{TableFault}
use Rattle.mrp_validation.specs.declared.fault.TableFaultKind.{TableFaultKind}
use Rattle.mrp_validation.specs.declared.kind.Kind.{Kind}
use Rattle.mrp_validation.proofs.Keeping.{row_after_keeps}
use Rattle.mrp_validation.proofs.Loop.{goes_on_on, goes_row, goes_to_fault, stops_row}
use Rattle.mrp_tables.specs.declared.bulk.BulkRow.{BulkRow}
use Rattle.mrp_tables.specs.declared.draft.Draft.{Draft}
use Rattle.mrp_tables.specs.Bulk.{bulk_after, IsBulk, SayAll, Says, TellsAfter}
use Rattle.mrp_tables.specs.Drafts.{draft_state, IsDraftKept}
use Rattle.mrp_tables.specs.Pieces.{IsSaid, TellsThem}
use Rattle.mrp_tables.proofs.BulkFacts.{is_bulk-kept, keeps_on, says-after, taken-kept}

-- some of the rows were taken, and these are left to say
pub record TakenSo (rows : List (List (List ℕ))) (old d : Draft) (said : List BulkRow) : Type 0 where
  pub rest : List (List (List ℕ))
  pub says : IsSaid d.lists rest said
  pub goes : (more : List (List (List ℕ))) → ReadsOn (Some (rows ++ more)) (Some (rest ++ more)) (old.rows + 1) (draft_state old) (d.rows + 1) (draft_state d)

-- the row that says the first of what is left
record First (of : Table) (rest : List (List (List ℕ))) (b : BulkRow) (said : List BulkRow) : Type 0 where
  pub row : List (List ℕ)
  pub after : List (List (List ℕ))
  pub rest_is : rest ≡ row ∷ after
  pub says : Says of row b
  pub is : IsBulk of b
  pub all : SayAll of after said

first_of : (of : Table) (rest : List (List (List ℕ))) (b : BulkRow) (said : List BulkRow) → SayAll of rest (b ∷ said) → First of rest b said
unfolding SayAll
first_of of [] b said all = absurd all
first_of of (row ∷ after) b said all = record { row = row; after = after; rest_is = refl; says = all.0; is = all.1; all = all.2 }

module _ (rows : List (List (List ℕ))) (old d : Draft) (b : BulkRow) (said : List BulkRow) (so : TakenSo rows old d (b ∷ said)) where
  abbrev first : First so.says.of so.rest b said
  first = first_of so.says.of so.rest b said so.says.says

  pub taken_bulk : IsBulk d.lists b
  taken_bulk = is_bulk-kept so.says.of d.lists b so.says.kept first.is

  same_row : row_after (draft_state d) first.row ≡ bulk_after (draft_state d) b
  same_row = says-after so.says.of (draft_state d) first.row b so.says.kept first.says

  pub taken_kept : (e : Draft) → IsDraftKept d → bulk_after (draft_state d) b ≡ Ok (draft_state e) → IsDraftKept e
  taken_kept e kept made = row_after_keeps (draft_state d) (draft_state e) first.row kept (same_row ∙ made)

  -- the rows up to this one
  goes_here : (more : List (List (List ℕ)))
      → ReadsOn (Some (rows ++ more)) (Some (first.row ∷ (first.after ++ more))) (old.rows + 1) (draft_state old) (d.rows + 1)
      (draft_state d)
  goes_here more = subst (λ (l : List (List (List ℕ))). ReadsOn (Some (rows ++ more)) (Some (l ++ more)) (old.rows + 1) (draft_state old) (d.rows + 1)
      (draft_state d))
      first.rest_is (so.goes more)

  pub taken_one : (e : Draft) → bulk_after (draft_state d) b ≡ Ok (draft_state e) → e.rows ≡ d.rows + 1 → TakenSo rows old e said
  taken_one e made count = record {
    rest = first.after;
    says = record {
      of = so.says.of;
      kept = keeps_on so.says.of d.lists e.lists so.says.kept (taken-kept (draft_state d) (draft_state e) b made);
      says = first.all;
    };
    goes =
        λ more.
        subst (λ (n : ℕ). ReadsOn (Some (rows ++ more)) (Some (first.after ++ more)) (old.rows + 1) (draft_state old) (n + 1) (draft_state e)) (sym count)
        (goes_on_on (Some (rows ++ more)) (Some (first.row ∷ (first.after ++ more))) (Some (first.after ++ more)) (old.rows + 1) (d.rows + 1) (d.rows + 1 + 1)
        (draft_state old) (draft_state d) (draft_state e) (goes_here more)
        (goes_row (Some (first.row ∷ (first.after ++ more))) (Some (first.after ++ more)) (d.rows + 1) (draft_state d) (draft_state e) first.row refl
        (same_row ∙ made)));
  }

  pub taken_fault : (e new : Draft) (k : TableFaultKind) → TellsAfter (bulk_after (draft_state d) b) e (Err k)
      → TellsThem {A = Unit {0}} rows old new (Err (record { row = d.rows + 1; kind = k }))
  taken_fault e new k tells more =
      goes_to_fault (Some (rows ++ more)) (Some (first.row ∷ (first.after ++ more))) (old.rows + 1) (d.rows + 1) (draft_state old) (draft_state d)
      (record { row = d.rows + 1; kind = k }) refl (goes_here more)
      (stops_row (Some (first.row ∷ (first.after ++ more))) (Some (first.after ++ more)) (d.rows + 1) (draft_state d) k first.row refl
      (subst (λ (r : Result (Table × Kind) TableFaultKind). TellsFault r k) (sym same_row) tells))

  -- what is answered with the number of the row
  pub taken_refused : (e new : Draft) (answer : Result (Unit {0}) TableFaultKind) (r : Result (Unit {0}) TableFault) (f : TableFault)
      → MatchResult answer (λ value. r ≡ Ok value) (λ kind. r ≡ Err (record { row = d.rows + 1; kind = kind })) → r ≡ Err f
      → TellsAfter (bulk_after (draft_state d) b) e answer → TellsThem {A = Unit {0}} rows old new (Err f)
  taken_refused e new (Ok v) r f same is tells = absurd (cc)
  taken_refused e new (Err k) r f same is tells =
      let named : record { row = d.rows + 1; kind = k } ≡ f = cc in
      subst (λ (g : TableFault). TellsThem {A = Unit {0}} rows old new (Err g)) named (taken_fault e new k tells)

-- it was taken
pub was_taken : (read : Result (Table × Kind) TableFaultKind) (e : Draft) (number : ℕ) (answer : Result (Unit {0}) TableFaultKind)
    (r : Result (Unit {0}) TableFault) (u : Unit {0})
    → MatchResult answer (λ value. r ≡ Ok value) (λ kind. r ≡ Err (record { row = number; kind = kind })) → r ≡ Ok u → TellsAfter read e answer
    → read ≡ Ok (draft_state e)
was_taken read e number (Ok v) r u same is tells = tells
was_taken read e number (Err k) r u same is tells = absurd (cc)

pub went_on : (number : ℕ) (answer : Result (Unit {0}) TableFaultKind) (r : Result (Unit {0}) TableFault) (u : Unit {0}) (P : Type 0)
    → MatchResult answer (λ value. r ≡ Ok value) (λ kind. r ≡ Err (record { row = number; kind = kind })) → r ≡ Ok u → OnOk answer P → P
went_on number (Ok v) r u P same is holds = holds
went_on number (Err k) r u P same is holds = absurd (cc)

-- the next of what was said
pub next_of : (slice items : List BulkRow) (i : ℕ) (x : BulkRow) → slice ≡ items → i < length slice → x ≡ get_or slice i x
    → drop i items ≡ x ∷ drop (i + 1) items
next_of slice items i x same within is =
    rw (← same, add-one i) (drop-cons slice i x within ∙ ap (λ (b : BulkRow). b ∷ drop (suc i) slice) (sym is))

rest_none : (of : Table) (rest : List (List (List ℕ))) → SayAll of rest [] → rest ≡ []
unfolding SayAll
rest_none of [] all = refl
rest_none of (row ∷ rest) all = absurd all

pub taken_all : {A : Type 0} (rows : List (List (List ℕ))) (old d : Draft) (x : A) → TakenSo rows old d [] → TellsThem rows old d (Ok x)
taken_all rows old d x so more =
    subst (λ (l : List (List (List ℕ))). ReadsOn (Some (rows ++ more)) (Some (l ++ more)) (old.rows + 1) (draft_state old) (d.rows + 1) (draft_state d))
    (rest_none so.says.of so.rest so.says.says) (so.goes more)
