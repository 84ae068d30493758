-- Reading a table: what its first row makes, and each row after it.
use Rattle.std.proofs.Common.{◌≡◌, ℕ, ◌<◌, ◌&&◌, ltb, leb, Bool, true, false, not, List, [], ◌∷◌, Result, Ok, Err, refl, sym, ap, ◌∙◌, subst, arith}
use Rattle.std.proofs.lemmas.Bool.{and_parts}
use Rattle.std.proofs.lemmas.Bool.Decides.{nat_tests}
use Rattle.std.specs.List.{list_all}
use Rattle.std.specs.Str.{is_utf8}
use Rattle.std.proofs.lemmas.Str.{is_utf8-from_IsUtf8}
use Rattle.csv.specs.Records.{AllText}
use Rattle.mrp_validation.specs.declared.fault.TableFaultKind.{TableFaultKind}
use Rattle.mrp_validation.specs.declared.fault.TableFaultKind.TheVariants as fault
use denote.Enum.Bare.{sameb}
use Rattle.mrp_validation.specs.contracts.kind.Kind.{the_type as kind_type}
use Rattle.mrp_validation.specs.declared.kind.Kind.{Kind}
use Rattle.mrp_validation.specs.declared.kind.Kind.TheVariants as kind
use Rattle.mrp_cal.specs.Calendar.{CalendarTerms}
use Rattle.mrp_cal.specs.declared.begun.Begun.{Begun}
use Rattle.mrp_cal.specs.declared.fault.CalFault.{CalFault}
use Rattle.mrp_master_data.specs.Table.{Table}
use Rattle.mrp_validation.specs.Grammar.{◌>>=◌, kind_place, may_follow, row_kind, run_terms, RunTerms, TellsFault}
use Rattle.mrp_validation.specs.Reading.{first_terms, IsCalendarOf, is_run, kind_of_row, row_after, row_of_kind, started, Starts, StartsWith, UnlessMemory}
use Rattle.mrp_qty.specs.declared.limits.LimitSet.{LimitSet}

-- fields that are text pass the test for it
pub all_text : (fs : List (List ℕ)) → AllText fs → list_all is_utf8 fs ≡ true
unfolding AllText
all_text [] h = refl
all_text (f ∷ fs) h = rw (is_utf8-from_IsUtf8 f h.0) (all_text fs h.1)

-- the kind of a row of text is that of its fields
pub text_kind : (row : List (List ℕ)) → AllText row → kind_of_row row ≡ row_kind row
unfolding kind_of_row
text_kind row text = rw (all_text row text) refl

-- what holds of the row, whatever the fault
pub unless_memory : (e : TableFaultKind) (P : Type 0) → P → UnlessMemory e P
unless_memory fault.Memory P h = tt
unless_memory _ P h = h

pub told : {B : Type 0} (e : TableFaultKind) (read : Result B TableFaultKind) → read ≡ Err e → TellsFault read e
told fault.Memory read h = tt
told _ read h = h

module _ (row : List (List ℕ)) (text : AllText row) where
  first-misread : (limits : LimitSet) (e : TableFaultKind) → row_kind row ≡ Err e → first_terms limits row ≡ Err e
  unfolding first_terms
  first-misread limits e is = rw (text_kind row text, is) refl

  first-other : (limits : LimitSet) (k : Kind) → row_kind row ≡ Ok k → is_run k ≡ false → first_terms limits row ≡ Err fault.KindOrder
  unfolding first_terms
  first-other limits k is other = rw (text_kind row text, is, other) refl

  first-run : (limits : LimitSet) (k : Kind) → row_kind row ≡ Ok k → is_run k ≡ true → first_terms limits row ≡ run_terms limits row
  unfolding first_terms
  first-run limits k is run = rw (text_kind row text, is, run) refl

-- the first days that a table has given, where it is one
abbrev given : Result Table TableFaultKind → List Begun
given (Ok N) = N.calendar.begun
given (Err e) = []

no_days-by : (limits : LimitSet) (t : RunTerms) (N : Table) (c : Result CalendarTerms CalFault) → IsCalendarOf t c → Ok N ≡ started limits c
    → N.calendar.begun ≡ []
no_days-by limits t N (Ok c) is same = ap given same ∙ is.0.begun
no_days-by limits t N (Err e) is same = ap given same

-- a run gives no first day but its own
pub no_days : (limits : LimitSet) (terms : Result RunTerms TableFaultKind) (N : Table) → StartsWith limits terms (Ok N) → N.calendar.begun ≡ []
no_days limits (Ok t) N starts = no_days-by limits t N starts.0 starts.1 starts.2
no_days limits (Err e) N starts = ap given starts

-- terms that are refused make no table
starts-refused : (limits : LimitSet) (terms : Result RunTerms TableFaultKind) (e : TableFaultKind) → terms ≡ Err e → StartsWith limits terms (Err e)
starts-refused limits terms e is = subst (λ (r : Result RunTerms TableFaultKind). StartsWith limits r (Err e)) (sym is) refl

-- the first row's fault, or its calendar
module _ (row : List (List ℕ)) (text : AllText row) where
  pub first-bad_kind : (limits : LimitSet) (e : TableFaultKind) → row_kind row ≡ Err e → Starts limits row (Err e)
  first-bad_kind limits e is = starts-refused limits (first_terms limits row) e (first-misread row text limits e is)

  pub first-bad_order : (limits : LimitSet) (k : Kind) → row_kind row ≡ Ok k → is_run k ≡ false → Starts limits row (Err fault.KindOrder)
  first-bad_order limits k is other = starts-refused limits (first_terms limits row) fault.KindOrder (first-other row text limits k is other)

  pub first-calendar : (limits : LimitSet) (k : Kind) (start : Result Table TableFaultKind) → row_kind row ≡ Ok k → is_run k ≡ true
      → StartsWith limits (run_terms limits row) start
      → Starts limits row start
  first-calendar limits k start is run with_run = subst (λ (r : Result RunTerms TableFaultKind). StartsWith limits r start)
      (sym (first-run row text limits k is run)) with_run

-- a derived test for the run
same_run : (k : Kind) → sameb kind_type k kind.Run ≡ is_run k
same_run kind.Run = refl
same_run kind.Plant = refl
same_run kind.Pair = refl
same_run kind.Bill = refl
same_run kind.Demand = refl
same_run kind.Receipt = refl
same_run kind.Ship = refl
same_run kind.Cum = refl
same_run kind.Reset = refl
same_run kind.Firm = refl
same_run kind.Policy = refl
same_run kind.Usage = refl
same_run kind.Vendor = refl
same_run kind.Day = refl
same_run kind.End = refl

pub other_kind : (k : Kind) → true ≡ not (sameb kind_type k kind.Run) → is_run k ≡ false
other_kind k h = by (is_run k) (h ∙ ap not (same_run k))
  where
    by : (b : Bool) → true ≡ not b → b ≡ false
    by true h = absurd (cc)
    by false h = refl

pub run_kind : (k : Kind) → false ≡ not (sameb kind_type k kind.Run) → is_run k ≡ true
run_kind k h = by (is_run k) (h ∙ ap not (same_run k))
  where
    by : (b : Bool) → false ≡ not b → b ≡ true
    by true h = refl
    by false h = absurd (cc)

-- ---- the rows after the first

-- no row follows the end
pub follows_open : (next last : Kind) → may_follow next last ≡ true → kind_place last < kind_place kind.End
follows_open next last follows =
    let parts = and_parts (ltb 0 (kind_place next) && leb (kind_place last) (kind_place next)) (ltb (kind_place last) (kind_place kind.End)) follows in
    grind (arith, nat_tests)

-- a fault of a part is one of the whole
pub tells_fault : {A B : Type 0} (e : TableFaultKind) (part : Result A TableFaultKind) (read : Result B TableFaultKind) → TellsFault part e
    → (part ≡ Err e → read ≡ Err e) → TellsFault read e
tells_fault fault.Memory part read h f = tt
tells_fault _ part read h f = f h

module _ (N : Table) (last : Kind) (row : List (List ℕ)) (text : AllText row) where
  pub after-bad_kind : (e : TableFaultKind) → row_kind row ≡ Err e → row_after (N, last) row ≡ Err e
  unfolding row_after
  after-bad_kind e is = rw (text_kind row text, is) refl

  pub after-bad_order : (k : Kind) → row_kind row ≡ Ok k → may_follow k last ≡ false → row_after (N, last) row ≡ Err fault.KindOrder
  unfolding row_after
  after-bad_order k is other = rw (text_kind row text, is, other) refl

  after-kind : (k : Kind) (made : Result Table TableFaultKind) → row_kind row ≡ Ok k → may_follow k last ≡ true → row_of_kind k N row ≡ made
      → row_after (N, last) row ≡ (made >>= λ M. Ok (M, k))
  unfolding row_after
  after-kind k made is follows of = rw (text_kind row text, is, follows)
      (ap (λ (r : Result Table TableFaultKind). let s : Result (Table × Kind) TableFaultKind = r >>= λ M. Ok (M, k) in s) of)

  pub after-fault : (k : Kind) (e : TableFaultKind) → row_kind row ≡ Ok k → may_follow k last ≡ true → TellsFault (row_of_kind k N row) e
      → TellsFault (row_after (N, last) row) e
  after-fault k e is follows tells = tells_fault e (row_of_kind k N row) (row_after (N, last) row) tells (λ of. after-kind k (Err e) is follows of)

  pub after-made : (k : Kind) (M : Table) → row_kind row ≡ Ok k → may_follow k last ≡ true → row_of_kind k N row ≡ Ok M → row_after (N, last) row ≡ Ok (M, k)
  after-made k M is follows of = after-kind k (Ok M) is follows of
