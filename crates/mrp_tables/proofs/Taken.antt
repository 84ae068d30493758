-- Reading a table: what a read of a record takes off the rows that are left.
use Rattle.std.proofs.Common.{◌≡◌, inl, inr, ℕ, Bool, true, false, ◌&&◌, List, [], ◌∷◌, Option, Some, None, option_map, refl, sym, ap, subst, ◌∙◌}
use Rattle.std.specs.List.{list_all}
use Rattle.std.specs.Str.{is_utf8}
use Rattle.std.proofs.lemmas.Str.{IsUtf8-from_is_utf8}
use Rattle.std.proofs.lemmas.Bool.{cases_Bool, false≢true}
use Rattle.csv.specs.Machine.{Read, next_record}
use Rattle.csv.specs.Reading.{default_config, ExplainsRead, has_failed, NextIs, pending_of, reader_trim, ReadRecord, ReadsNext, Ready, source_of, stops_reader}
use Rattle.csv.specs.Records.{AllText}
use Rattle.csv.specs.declared.error.ErrorKind.{ErrorKind}
use Rattle.csv.specs.declared.error.ErrorKind.TheVariants as error
use Rattle.csv.specs.declared.parser.State.{State}
use Rattle.csv.specs.declared.reader.Reader.{Reader}
use Rattle.csv.specs.declared.reader.Trim.TheVariants as trim
use Rattle.mrp_validation.specs.declared.fault.TableFaultKind.{TableFaultKind}
use Rattle.mrp_validation.specs.declared.fault.TableFaultKind.TheVariants as fault
use Rattle.mrp_validation.specs.Left.{fault_of, GivesAll, rows_left, MayCome, OfLeft, records_in, StartsBadly, TakesRow}
use Rattle.mrp_validation.specs.Reading.{OfRows}
use Rattle.mrp_validation.proofs.Records.{none_left, one_left}

both : (a b : Bool) → (a && b) ≡ true → (a ≡ true) × (b ≡ true)
both true b e = (refl, e)
both false b e = absurd (false≢true e)

-- the test of text
all_text : (row : List (List ℕ)) → list_all is_utf8 row ≡ true → AllText row
unfolding AllText
all_text [] e = tt
all_text (f ∷ fs) e = let p = both (is_utf8 f) (list_all is_utf8 fs) e in (IsUtf8-from_is_utf8 f p.0, all_text fs p.1)

no_text : (row : List (List ℕ)) → ¬ AllText row → list_all is_utf8 row ≡ false
no_text row not_text =
    elim (cases_Bool (list_all is_utf8 row)) [
      | inl text ↦ absurd (not_text (all_text row text))
      | inr other ↦ other
    ]

-- the records that are left after a read
next_some : (o : Option Read) (row : List (List ℕ)) (s : State) (ys : List ℕ) → NextIs o true row s ys
    → (r : Read) × (o ≡ Some r) × (row ≡ r.0) × (s ≡ r.1) × (ys ≡ r.2)
next_some None row s ys n = cc n
next_some (Some r) row s ys n = (r, refl, n.1, n.2, n.3)

next_none : (o : Option Read) (row : List (List ℕ)) (s : State) (ys : List ℕ) → NextIs o false row s ys → o ≡ None
next_none None row s ys n = refl
next_none (Some r) row s ys n = cc n.0

rows_same : (rows : List (List (List ℕ))) (row : List (List ℕ)) (t : State) (ys : List ℕ) (r : Read) → row ≡ r.0 → t ≡ r.1 → ys ≡ r.2
    → rows ≡ r.0 ∷ records_in r.1 r.2
    → rows ≡ row ∷ records_in t ys
rows_same rows row t ys r a b c e = rw (a, b, c) e

taken : (s t : State) (before after : Option (List ℕ)) (row : List (List ℕ)) → ReadsNext default_config s before after true row t
    → TakesRow (option_map (records_in s) before) (option_map (records_in t) after) row
taken s t None after row r = tt
taken s t (Some xs) None row r = absurd r
taken s t (Some xs) (Some ys) row r =
    let n = next_some (next_record default_config s [] [] xs) row t ys r in
    rows_same (records_in s xs) row t ys n.0 n.2 n.3 n.4 (one_left default_config s xs n.0 n.1)

starts : (s t : State) (before after : Option (List ℕ)) (row : List (List ℕ)) → ReadsNext default_config s before after true row t
    → OfLeft (option_map (records_in s) before) (λ rows. (rest : List (List (List ℕ))) × (rows ≡ row ∷ rest))
starts s t None after row r = tt
starts s t (Some xs) None row r = absurd r
starts s t (Some xs) (Some ys) row r = (records_in t ys, taken s t (Some xs) (Some ys) row r)

ended : (s t : State) (before after : Option (List ℕ)) (row : List (List ℕ)) → ReadsNext default_config s before after false row t
    → OfLeft (option_map (records_in s) before) (λ rows. rows ≡ [])
ended s t None after row r = tt
ended s t (Some xs) None row r = absurd r
ended s t (Some xs) (Some ys) row r = none_left default_config s xs (next_none (next_record default_config s [] [] xs) row t ys r)

-- a read that found a row, and one that found none
pub takes_row : {R : Type 0} (rem : R → Option (List ℕ)) (old new : Reader R) (row : List (List ℕ)) → GivesAll old → ReadRecord rem old new true row
    → TakesRow (rows_left rem old) (rows_left rem new) row
takes_row rem old new row gives r = rw r.1 (taken old.state new.state (source_of rem old) (pending_of (rem new.rdr) new) row (rw gives.0 at r.0))

pub ends_rows : {R : Type 0} (rem : R → Option (List ℕ)) (old new : Reader R) (row : List (List ℕ)) → GivesAll old → ReadRecord rem old new false row
    → OfLeft (rows_left rem old) (λ rows. rows ≡ [])
ends_rows rem old new row gives r = ended old.state new.state (source_of rem old) (pending_of (rem new.rdr) new) row (rw gives.0 at r.0)

-- a read of a row that isn't text
bad_row : (left : Option (List (List (List ℕ)))) (row : List (List ℕ)) (number : ℕ) → list_all is_utf8 row ≡ false
    → OfLeft left (λ rows. (rest : List (List (List ℕ))) × (rows ≡ row ∷ rest))
    → OfLeft left (λ rows. StartsBadly number rows (record { row = number; kind = fault.NotUtf8 }))
bad_row None row number bad s = tt
bad_row (Some rows) row number bad s = record { row = row; rest = s.0; rows_are = s.1; no_text = bad; fault_is = refl }

-- ---- why a read failed

pub explains : {R : Type 0} (rem : R → Option (List ℕ)) (old new : Reader R) (number : ℕ) (why : ErrorKind) → GivesAll old → ExplainsRead rem old new true why
    → OfRows (fault_of why) (Unit {0}) (OfLeft (rows_left rem old) (λ rows. StartsBadly number rows (record { row = number; kind = fault_of why })))
explains rem old new number (error.Io e) gives r = tt
explains rem old new number (error.Utf8 pos e) gives r =
    bad_row (rows_left rem old) r.1 number (no_text r.1 r.3) (starts old.state new.state (source_of rem old) (pending_of (rem new.rdr) new) r.1
    (rw gives.0 at r.2))
explains rem old new number (error.UnequalLengths pos expected len) gives r = absurd (false≢true (sym r.0 ∙ gives.3))
explains rem old new number (error.Serialize text) gives r = tt
explains rem old new number (error.Deserialize pos e) gives r = tt
explains rem old new number error.OutOfMemory gives r = tt

-- a reader that gives each record has no error of lengths, and none of values
may_come : {R : Type 0} (rem : R → Option (List ℕ)) (old new : Reader R) (why : ErrorKind) → GivesAll old → ExplainsRead rem old new true why → MayCome why
may_come rem old new (error.Io e) gives r = tt
may_come rem old new (error.Utf8 pos e) gives r = tt
may_come rem old new (error.UnequalLengths pos expected len) gives r = absurd (false≢true (sym r.0 ∙ gives.3))
may_come rem old new (error.Serialize text) gives r = absurd r
may_come rem old new (error.Deserialize pos e) gives r = absurd r
may_come rem old new error.OutOfMemory gives r = tt

-- a failed read stops the reader, whatever its errors are called
stops_at : {F : Type 0} (called : ErrorKind → F) (failed : F) → ((pos : _) (e : _) → called (error.Utf8 pos e) ≡ failed → ⊥) → (why : ErrorKind)
    → called why ≡ failed → MayCome why → stops_reader why ≡ true
stops_at called failed text (error.Io e) same comes = refl
stops_at called failed text (error.Utf8 pos e) same comes = absurd (text pos e same)
stops_at called failed text (error.UnequalLengths pos expected len) same comes = absurd comes
stops_at called failed text (error.Serialize why) same comes = absurd comes
stops_at called failed text (error.Deserialize pos e) same comes = absurd comes
stops_at called failed text error.OutOfMemory same comes = refl

-- what a reader that gives each record says of the error of its read, and of what it is called
module _ {R : Type 0} (rem : R → Option (List ℕ)) (old new : Reader R) (gives : GivesAll old) (why kind : ErrorKind) (explained : reader_trim old ≡ trim.None
    → Ready old → ExplainsRead rem old new true why) (same : kind ≡ why) where
  pub came : MayCome kind
  came = subst MayCome (sym same) (may_come rem old new why gives (explained gives.1 gives.2))

  pub explains_as : (number : ℕ) (told : TableFaultKind) → told ≡ fault_of kind
      → OfRows told (Unit {0}) (OfLeft (rows_left rem old) (λ rows. StartsBadly number rows (record { row = number; kind = told })))
  explains_as number told is = rw (is ∙ ap fault_of same) (explains rem old new number why gives (explained gives.1 gives.2))

  pub has_stopped : {F : Type 0} (called : ErrorKind → F) (failed told : F) → ((pos : _) (e : _) → called (error.Utf8 pos e) ≡ failed → ⊥)
      → has_failed new ≡ stops_reader why → told ≡ called kind → told ≡ failed → has_failed new ≡ true
  has_stopped called failed told text fails is ends = fails ∙ stops_at called failed text why (sym (is ∙ ap called same) ∙ ends)
      (may_come rem old new why gives (explained gives.1 gives.2))
