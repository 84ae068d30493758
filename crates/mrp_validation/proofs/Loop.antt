-- Validation row by row: the rows after the first, read one after the other.
use Rattle.std.proofs.Common.{◌≡◌, ℕ, ◌+◌, Bool, true, false, List, [], ◌∷◌, Option, Some, None, Result, Ok, Err, length, refl, sym, ap, ◌∙◌, ◌++◌}
use Rattle.std.proofs.Common.{append_assoc, length-append, arith}
use Rattle.std.proofs.lemmas.List.{append-nil}
use Rattle.std.specs.List.{list_all}
use Rattle.std.specs.Str.{is_utf8}
use Rattle.mrp_validation.specs.Grammar.{TellsFault}
use Rattle.mrp_validation.specs.declared.fault.TableFault.{TableFault}
use Rattle.mrp_validation.specs.declared.fault.TableFaultKind.{TableFaultKind}
use Rattle.mrp_validation.specs.declared.fault.TableFaultKind.TheVariants as fault
use Rattle.mrp_validation.specs.declared.kind.Kind.{Kind}
use Rattle.mrp_master_data.specs.Table.{Table}
use Rattle.mrp_validation.specs.Left.{ReadsOn, HasReadOn, IsSoundTo, OfLeft, StartsBadly, TakesRow, TellsNext, TellsTaken}
use Rattle.mrp_validation.specs.Reading.{kind_of_row, OfRows, row_after, rows_after, UnlessMemory}

-- what follows from what is said, of the rows above or of all
pub of_rows_from : (k : TableFaultKind) (A B P Q : Type 0) → (A → B) → (P → Q) → OfRows k A P → OfRows k B Q
of_rows_from fault.ReadFault A B P Q f g says = f says
of_rows_from fault.Memory A B P Q f g says = f says
of_rows_from e A B P Q f g says = g says

pub of_left_from : (left : Option (List (List (List ℕ)))) (P Q : List (List (List ℕ)) → Type 0) → ((rows : List (List (List ℕ))) → P rows → Q rows)
    → OfLeft left P → OfLeft left Q
of_left_from None P Q f says = tt
of_left_from (Some rows) P Q f says = f rows says

-- what follows from a row's fault
of_told : {B : Type 0} (k : TableFaultKind) (read : Result B TableFaultKind) (A Q : Type 0) → A → TellsFault read k → (read ≡ Err k → Q) → OfRows k A Q
of_told fault.ReadFault read A Q above says f = above
of_told fault.Memory read A Q above says f = above
of_told e read A Q above says f = f says

pub of_unless : (k : TableFaultKind) (A P Q : Type 0) → A → (P → Q) → UnlessMemory k P → OfRows k A Q
of_unless fault.ReadFault A P Q above f says = above
of_unless fault.Memory A P Q above f says = above
of_unless e A P Q above f says = f says

-- a row whose fields aren't all text
pub kind_no_text : (row : List (List ℕ)) → list_all is_utf8 row ≡ false → kind_of_row row ≡ Err fault.NotUtf8
unfolding kind_of_row
kind_no_text row bad = rw bad refl

row_no_text : (s : Table × Kind) (row : List (List ℕ)) → list_all is_utf8 row ≡ false → row_after s row ≡ Err fault.NotUtf8
unfolding row_after
row_no_text s row bad = rw (kind_no_text row bad) refl

-- one row of the rows
row_goes : (number : ℕ) (s t : Table × Kind) (row : List (List ℕ)) (more : List (List (List ℕ))) → row_after s row ≡ Ok t
    → rows_after number s (row ∷ more) ≡ rows_after (number + 1) t more
unfolding rows_after
row_goes number s t row more e = rw e refl

rows_stop : (number : ℕ) (s : Table × Kind) (k : TableFaultKind) (row : List (List ℕ)) (rest rows : List (List (List ℕ))) → row_after s row ≡ Err k
    → rows ≡ row ∷ rest
    → rows_after number s rows ≡ Err (record { row = number; kind = k })
unfolding rows_after
rows_stop number s k row rest rows e same = rw (same, e) refl

rows_end : (number : ℕ) (s : Table × Kind) (rows : List (List (List ℕ))) → rows ≡ [] → rows_after number s rows ≡ Ok s.0
unfolding rows_after
rows_end number s rows same = rw same refl

-- a good row
pub goes_row : (before after : Option (List (List (List ℕ)))) (number : ℕ) (s t : Table × Kind) (row : List (List ℕ)) → TakesRow before after row
    → row_after s row ≡ Ok t
    → ReadsOn before after number s (number + 1) t
goes_row None after number s t row takes e = tt
goes_row (Some rows) None number s t row takes e = absurd takes
goes_row (Some rows) (Some rest) number s t row takes e = record {
  read = row ∷ [];
  rows_are = takes;
  next_is = refl;
  goes =
      λ more. row_goes number s t row more e;
}

-- a row with a fault
row_stops : (before after : Option (List (List (List ℕ)))) (number : ℕ) (s : Table × Kind) (k : TableFaultKind) (row : List (List ℕ))
    → TakesRow before after row → row_after s row ≡ Err k
    → OfLeft before (λ rows. rows_after number s rows ≡ Err (record { row = number; kind = k }))
row_stops None after number s k row takes e = tt
row_stops (Some rows) None number s k row takes e = absurd takes
row_stops (Some rows) (Some rest) number s k row takes e = rows_stop number s k row rest rows e takes

pub stops_row : (before after : Option (List (List (List ℕ)))) (number : ℕ) (s : Table × Kind) (k : TableFaultKind) (row : List (List ℕ))
    → TakesRow before after row
    → TellsFault (row_after s row) k → OfRows k (Unit {0}) (OfLeft before (λ rows. rows_after number s rows ≡ Err (record { row = number; kind = k })))
stops_row before after number s k row takes tells =
    of_told k (row_after s row) (Unit {0}) (OfLeft before (λ rows. rows_after number s rows ≡ Err (record { row = number; kind = k }))) tt tells
    (row_stops before after number s k row takes)

-- no row more
pub ends_there : (before : Option (List (List (List ℕ)))) (number : ℕ) (s : Table × Kind) → OfLeft before (λ rows. rows ≡ [])
    → OfLeft before (λ rows. rows_after number s rows ≡ Ok s.0)
ends_there before number s = of_left_from before (λ rows. rows ≡ []) (λ rows. rows_after number s rows ≡ Ok s.0) (rows_end number s)

-- a row that isn't text
bad_stops : (number : ℕ) (s : Table × Kind) (e : TableFault) (rows : List (List (List ℕ))) → StartsBadly number rows e → rows_after number s rows ≡ Err e
bad_stops number s e rows bad =
    rows_stop number s fault.NotUtf8 bad.row bad.rest rows (row_no_text s bad.row bad.no_text) bad.rows_are ∙ ap (λ (f : TableFault). Err f) (sym bad.fault_is)

pub bad_there : (before : Option (List (List (List ℕ)))) (number : ℕ) (s : Table × Kind) (e : TableFault)
    → OfRows e.kind (Unit {0}) (OfLeft before (λ rows. StartsBadly number rows e))
    → OfRows e.kind (Unit {0}) (OfLeft before (λ rows. rows_after number s rows ≡ Err e))
bad_there before number s e =
    of_rows_from e.kind (Unit {0}) (Unit {0}) (OfLeft before (λ rows. StartsBadly number rows e)) (OfLeft before (λ rows. rows_after number s rows ≡ Err e))
    (λ above. above)
    (of_left_from before (λ rows. StartsBadly number rows e) (λ rows. rows_after number s rows ≡ Err e) (bad_stops number s e))

-- ---- the loop

pub goes_nowhere : (left : Option (List (List (List ℕ)))) (number : ℕ) (s : Table × Kind) → ReadsOn left left number s number s
goes_nowhere None number s = tt
goes_nowhere (Some rows) number s = record { read = []; rows_are = refl; next_is = omega arith; goes = λ more. refl }

pub goes_on_on : (a b c : Option (List (List (List ℕ)))) (n m k : ℕ) (s t u : Table × Kind) → ReadsOn a b n s m t → ReadsOn b c m t k u → ReadsOn a c n s k u
goes_on_on None b c n m k s t u f g = tt
goes_on_on (Some xs) None c n m k s t u f g = absurd f
goes_on_on (Some xs) (Some ys) None n m k s t u f g = absurd g
goes_on_on (Some xs) (Some ys) (Some zs) n m k s t u f g = record {
  read = f.read ++ g.read;
  rows_are = f.rows_are ∙ ap (λ (l : List (List (List ℕ))). f.read ++ l) g.rows_are ∙ sym (append_assoc f.read g.read zs);
  next_is = omega (arith, f.next_is, g.next_is, length-append f.read g.read);
  goes = λ more. ap (rows_after n s) (append_assoc f.read g.read more) ∙ f.goes (g.read ++ more) ∙ g.goes more;
}

pub goes_to : (a b : Option (List (List (List ℕ)))) (n m : ℕ) (s t : Table × Kind) (answer : Result Table TableFault) → ReadsOn a b n s m t
    → OfLeft b (λ rows. rows_after m t rows ≡ answer) → OfLeft a (λ rows. rows_after n s rows ≡ answer)
goes_to None b n m s t answer f says = tt
goes_to (Some xs) None n m s t answer f says = absurd f
goes_to (Some xs) (Some ys) n m s t answer f says = ap (rows_after n s) f.rows_are ∙ f.goes ys ∙ says

-- no row is left, so as many were read as there were
pub read_all : (a b : Option (List (List (List ℕ)))) (n m : ℕ) (s t : Table × Kind) (old mid new : ℕ) → ReadsOn a b n s m t → OfLeft b (λ rows. rows ≡ [])
    → mid + n ≡ old + m → new ≡ mid + 1
    → OfLeft a (λ rows. new ≡ old + length rows + 1)
read_all None b n m s t old mid new f none steps last = tt
read_all (Some xs) None n m s t old mid new f none steps last = absurd f
read_all (Some xs) (Some ys) n m s t old mid new f none steps last =
    omega (arith, ap length f.rows_are, length-append f.read ys, ap length none, f.next_is, steps, last)

-- the rows that were read hold no fault
read_sound : (n m : ℕ) (s t : Table × Kind) (xs ys : List (List (List ℕ))) (f : HasReadOn xs ys n s m t) → rows_after n s f.read ≡ Ok t.0
unfolding rows_after
read_sound n m s t xs ys f = ap (rows_after n s) (sym (append-nil f.read)) ∙ f.goes []

sound_to : (a b : Option (List (List (List ℕ)))) (n m : ℕ) (s t : Table × Kind) (other : ℕ) → other ≡ m → ReadsOn a b n s m t → OfLeft a (IsSoundTo n s other)
sound_to None b n m s t other same f = tt
sound_to (Some xs) None n m s t other same f = absurd f
sound_to (Some xs) (Some ys) n m s t other same f =
    record { above = f.read; rest = ys; made = t.0; rows_are = f.rows_are; other_is = same ∙ f.next_is; no_fault = read_sound n m s t xs ys f }

pub goes_to_fault : (a b : Option (List (List (List ℕ)))) (n m : ℕ) (s t : Table × Kind) (e : TableFault) → e.row ≡ m → ReadsOn a b n s m t
    → OfRows e.kind (Unit {0}) (OfLeft b (λ rows. rows_after m t rows ≡ Err e))
    → OfRows e.kind (OfLeft a (IsSoundTo n s e.row)) (OfLeft a (λ rows. rows_after n s rows ≡ Err e))
goes_to_fault a b n m s t e same f =
    of_rows_from e.kind (Unit {0}) (OfLeft a (IsSoundTo n s e.row)) (OfLeft b (λ rows. rows_after m t rows ≡ Err e))
    (OfLeft a (λ rows. rows_after n s rows ≡ Err e))
    (λ above. sound_to a b n m s t e.row same f) (goes_to a b n m s t (Err e) f)

-- ---- what the steps answer

pub none_there : (found : Bool) (before after : Option (List (List (List ℕ)))) (number : ℕ) (row : List (List ℕ)) → found ≡ false
    → TellsTaken before after number row (Ok found)
    → OfLeft before (λ rows. rows ≡ [])
none_there true before after number row e taken = absurd (cc)
none_there false before after number row e taken = taken

pub some_there : (found : Bool) (before after : Option (List (List (List ℕ)))) (number : ℕ) (row : List (List ℕ)) → found ≡ true
    → TellsTaken before after number row (Ok found)
    → TakesRow before after row
some_there true before after number row e taken = taken
some_there false before after number row e taken = absurd (cc)

-- one turn of the loop
pub next_true : (found : Bool) (a b c : Option (List (List (List ℕ)))) (n m : ℕ) (s t u : Table × Kind) → found ≡ true → ReadsOn a b n s m t
    → TellsNext b c m t u (Ok found) → ReadsOn a c n s (m + 1) u
next_true true a b c n m s t u e goes next = goes_on_on a b c n m (m + 1) s t u goes next
next_true false a b c n m s t u e goes next = absurd (cc)

pub next_false : (found : Bool) (a b c : Option (List (List (List ℕ)))) (n m : ℕ) (s t u : Table × Kind) → found ≡ false → ReadsOn a b n s m t
    → TellsNext b c m t u (Ok found)
    → OfLeft a (λ rows. rows_after n s rows ≡ Ok u.0)
next_false true a b c n m s t u e goes next = absurd (cc)
next_false false a b c n m s t u e goes next = goes_to a b n m s t (Ok u.0) goes next
