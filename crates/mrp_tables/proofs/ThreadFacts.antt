-- Reading a table by threads: one that was begun, and read on by blocks.
use Rattle.std.proofs.Common.{◌≡◌, ℕ, ◌+◌, List, [], ◌∷◌, ◌++◌, Option, Some, None, option_map, Result, Ok, Err, IfErr, IfOk, MatchResult, OnOk, refl}
use Rattle.std.proofs.Common.{ap, sym, ◌∙◌, subst, arith}
use Rattle.std.specs.Io.KnownBytes.{Consumes, Keeps, prepend_known}
use Rattle.csv.specs.Reading.{strip_bom}
use Rattle.mrp_commands.specs.declared.reading.Reading.{Reading}
use Rattle.mrp_master_data.specs.Table.{Table}
use Rattle.mrp_validation.specs.Left.{HasReadOn, IsSoundTo, OfLeft, ReadsOn, StartsBadly, TakesRow}
use Rattle.mrp_validation.specs.Reading.{go_on, OfRows, rows_after, Starts, TellsRows, TellsRowsAs, uncut, UnlessMemory, waiting}
use Rattle.mrp_validation.specs.Written.{OfRecords}
use Rattle.mrp_validation.specs.declared.fault.TableFault.{TableFault}
use Rattle.mrp_validation.specs.declared.fault.TableFaultKind.TheVariants as fault
use Rattle.mrp_validation.specs.declared.kind.Kind.{Kind}
use Rattle.mrp_validation.specs.declared.kind.Kind.TheVariants as kind
use Rattle.mrp_validation.proofs.Loop.{goes_on_on, of_rows_from}
use Rattle.mrp_validation.proofs.Whole.{bad_first, first_fault, rest_fault}
use Rattle.mrp_tables.specs.declared.draft.Draft.{Draft}
use Rattle.mrp_tables.specs.Drafts.{draft_state}
use Rattle.mrp_tables.specs.Pieces.{BeginsWith, HasBegun, IsPlain, none_left_of, rows_in, rows_of_bytes, TellsBeginning, TellsBegun, TellsRead}
use Rattle.mrp_tables.proofs.Asked.{left_as, whole_as}
use Rattle.mrp_tables.proofs.SourceFacts.{given_none}
use Rattle.mrp_tables.proofs.BlockFacts.{apart_rows, fault_then, fault_then_more, Faulty, goes_then_more}
use Rattle.mrp_qty.specs.declared.limits.LimitSet.{LimitSet}

abbrev Rows : Type 0
Rows = List (List (List ℕ))

pub of_bytes : (text : Option (List ℕ)) (says : Rows → Type 0) → OfLeft (rows_of_bytes text) says → OfRecords text says
of_bytes None says h = tt
of_bytes (Some xs) says h = h

-- ---- the first rows

bad_more : (rows more : Rows) (e : TableFault) → StartsBadly 1 rows e → StartsBadly 1 (rows ++ more) e
bad_more rows more e bad = record {
  row = bad.row;
  rest = bad.rest ++ more;
  rows_are = ap (λ (l : Rows). l ++ more) bad.rows_are;
  no_text = bad.no_text;
  fault_is = bad.fault_is;
}

-- a first row that isn't text
pub begun_bad : (limits : LimitSet) (left : Option Rows) (e : TableFault) → e.row ≡ 1 → OfRows e.kind (Unit {0}) (OfLeft left (λ rows. StartsBadly 1 rows e))
    → OfLeft left (λ rows. TellsBegun limits rows (Err e))
begun_bad limits None e one bad = tt
begun_bad limits (Some rows) e one bad = λ more. bad_first limits (Some (rows ++ more)) e one
    (of_rows_from e.kind (Unit {0}) (Unit {0}) (StartsBadly 1 rows e) (StartsBadly 1 (rows ++ more) e) (λ u. u) (bad_more rows more e) bad)

takes_more : (rows rest more : Rows) (row : List (List ℕ)) → rows ≡ row ∷ rest → rows ++ more ≡ row ∷ (rest ++ more)
takes_more rows rest more row takes = ap (λ (l : Rows). l ++ more) takes

-- a first row with a fault
pub begun_fault : (limits : LimitSet) (left after : Option Rows) (row : List (List ℕ)) (e : TableFault) → TakesRow left after row
    → UnlessMemory e.kind (Starts limits row (Err e.kind)) × (e.row ≡ 1) → OfLeft left (λ rows. TellsBegun limits rows (Err e))
begun_fault limits None after row e takes tells = tt
begun_fault limits (Some rows) None row e takes tells = absurd takes
begun_fault limits (Some rows) (Some rest) row e takes tells = λ more.
    first_fault limits (Some (rows ++ more)) (Some (rest ++ more)) row e (takes_more rows rest more row takes) tells

-- the first row starts a table, and those behind it
module _ (limits : LimitSet) (row : List (List ℕ)) (made d : Draft) (starts : Starts limits row (Ok made.lists) × (made.last ≡ kind.Run)) (one : made.rows ≡ 1)
  where
    second : made.rows + 1 ≡ 2
    second = omega (arith, one)

    pub begun_rest_fault : (left after : Option Rows) (e : TableFault) → TakesRow left after row → Faulty after made e
        → OfLeft left (λ rows. TellsBegun limits rows (Err e))
    begun_rest_fault None after e takes bad = tt
    begun_rest_fault (Some rows) None e takes bad = absurd takes
    begun_rest_fault (Some rows) (Some rest) e takes bad = λ more.
        rest_fault limits (Some (rows ++ more)) (Some (rest ++ more)) row made.lists made.last e (takes_more rows rest more row takes) starts
        (subst (λ (n : ℕ). OfRows e.kind (IsSoundTo n (draft_state made) e.row (rest ++ more)) (rows_after n (draft_state made) (rest ++ more) ≡ Err e)) second
        (fault_then_more (made.rows + 1) (draft_state made) rest more e bad))

    pub begun_rest : (left after : Option Rows) → TakesRow left after row
        → ReadsOn after (none_left_of after) (made.rows + 1) (draft_state made) (d.rows + 1) (draft_state d)
        → OfLeft left (λ rows. TellsBegun limits rows (Ok (Some d)))
    begun_rest None after takes goes = tt
    begun_rest (Some rows) None takes goes = absurd takes
    begun_rest (Some rows) (Some rest) takes goes = λ more. record {
      row = row;
      later = rest ++ more;
      made = made.lists;
      last = made.last;
      rows_are = takes_more rows rest more row takes;
      starts = starts;
      goes =
          subst (λ (n : ℕ). HasReadOn (rest ++ more) more n (draft_state made) (d.rows + 1) (draft_state d)) second
          (goes_then_more rest more (made.rows + 1) (d.rows + 1) (draft_state made) (draft_state d) goes);
    }

pub begun_none : (limits : LimitSet) (left : Option Rows) → OfLeft left (λ rows. TellsBegun limits rows (Ok None))
begun_none limits None = tt
begun_none limits (Some rows) = tt

-- of the rows of a plain text
pub begun_of : (limits : LimitSet) (left : Option Rows) (text : List ℕ) (r : Result (Option Draft) TableFault) → left ≡ Some (rows_in text)
    → OfLeft left (λ rows. TellsBegun limits rows r) → TellsBegun limits (rows_in text) r
begun_of limits left text r is tells = subst (λ (l : Option Rows). OfLeft l (λ rows. TellsBegun limits rows r)) is tells

-- ---- the first block

first_apart : (xs ys text : List ℕ) → xs ≡ text ++ ys → IsPlain text → rows_in text ++ rows_in ys ≡ rows_in (strip_bom xs)
first_apart xs ys text taken plain =
    sym (apart_rows text ys plain) ∙ ap rows_in (sym (plain.mark ys)) ∙ ap (λ (t : List ℕ). rows_in (strip_bom t)) (sym taken)

pub beginning : (limits : LimitSet) (before after : Option (List ℕ)) (text : List ℕ) (d : Draft) → Consumes before after text → IsPlain text
    → TellsBegun limits (rows_in text) (Ok (Some d)) → TellsBeginning limits before after (Ok (Some d))
beginning limits None after text d taken plain tells = tt
beginning limits (Some xs) None text d taken plain tells = absurd taken
beginning limits (Some xs) (Some ys) text d taken plain tells =
    subst (λ (rows : Rows). HasBegun limits rows (rows_in ys) d) (first_apart xs ys text taken plain) (tells (rows_in ys))

pub beginning_fault : (limits : LimitSet) (before after : Option (List ℕ)) (text : List ℕ) (e : TableFault) → Consumes before after text → IsPlain text
    → TellsBegun limits (rows_in text) (Err e) → TellsBeginning limits before after (Err e)
beginning_fault limits None after text e taken plain tells = tt
beginning_fault limits (Some xs) None text e taken plain tells = absurd taken
beginning_fault limits (Some xs) (Some ys) text e taken plain tells =
    subst (λ (rows : Rows). TellsRows limits (Err e) rows) (first_apart xs ys text taken plain) (tells (rows_in ys))

sound_first : (limits : LimitSet) (left : Option Rows) → OfLeft left (TellsRows limits (Err (record { row = 1; kind = fault.Memory })))
sound_first limits None = tt
sound_first limits (Some rows) = record { above = []; rest = rows; rows_are = refl; number_is = omega arith; no_fault = tt }

pub beginning_refused : (limits : LimitSet) (before after : Option (List ℕ)) (e : TableFault) → e ≡ record { row = 1; kind = fault.Memory }
    → TellsBeginning limits before after (Err e)
beginning_refused limits before after e is =
    subst (λ (f : TableFault). OfLeft (rows_of_bytes (option_map strip_bom before)) (TellsRows limits (Err f))) (sym is)
    (sound_first limits (rows_of_bytes (option_map strip_bom before)))

-- what was taken of the bytes left was read in front of the others
pub begun_front : (limits : LimitSet) (before mid after : Option (List ℕ)) (text : List ℕ) (r : Result (Option Draft) TableFault) → Consumes before mid text
    → TellsBeginning limits (prepend_known text mid) after r → TellsBeginning limits before after r
begun_front limits None mid after text (Ok None) taken tells = tt
begun_front limits None mid after text (Ok (Some d)) taken tells = tt
begun_front limits None mid after text (Err e) taken tells = tt
begun_front limits (Some xs) None after text r taken tells = absurd taken
begun_front limits (Some xs) (Some ys) after text r taken tells = subst (λ (t : List ℕ). TellsBeginning limits (Some t) after r) (sym taken) tells

pub beginning_none : (limits : LimitSet) (before mid after : Option (List ℕ)) (text : List ℕ) (r : Result (Option Draft) TableFault) → Consumes before mid text
    → OnOk r (after ≡ prepend_known text mid) → IfOk r (λ begun. begun ≡ None) → IfErr r (λ e. e ≡ record { row = 1; kind = fault.Memory })
    → TellsBeginning limits before after r
beginning_none limits before mid after text (Ok (Some d)) taken given none refused = absurd (cc)
beginning_none limits before mid after text (Ok None) taken given none refused = given_none before mid after text taken given
beginning_none limits before mid after text (Err e) taken given none refused = beginning_refused limits before after e refused

-- what is said of bytes that were given back, is said of them as they were
pub kept_records : (before after : Option (List ℕ)) (says : Rows → Type 0) → Keeps before after → OfRecords (option_map strip_bom after) says
    → OfRecords (option_map strip_bom before) says
kept_records None after says kept h = tt
kept_records (Some xs) None says kept h = absurd kept
kept_records (Some xs) (Some ys) says kept h = subst (λ (t : List ℕ). OfRecords (Some (strip_bom t)) says) kept h

-- ---- the rows behind

read_whole : (later : Rows) (n m : ℕ) (s t : Table × Kind) → HasReadOn later [] n s m t → rows_after n s later ≡ Ok t.0
unfolding rows_after
read_whole later n m s t goes = ap (rows_after n s) goes.rows_are ∙ goes.goes []

finished : (reading : Reading) (rows rest : Rows) (old new : Draft) (answer : Result (Unit {0}) TableFault) (r : Result Table TableFault)
    → HasBegun reading.limits rows rest old
    → TellsRead (Some rest) (Some []) old new answer
    → MatchResult answer (λ u. r ≡ go_on (waiting new.lists) (uncut reading)) (λ e. r ≡ Err e) → TellsRowsAs reading r rows
finished reading rows rest old new (Ok u) r begun tells same =
    let all = goes_on_on (Some begun.later) (Some rest) (Some []) 2 (old.rows + 1) (new.rows + 1) (begun.made, begun.last) (draft_state old) (draft_state new)
    begun.goes tells in
    whole_as reading (Some rows) (Some begun.later) begun.row begun.made begun.last new.lists r begun.rows_are begun.starts
    (read_whole begun.later 2 (new.rows + 1) (begun.made, begun.last) (draft_state new) all) same
finished reading rows rest old new (Err e) r begun tells same =
    subst (λ (s : Result Table TableFault). TellsRowsAs reading s rows) (sym same)
    (left_as reading (Some rows) e
    (rest_fault reading.limits (Some rows) (Some begun.later) begun.row begun.made begun.last e begun.rows_are begun.starts
    (fault_then (Some begun.later) (Some rest) 2 (old.rows + 1) (begun.made, begun.last) (draft_state old) e begun.goes tells)))

pub finished_all : (reading : Reading) (rows left : Option Rows) (old new : Draft) (answer : Result (Unit {0}) TableFault) (r : Result Table TableFault)
    → BeginsWith reading.limits rows left old → TellsRead left (none_left_of left) old new answer
    → MatchResult answer (λ u. r ≡ go_on (waiting new.lists) (uncut reading)) (λ e. r ≡ Err e) → OfLeft rows (TellsRowsAs reading r)
finished_all reading None left old new answer r begun tells same = tt
finished_all reading (Some rows) None old new answer r begun tells same = absurd begun
finished_all reading (Some rows) (Some rest) old new answer r begun tells same = finished reading rows rest old new answer r begun tells same
