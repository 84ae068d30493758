-- Validation while rows are read: those that a reader has left, and what the steps of the reading answer of them.
use Rattle.std.specs.Prelude.{◌≡◌, ℕ, ◌+◌, Bool, true, false, List, [], ◌∷◌, ◌++◌, length, Option, Some, None}
use Rattle.std.specs.Prelude.{option_map, Result, Ok, Err}
use Rattle.std.specs.List.{list_all}
use Rattle.std.specs.Str.{is_utf8}
use Rattle.csv.specs.Reading.{default_config, is_flexible, reader_config, reader_state, reader_trim, records_from}
use Rattle.csv.specs.Reading.{Ready, source_of}
use Rattle.csv.specs.declared.error.ErrorKind.{ErrorKind}
use Rattle.csv.specs.declared.error.ErrorKind.TheVariants as error
use Rattle.csv.specs.declared.parser.State.{State}
use Rattle.csv.specs.declared.reader.Reader.{Reader}
use Rattle.csv.specs.declared.reader.Trim.TheVariants as trim
use Rattle.mrp_validation.specs.declared.fault.TableFault.{TableFault}
use Rattle.mrp_validation.specs.declared.fault.TableFaultKind.{TableFaultKind}
use Rattle.mrp_validation.specs.declared.fault.TableFaultKind.TheVariants as fault
use Rattle.mrp_validation.specs.declared.kind.Kind.{Kind}
use Rattle.mrp_master_data.specs.Table.{Table}
use Rattle.mrp_validation.specs.Reading.{OfRows, rows_after}

-- the records of a text from a state on
abbrev pub records_in : State → List ℕ → List (List (List ℕ))
records_in s text = records_from default_config (length text + 1) s text

-- the rows that a reader has left, where its bytes are known
abbrev pub rows_left : {R : Type 0} → (R → Option (List ℕ)) → Reader R → Option (List (List (List ℕ)))
rows_left rem s = option_map (records_in (reader_state s)) (source_of rem s)

-- a reader that gives each record of the text as it stands there, however many fields it has
abbrev pub GivesAll : {R : Type 0} → Reader R → Type 0
GivesAll s = (reader_config s ≡ default_config) × (reader_trim s ≡ trim.None) × Ready s × (is_flexible s ≡ true)

-- of the rows left, where they are known
abbrev pub OfLeft : Option (List (List (List ℕ))) → (List (List (List ℕ)) → Type 0) → Type 0
OfLeft None says = Unit {0}
OfLeft (Some rows) says = says rows

-- a row was taken off the rows left
abbrev pub TakesRow : Option (List (List (List ℕ))) → Option (List (List (List ℕ))) → List (List ℕ) → Type 0
TakesRow None after row = Unit {0}
TakesRow (Some rows) None row = ⊥
TakesRow (Some rows) (Some rest) row = rows ≡ row ∷ rest

-- the first of the rows has a field that isn't text
pub record StartsBadly (number : ℕ) (rows : List (List (List ℕ))) (e : TableFault) : Type 0 where
  pub row : List (List ℕ)
  pub rest : List (List (List ℕ))
  pub rows_are : rows ≡ row ∷ rest
  pub no_text : list_all is_utf8 row ≡ false
  pub fault_is : e ≡ record { row = number; kind = fault.NotUtf8 }

-- what reading a row answers
abbrev pub TellsTaken : Option (List (List (List ℕ))) → Option (List (List (List ℕ))) → ℕ → List (List ℕ)
    → Result Bool TableFault → Type 0
TellsTaken before after number row (Ok true) = TakesRow before after row
TellsTaken before after number row (Ok false) = OfLeft before (λ rows. rows ≡ [])
TellsTaken before after number row (Err e) = OfRows e.kind (Unit {0})
    (OfLeft before (λ rows. StartsBadly number rows e))

-- the errors of a reader that gives each record, however many fields it has
abbrev pub MayCome : ErrorKind → Type 0
MayCome (error.Io e) = Unit {0}
MayCome (error.Utf8 pos e) = Unit {0}
MayCome (error.UnequalLengths pos expected len) = ⊥
MayCome (error.Serialize text) = ⊥
MayCome (error.Deserialize pos e) = ⊥
MayCome error.OutOfMemory = Unit {0}

-- what an error of the reading is called; those that can't come have any name
abbrev pub fault_of : ErrorKind → TableFaultKind
fault_of (error.Io e) = fault.ReadFault
fault_of (error.Utf8 pos e) = fault.NotUtf8
fault_of (error.UnequalLengths pos expected len) = fault.FieldCount
fault_of (error.Serialize text) = fault.ReadFault
fault_of (error.Deserialize pos e) = fault.ReadFault
fault_of error.OutOfMemory = fault.Memory

-- ---- the rows after the first

-- rows were read off the rows left: what is left makes, from the later state on, what all of them make
pub record HasReadOn (rows rest : List (List (List ℕ))) (number : ℕ) (s : Table × Kind) (next : ℕ) (t : Table
    × Kind) : Type 0 where
  pub read : List (List (List ℕ))
  pub rows_are : rows ≡ read ++ rest
  pub next_is : next ≡ number + length read
  pub goes : (more : List (List (List ℕ))) → rows_after number s (read ++ more) ≡ rows_after next t more

abbrev pub ReadsOn : Option (List (List (List ℕ))) → Option (List (List (List ℕ))) → ℕ → Table × Kind → ℕ → Table × Kind
    → Type 0
ReadsOn None after number s next t = Unit {0}
ReadsOn (Some rows) None number s next t = ⊥
ReadsOn (Some rows) (Some rest) number s next t = HasReadOn rows rest number s next t

-- of the rows from that number on, those above another row are all there, and hold no fault
pub record IsSoundTo (number : ℕ) (s : Table × Kind) (other : ℕ) (rows : List (List (List ℕ))) : Type 0 where
  pub above : List (List (List ℕ))
  pub rest : List (List (List ℕ))
  pub made : Table
  pub rows_are : rows ≡ above ++ rest
  pub other_is : other ≡ number + length above
  pub no_fault : rows_after number s above ≡ Ok made

-- what reading one row more answers
abbrev pub TellsNext : Option (List (List (List ℕ))) → Option (List (List (List ℕ))) → ℕ → Table × Kind → Table × Kind
    → Result Bool TableFault → Type 0
TellsNext before after number s t (Ok true) = ReadsOn before after number s (number + 1) t
TellsNext before after number s t (Ok false) = OfLeft before (λ rows. rows_after number s rows ≡ Ok t.0)
TellsNext before after number s t (Err e) = OfRows e.kind (Unit {0})
    (OfLeft before (λ rows. rows_after number s rows ≡ Err e))

-- what reading the rest answers
abbrev pub TellsRest : Option (List (List (List ℕ))) → ℕ → Table × Kind → Table × Kind → Result (Unit {0}) TableFault
    → Type 0
TellsRest before number s t (Ok u) = OfLeft before (λ rows. rows_after number s rows ≡ Ok t.0)
TellsRest before number s t (Err e) = OfRows e.kind (OfLeft before (IsSoundTo number s e.row))
    (OfLeft before (λ rows. rows_after number s rows ≡ Err e))
