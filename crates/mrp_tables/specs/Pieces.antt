-- Reading a table in pieces, each cut behind a line feed: what is read of a piece alone is read of it within the text.
use Rattle.std.specs.Prelude.{◌≡◌, ℕ, ◌+◌, ◌==◌, All, Bool, true, false, List, [], ◌∷◌, ◌++◌, drop, Option, Some, None, option_map, Result, Ok, Err}
use Rattle.std.specs.List.{list_any}
use Rattle.std.specs.Io.KnownBytes.{Keeps}
use Rattle.csv.specs.Reading.{default_config, records, strip_bom}
use Rattle.mrp_master_data.specs.Table.{Table}
use Rattle.mrp_validation.specs.Left.{HasReadOn, IsSoundTo, OfLeft, ReadsOn, TakesRow}
use Rattle.mrp_validation.specs.Reading.{OfRows, rows_after, Starts, TellsRows}
use Rattle.mrp_validation.specs.declared.fault.TableFault.{TableFault}
use Rattle.mrp_validation.specs.declared.kind.Kind.{Kind}
use Rattle.mrp_validation.specs.declared.kind.Kind.TheVariants as kind
use Rattle.mrp_tables.specs.declared.bulk.BulkRow.{BulkRow}
use Rattle.mrp_tables.specs.declared.draft.Draft.{Draft}
use Rattle.mrp_tables.specs.declared.pieces.Piece.{Piece}
use Rattle.mrp_tables.specs.Bulk.{IsBulk, KeepsNames, SayAll, Says}
use Rattle.mrp_tables.specs.Drafts.{draft_state}
use Rattle.mrp_qty.specs.declared.limits.LimitSet.{LimitSet}

-- ---- a piece

abbrev pub is_quote : ℕ → Bool
is_quote c = c == 34

-- whether a text is empty or ends with a line feed, where `before` says that it begins behind one
unfoldable pub closes : Bool → List ℕ → Bool
closes before [] = before
closes before (c ∷ cs) = closes (c == 10) cs

-- a text that is read apart from what stands behind it: it has no quote, and no byte order mark at its front
pub record IsPlain (text : List ℕ) : Type 0 where
  pub quotes : list_any is_quote text ≡ false
  pub closed : closes true text ≡ true
  pub mark : (more : List ℕ) → strip_bom (text ++ more) ≡ text ++ more

abbrev pub rows_in : List ℕ → List (List (List ℕ))
rows_in text = records default_config text

-- each row of the piece is a bill, a demand, a receipt or a shipment of the table, and says what was noted
pub record IsGood (N : Table) (p : Piece) : Type 0 where
  pub plain : IsPlain p.text.items
  pub says : SayAll N (rows_in p.text.items) p.said.items

-- so of a table that has taken others since
pub record IsSaid (M : Table) (rows : List (List (List ℕ))) (said : List BulkRow) : Type 0 where
  pub of : Table
  pub kept : KeepsNames of M
  pub says : SayAll of rows said

-- what reading a row of a piece answers
abbrev pub TellsSaid : {E : Type 0} → Table → Option (List (List (List ℕ))) → Option (List (List (List ℕ))) → Result (Option BulkRow) E → Type 0
TellsSaid N before after (Ok (Some b)) = (row : List (List ℕ)) × TakesRow before after row × Says N row b × IsBulk N b
TellsSaid N before after (Ok None) = OfLeft before (λ rows. rows ≡ [])
TellsSaid N before after (Err e) = Unit {0}

-- the rows that were read say what was noted
abbrev pub HaveSaid : Table → Option (List (List (List ℕ))) → Option (List (List (List ℕ))) → List BulkRow → Type 0
HaveSaid N None after said = Unit {0}
HaveSaid N (Some all) None said = ⊥
HaveSaid N (Some all) (Some rest) said = (read : List (List (List ℕ))) × (all ≡ read ++ rest) × SayAll N read said

-- the pieces that are called good are
abbrev pub AreGood : Table → List Piece → Type 0
AreGood N pieces = All (λ p. p.is_good ≡ true → IsGood N p) pieces

-- the text of pieces, one behind the other
abbrev pub texts_of : List Piece → List ℕ
texts_of [] = []
texts_of (p ∷ pieces) = p.text.items ++ texts_of pieces

-- ---- the text

-- the rows of bytes that are known
abbrev pub rows_of_bytes : Option (List ℕ) → Option (List (List (List ℕ)))
rows_of_bytes known = option_map rows_in known

-- no row, where the rows before are known
abbrev pub none_left_of : Option (List (List (List ℕ))) → Option (List (List (List ℕ)))
none_left_of before = option_map (λ rows. []) before

-- what a step answers that takes rows off those left: the table with them, or their first fault
abbrev pub TellsRead : {A : Type 0} → Option (List (List (List ℕ))) → Option (List (List (List ℕ))) → Draft → Draft
    → Result A TableFault → Type 0
TellsRead before after old new (Ok x) = ReadsOn before after (old.rows + 1) (draft_state old) (new.rows + 1) (draft_state new)
TellsRead before after old new (Err e) = OfRows e.kind (OfLeft before (IsSoundTo (old.rows + 1) (draft_state old) e.row))
    (OfLeft before (λ rows. rows_after (old.rows + 1) (draft_state old) rows ≡ Err e))

-- so of these rows, whatever stands behind them
abbrev pub TellsThem : {A : Type 0} → List (List (List ℕ)) → Draft → Draft → Result A TableFault → Type 0
TellsThem rows old new result = (more : List (List (List ℕ))) → TellsRead (Some (rows ++ more)) (Some more) old new result

-- what taking pieces answers, whatever bytes stand behind them: how many were taken
abbrev pub TellsPieces : List Piece → Draft → Draft → Result ℕ TableFault → Type 0
TellsPieces pieces old new (Ok taken) = (tail : List ℕ) → TellsRead {A = ℕ} (Some (rows_in (texts_of pieces ++ tail)))
    (Some (rows_in (texts_of (drop taken pieces) ++ tail))) old new (Ok taken)
TellsPieces pieces old new (Err e) = (tail : List ℕ) → TellsRead {A = ℕ} (Some (rows_in (texts_of pieces ++ tail))) None old new (Err e)

-- ---- the first rows

-- the first of the rows starts a table, and those behind it were read up to the rest
pub record HasBegun (limits : LimitSet) (rows rest : List (List (List ℕ))) (d : Draft) : Type 0 where
  pub row : List (List ℕ)
  pub later : List (List (List ℕ))
  pub made : Table
  pub last : Kind
  pub rows_are : rows ≡ row ∷ later
  pub starts : Starts limits row (Ok made) × (last ≡ kind.Run)
  pub goes : HasReadOn later rest 2 (made, last) (d.rows + 1) (draft_state d)

abbrev pub BeginsWith : LimitSet → Option (List (List (List ℕ))) → Option (List (List (List ℕ))) → Draft → Type 0
BeginsWith limits None after d = Unit {0}
BeginsWith limits (Some rows) None d = ⊥
BeginsWith limits (Some rows) (Some rest) d = HasBegun limits rows rest d

-- what reading the first rows answers, whatever rows stand behind them: a table, nothing where there is no row, or a fault
abbrev pub TellsBegun : LimitSet → List (List (List ℕ)) → Result (Option Draft) TableFault → Type 0
TellsBegun limits rows (Ok None) = Unit {0}
TellsBegun limits rows (Ok (Some d)) = (more : List (List (List ℕ))) → HasBegun limits (rows ++ more) more d
TellsBegun limits rows (Err e) = (more : List (List (List ℕ))) → TellsRows limits (Err e) (rows ++ more)

-- so of the bytes left before it and behind it
abbrev pub TellsBeginning : LimitSet → Option (List ℕ) → Option (List ℕ) → Result (Option Draft) TableFault → Type 0
TellsBeginning limits before after (Ok None) = Keeps before after
TellsBeginning limits before after (Ok (Some d)) =
    BeginsWith limits (rows_of_bytes (option_map strip_bom before)) (rows_of_bytes after) d
TellsBeginning limits before after (Err e) =
    OfLeft (rows_of_bytes (option_map strip_bom before)) (TellsRows limits (Err e))
