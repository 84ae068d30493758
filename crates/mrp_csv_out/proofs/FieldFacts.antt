-- CSV output: fields of a row that need no quotes, one by one, and reports below the names of their columns.
use Rattle.std.proofs.Common.{◌≡◌, ◌++◌, ℕ, List, [], ◌∷◌, All, decimal, ap}
use Rattle.std.specs.List.{flat_map}
use Rattle.std.proofs.lemmas.List.Elements.{All-cons, All-nil}
use Rattle.mrp_commands.specs.declared.choice.Heading.{Heading}
use Rattle.mrp_commands.specs.declared.choice.Heading.TheVariants.{Without, Names}
use Rattle.mrp_csv_out.specs.Headings.{header_row}
use Rattle.mrp_csv_out.specs.Rows.{row}
use Rattle.mrp_csv_out.specs.Sheets.{IsPlain, IsReadAs, Sheet, header_sheet}
use Rattle.mrp_csv_out.proofs.PlainFacts.{number_plain}
use Rattle.mrp_csv_out.proofs.ReadBack.{IsRow, sheet_read}

-- plain fields, one by one
pub record ArePlain (fields : List (List ℕ)) : Type 0 where
  pub all : All IsPlain fields

pub more : {field : List ℕ} {rest : List (List ℕ)} → IsPlain field → ArePlain rest → ArePlain (field ∷ rest)
more {field = field} {rest = rest} plain are = record { all = All-cons IsPlain field rest plain are.all }

pub number : (n : ℕ) {rest : List (List ℕ)} → ArePlain rest → ArePlain (decimal n ∷ rest)
number n {rest = rest} are = record { all = All-cons IsPlain (decimal n) rest (number_plain n) are.all }

pub none : ArePlain []
none = record { all = All-nil IsPlain }

-- ---- the names of columns

pub headed_read : (heading : Heading) (names : List (List ℕ)) → IsRow names → (text : List ℕ) (sheet : Sheet) → text ≡ flat_map row sheet → All IsRow sheet
    → IsReadAs (header_row heading names ++ text) (header_sheet heading names ++ sheet)
headed_read Without names is text sheet same rows = sheet_read text sheet same rows
headed_read Names names is text sheet same rows =
    sheet_read (row names ++ text) (names ∷ sheet) (ap (λ t. row names ++ t) same) (All-cons IsRow names sheet is rows)
