-- Records of a lane: its text, as the list of them. The block of each of its items, in some
-- order, and the closing record.
use Rattle.std.specs.Prelude.{◌≡◌, ℕ, ◌+◌, nat_lt, if◌then◌else◌, List, [], ◌∷◌, ◌++◌, length, sum_by, Option, Some}
use Rattle.std.specs.Prelude.{None, IsPermutation}
use Rattle.std.specs.List.{flat_map}
use Rattle.mrp_record.specs.declared.record.Record.{Record}
use Rattle.mrp_record.specs.Entries.{Entry, LineOf, EndOf, ResetOf, Closing, Delivery, number_of, contents}

-- What a lane carries of one item: its opening figure, the period from which its figures start anew, if
-- they do, and its deliveries.
pub record Load : Type 0 where
  pub item : ℕ
  pub opening : ℕ
  pub reset : Option ℕ
  pub lines : List Delivery

abbrev pub total : List Delivery → ℕ
total lines = sum_by (λ line. line.quantity) lines

-- a line for each delivery, each with its running total
abbrev pub running : ℕ → ℕ → List Delivery → List Entry
running item figure [] = []
running item figure (line ∷ lines) =
    LineOf item line.period line.quantity (figure + line.quantity) ∷ running item (figure + line.quantity) lines

-- the deliveries before the first one that isn't before the period, and from that one on
abbrev pub early : ℕ → List Delivery → List Delivery
early from [] = []
early from (line ∷ lines) = if nat_lt line.period from then line ∷ early from lines else []

abbrev pub late : ℕ → List Delivery → List Delivery
late from [] = []
late from (line ∷ lines) = if nat_lt line.period from then late from lines else line ∷ lines

-- the records before the item end: with a reset the figure reached is closed, and counting begins at 0
abbrev pub body : ℕ → ℕ → Option ℕ → List Delivery → List Entry
body item opening None lines = running item opening lines
body item opening (Some from) lines =
    running item opening (early from lines) ++ ResetOf item (opening + total (early from lines))
    ∷ running item 0 (late from lines)

-- the figure in force at the item end
abbrev pub last_figure : ℕ → Option ℕ → List Delivery → ℕ
last_figure opening None lines = opening + total lines
last_figure opening (Some from) lines = total (late from lines)

abbrev pub block : Load → List Entry
block load =
    body load.item load.opening load.reset load.lines
    ++ EndOf load.item (length load.lines) (last_figure load.opening load.reset load.lines) ∷ []

abbrev pub text_of : List Load → List Entry
text_of order = flat_map block order ++ Closing ∷ []

-- a text of the loads: their blocks, each once and whole, in some order, and the closing record
pub record IsText (loads : List Load) (entries : List Entry) : Type 0 where
  pub order : List Load
  pub once : IsPermutation loads order
  pub is : entries ≡ text_of order

-- the records are numbered one by one
abbrev pub NumberedFrom : ℕ → List Record → Type 0
NumberedFrom n [] = Unit {0}
NumberedFrom n (r ∷ records) = (number_of r ≡ n) × NumberedFrom (n + 1) records

-- the whole text of a lane
pub record IsWhole (loads : List Load) (records : List Record) : Type 0 where
  pub numbered : NumberedFrom 1 records
  pub text : IsText loads (contents records)

-- a legal beginning: a prefix of a text
pub record IsBeginning (loads : List Load) (records : List Record) : Type 0 where
  pub numbered : NumberedFrom 1 records
  pub rest : List Entry
  pub text : IsText loads (contents records ++ rest)
