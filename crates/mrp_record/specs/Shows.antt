-- Records of a lane: which lists of sent ones a sender's cursor shows.
use Rattle.std.specs.Prelude.{◌≡◌, ℕ, ◌+◌, ◌≤◌, if◌then◌else◌, Bool, true, false, List, [], ◌∷◌, ◌++◌, length, take}
use Rattle.std.specs.Prelude.{slice_get, Option, Some, None}
use Rattle.std.specs.Prelude.{IsPermutation}
use Rattle.std.specs.List.{range_with_len}
use Rattle.mrp_record.specs.declared.record.Record.{Record}
use Rattle.mrp_record.specs.Entries.{Entry, EndOf, Closing, Delivery, contents}
use Rattle.mrp_record.specs.Text.{block, body, last_figure, total, NumberedFrom}
use Rattle.mrp_record.specs.Cursor.{OutFigures, Goods, goods_load, blocks}

-- what is left of a block after so many lines, at a figure: a block again
abbrev pub left_from : ℕ → ℕ → ℕ → Option ℕ → List Delivery → List Entry
left_from item count figure reset lines =
    body item figure reset lines ++ EndOf item (count + length lines) (last_figure figure reset lines) ∷ []

-- the figure in force and the awaited reset, after so many pieces
abbrev pub figure_at : Bool → ℕ → ℕ → ℕ
figure_at anew moved opening = if anew then moved else opening + moved

abbrev pub reset_at : Bool → Option ℕ → Option ℕ
reset_at anew reset = if anew then None else reset

-- A part of the block of some goods was sent, and the rest is what is left from the mark on. The lines and
-- pieces so far are those of the deliveries that aren't left; after a reset the pieces are fewer.
pub record IsPart (g : Goods) (mark count moved : ℕ) (anew : Bool) (part : List Entry) : Type 0 where
  pub whole :
      block (goods_load g)
      ≡ part ++ left_from g.item count (figure_at anew moved g.opening) (reset_at anew g.reset) (g.from mark)
  pub lines : count + length (g.from mark) ≡ length (g.from 0)
  pub pieces : moved + total (g.from mark) ≤ total (g.from 0)

-- before the first record of a block
pub record IsFresh (o : OutFigures) : Type 0 where
  pub mark : o.mark ≡ 0
  pub lines : o.lines ≡ 0
  pub moved : o.moved ≡ 0
  pub anew : o.anew ≡ false

-- A cursor shows the list of the whole blocks before its head and a part of the next one: of the block at
-- the head, none where no block is there, and the closing record where the lane is closed. The places that
-- aren't queued come later, each once.
pub record ShowsSent (goods : ℕ → Goods) (o : OutFigures) (sent : List Record) : Type 0 where
  pub numbers : NumberedFrom 1 sent
  pub next : o.next ≡ length sent + 1
  pub later : List ℕ
  pub places : IsPermutation (range_with_len 0 o.size) (o.queue ++ later)
  pub head : o.head ≤ length o.queue
  pub part : List Entry
  pub text : contents sent ≡ blocks goods (take o.head o.queue) ++ part
  pub within :
      o.closed ≡ false → (place : ℕ) → slice_get o.queue o.head ≡ Some place
      → IsPart (goods place) o.mark o.lines o.moved o.anew part
  pub between : o.closed ≡ false → o.head ≡ length o.queue → (part ≡ []) × IsFresh o
  pub after : o.closed ≡ true → (o.head ≡ length o.queue) × (length o.queue ≡ o.size) × (part ≡ Closing ∷ [])
