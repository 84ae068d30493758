-- Records of a lane: a sender's cursor, what it keeps of them, and what it has to send.
use Rattle.std.specs.Prelude.{ℕ, ◌≤◌, ◌<◌, Bool, false, List, length, slice_index, Option}
use Rattle.std.specs.List.{flat_map}
use Rattle.mrp_record.specs.Entries.{Entry, Delivery}
use Rattle.mrp_record.specs.Text.{Load, block}

-- The figures of a cursor: the number of the next record, whether the lane is closed, how many items it has,
-- the places of those whose blocks may be sent, in the order of sending, and how many of these blocks are
-- sent. Of the block after them: the mark from which the item's deliveries are left, how many lines were
-- sent, the pieces of its lines, since the reset after that, and whether the reset was sent.
pub record OutFigures : Type 0 where
  pub next : ℕ
  pub closed : Bool
  pub size : ℕ
  pub queue : List ℕ
  pub head : ℕ
  pub mark : ℕ
  pub lines : ℕ
  pub moved : ℕ
  pub anew : Bool

-- the queue stands at the front of the room for all places, and has places of the lane alone
pub record IsQueue (head queued : ℕ) (slots : List ℕ) : Type 0 where
  pub within : head ≤ queued
  pub room : queued ≤ length slots
  pub places : (i : ℕ) → i < queued → slice_index slots i < length slots

-- the figures before the first record
abbrev pub unsent : ℕ → List ℕ → OutFigures
unsent size queue =
    record {
      next = 1;
      closed = false;
      size = size;
      queue = queue;
      head = 0;
      mark = 0;
      lines = 0;
      moved = 0;
      anew = false;
    }

-- What a lane has to carry of the item at a place: the figure that it opens with, the period from which its
-- figures start anew, if they do, and its deliveries from a mark on. All are from mark 0 on.
pub record Goods : Type 0 where
  pub item : ℕ
  pub opening : ℕ
  pub reset : Option ℕ
  pub from : ℕ → List Delivery

abbrev pub goods_load : Goods → Load
goods_load g = record { item = g.item; opening = g.opening; reset = g.reset; lines = g.from 0 }

-- the blocks of the items at some places, in that order
abbrev pub blocks : (ℕ → Goods) → List ℕ → List Entry
blocks goods places = flat_map (λ place. block (goods_load (goods place))) places
