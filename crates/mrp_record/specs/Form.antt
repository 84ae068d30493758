-- Records of a lane: what a list of them can be without knowledge of any plan. Each continues those before it.
use Rattle.std.specs.Prelude.{◌≡◌, ℕ, ◌+◌, ◌≤◌, ◌<◌, ◌==◌, ◌&&◌, nat_le, not, Bool, true, false, List, ◌∷◌, ◌++◌}
use Rattle.std.specs.Prelude.{length, find, All, Option, Some, None}
use Rattle.std.specs.Prelude.{is_some, IsSomeAnd}
use Rattle.std.specs.List.{list_any}
use Rattle.mrp_qty.specs.declared.quantity.TheConstants.{MOST}
use Rattle.mrp_record.specs.declared.record.Record.{Record}
use Rattle.mrp_record.specs.Entries.{Entry, LineOf, EndOf, ResetOf, Closing, number_of, content, contents, is_ended}
use Rattle.mrp_record.specs.Blocks.{line_count, next_period, was_reset}
use Rattle.mrp_record.specs.Entries.{is_closed, in_force, closed_by}
use Rattle.mrp_record.specs.Blocks.{is_open}

-- an item of the lane: its opening figure, and the period from which its figures start anew, if they do
pub record FormItem : Type 0 where
  pub item : ℕ
  pub opening : ℕ
  pub reset : Option ℕ

-- what is known of a lane: on a schedule lane the periods of an item rise
pub record LaneForm : Type 0 where
  pub rising : Bool
  pub horizon : ℕ
  pub items : List FormItem

abbrev pub item_on : LaneForm → ℕ → Option FormItem
item_on form item = find (λ i. i.item == item) form.items

-- whether the figures of a period are those of the new start
abbrev pub is_anew : Option ℕ → ℕ → Bool
is_anew None period = false
is_anew (Some from) period = nat_le from period

-- another item's block has begun and hasn't ended
abbrev pub is_other_open : LaneForm → ℕ → List Entry → Bool
is_other_open form item before = list_any (λ other. not (other.item == item) && is_open other.item before) form.items

-- a line of the item: in the horizon, on a schedule lane after the line before it, of one piece at least,
-- its figure the one in force and its pieces, with the closed years at most 10^15, and on its side of the reset
pub record LineFits (form : LaneForm) (i : FormItem) (before : List Entry)
    (period quantity cumulative : ℕ) : Type 0 where
  pub inside : period < form.horizon
  pub rises : form.rising ≡ true → next_period i.item before ≤ period
  pub some : 1 ≤ quantity
  pub figure : cumulative ≡ in_force i.opening i.item before + quantity
  pub small : cumulative + closed_by i.item before ≤ MOST
  pub side : was_reset i.item before ≡ is_anew i.reset period

-- the item's end: it counts its lines and repeats the figure in force, and the reset isn't missing
pub record EndFits (i : FormItem) (before : List Entry) (lines cumulative : ℕ) : Type 0 where
  pub count : lines ≡ line_count i.item before
  pub figure : cumulative ≡ in_force i.opening i.item before
  pub side : is_some i.reset ≡ true → was_reset i.item before ≡ true

-- a reset: awaited, the first, and it closes the figure in force
pub record ResetFits (i : FormItem) (before : List Entry) (closed : ℕ) : Type 0 where
  pub awaited : is_some i.reset ≡ true
  pub first : was_reset i.item before ≡ false
  pub figure : closed ≡ in_force i.opening i.item before

-- a record of an item: the item's block isn't ended, and no other block is open
pub record GoesOn (form : LaneForm) (i : FormItem) (before : List Entry) : Type 0 where
  pub unended : is_ended i.item before ≡ false
  pub alone : is_other_open form i.item before ≡ false

-- after which records a record may come
abbrev pub EntryFits : LaneForm → List Entry → Entry → Type 0
EntryFits form before (LineOf item period quantity cumulative) =
    IsSomeAnd (item_on form item) (λ i. GoesOn form i before × LineFits form i before period quantity cumulative)
EntryFits form before (EndOf item lines cumulative) =
    IsSomeAnd (item_on form item) (λ i. GoesOn form i before × EndFits i before lines cumulative)
EntryFits form before (ResetOf item closed) =
    IsSomeAnd (item_on form item) (λ i. GoesOn form i before × ResetFits i before closed)
EntryFits form before Closing = All (λ i. is_ended i.item before ≡ true) form.items

-- a record continues those before it: it has the next number, the lane isn't closed, and it fits
pub record Continues (form : LaneForm) (before : List Record) (r : Record) : Type 0 where
  pub number : number_of r ≡ length before + 1
  pub small : number_of r ≤ MOST
  pub unclosed : is_closed (contents before) ≡ false
  pub fits : EntryFits form (contents before) (content r)

-- a list in form: each record continues those before it
abbrev pub IsInForm : LaneForm → List Record → Type 0
IsInForm form records =
    (before after : List Record) (r : Record) → records ≡ before ++ r ∷ after → Continues form before r
