-- Records of a lane: laws of a sender's cursor and the lists of records that it shows.
use Rattle.std.specs.Prelude.{◌≡◌, ℕ, ◌+◌, ◌*◌, ◌^◌, ◌≤◌, ◌<◌, true, List, [], ◌∷◌, ◌++◌, length, slice_get, Option}
use Rattle.std.specs.Prelude.{Some, None, Contains}
use Rattle.mrp_record.specs.declared.record.Record.{Record}
use Rattle.mrp_record.specs.Entries.{Entry, LineOf, EndOf, ResetOf, Closing, content, contents, is_closed}
use Rattle.mrp_record.specs.Laws.{AreLoads}
use Rattle.mrp_record.specs.Text.{Load, total, IsBeginning, IsWhole}
use Rattle.mrp_record.specs.Lengths.{block_length}
use Rattle.mrp_record.specs.declared.remainder.Remainder.{Remainder}
use Rattle.mrp_record.specs.Cursor.{OutFigures, Goods, goods_load}
use Rattle.mrp_record.specs.Next.{IsWhatIsLeft, next_record, stepped, queued}
use Rattle.mrp_record.specs.Shows.{ShowsSent}

-- the loads of a lane agree with a cursor's goods: one for each place, at the queued places those of the goods
pub record Agrees (goods : ℕ → Goods) (o : OutFigures) (loads : List Load) : Type 0 where
  pub size : length loads ≡ o.size
  pub queued : (place : ℕ) → Contains o.queue place → slice_get loads place ≡ Some (goods_load (goods place))

-- ---- what may be sent

-- an item may be sent where its place is queued
pub record IsQueued (goods : ℕ → Goods) (o : OutFigures) (item : ℕ) : Type 0 where
  pub place : ℕ
  pub there : Contains o.queue place
  pub is : (goods place).item ≡ item

-- a record may be sent where its item may, the closing record always
abbrev pub MaySend : (ℕ → Goods) → OutFigures → Entry → Type 0
MaySend goods o (LineOf item period quantity cumulative) = IsQueued goods o item
MaySend goods o (EndOf item lines cumulative) = IsQueued goods o item
MaySend goods o (ResetOf item closed) = IsQueued goods o item
MaySend goods o Closing = Unit {0}

-- the next number and all figures of the block at the head stay below 2^64
pub record IsSmallGoods (g : Goods) : Type 0 where
  pub lines : length (g.from 0) < 2 ^ 64
  pub figures : g.opening + total (g.from 0) < 2 ^ 64

pub record IsBounded (goods : ℕ → Goods) (o : OutFigures) : Type 0 where
  pub number : o.next + 1 < 2 ^ 64
  pub head : (place : ℕ) → slice_get o.queue o.head ≡ Some place → IsSmallGoods (goods place)

-- ---- sending

-- the record that is given may be sent and continues the list to a legal beginning, for whatever loads
-- that agree with the queued goods
abbrev pub GivenContinues : Type 0
GivenContinues =
    (goods : ℕ → Goods) (o : OutFigures) (sent : List Record) (left : Option Remainder) (r : Record)
    → ShowsSent goods o sent → IsBounded goods o → IsWhatIsLeft goods o left → next_record o left ≡ Some r
    → (loads : List Load) → Agrees goods o loads → IsBeginning loads (sent ++ r ∷ []) × MaySend goods o (content r)

-- after the step the cursor shows the list with that record
abbrev pub StepsShow : Type 0
StepsShow =
    (goods : ℕ → Goods) (o : OutFigures) (sent : List Record) (left : Option Remainder) (r : Record)
    → ShowsSent goods o sent → IsBounded goods o → IsWhatIsLeft goods o left → next_record o left ≡ Some r
    → ShowsSent goods (stepped o left) (sent ++ r ∷ [])

-- a step changes neither the lane's size nor the queue
abbrev pub StepsKeepPlaces : Type 0
StepsKeepPlaces =
    (o : OutFigures) (left : Option Remainder)
    → ((stepped o left).size ≡ o.size) × ((stepped o left).queue ≡ o.queue)

-- where no record is given none can be sent: no record that may be sent continues the list to a legal
-- beginning of loads that agree
abbrev pub NoneIsLeft : Type 0
NoneIsLeft =
    (goods : ℕ → Goods) (o : OutFigures) (sent : List Record) (left : Option Remainder)
    → ShowsSent goods o sent → IsWhatIsLeft goods o left → next_record o left ≡ None
    → (loads : List Load) → AreLoads loads → Agrees goods o loads
    → (r : Record) → MaySend goods o (content r) → IsBeginning loads (sent ++ r ∷ []) → ⊥

-- ---- queues

-- a place of the lane that isn't queued comes to the end of the queue
abbrev pub QueuesShow : Type 0
QueuesShow =
    (goods : ℕ → Goods) (o : OutFigures) (sent : List Record) (place : ℕ)
    → ShowsSent goods o sent → place < o.size → (Contains o.queue place → ⊥)
    → ((queued o place).queue ≡ o.queue ++ place ∷ []) × ShowsSent goods (queued o place) sent

-- queued places are places of the lane
abbrev pub QueuedArePlaces : Type 0
QueuedArePlaces =
    (goods : ℕ → Goods) (o : OutFigures) (sent : List Record) (place : ℕ)
    → ShowsSent goods o sent → Contains o.queue place → place < o.size

-- only the goods of queued places matter
abbrev pub LooksAtQueued : Type 0
LooksAtQueued =
    (goods others : ℕ → Goods) (o : OutFigures) (sent : List Record)
    → ((place : ℕ) → Contains o.queue place → goods place ≡ others place)
    → ShowsSent goods o sent → ShowsSent others o sent

-- ---- shown lists

-- a shown list is a legal beginning
abbrev pub ShownBegin : Type 0
ShownBegin =
    (goods : ℕ → Goods) (o : OutFigures) (sent : List Record)
    → ShowsSent goods o sent → (loads : List Load) → Agrees goods o loads → IsBeginning loads sent

-- the cursor is closed exactly where the shown list is
abbrev pub ClosedIsShown : Type 0
ClosedIsShown =
    (goods : ℕ → Goods) (o : OutFigures) (sent : List Record)
    → ShowsSent goods o sent → o.closed ≡ is_closed (contents sent)

-- a cursor that is closed shows the whole text
abbrev pub ClosedShowsWhole : Type 0
ClosedShowsWhole =
    (goods : ℕ → Goods) (o : OutFigures) (sent : List Record)
    → ShowsSent goods o sent → o.closed ≡ true → (loads : List Load) → Agrees goods o loads → IsWhole loads sent

-- a shown list has the records of the queued blocks and the closing record at most
abbrev pub ShownAreShort : Type 0
ShownAreShort =
    (goods : ℕ → Goods) (o : OutFigures) (sent : List Record) (most : ℕ)
    → ShowsSent goods o sent → ((place : ℕ) → Contains o.queue place → block_length (goods_load (goods place)) ≤ most)
    → length sent ≤ most * o.size + 1

-- so small goods at all queued places, in blocks of so many records at most, keep a cursor within bounds
abbrev pub SmallAreBounded : Type 0
SmallAreBounded =
    (goods : ℕ → Goods) (o : OutFigures) (sent : List Record) (most : ℕ)
    → ShowsSent goods o sent
    → ((place : ℕ) → Contains o.queue place → IsSmallGoods (goods place)
    × (block_length (goods_load (goods place)) ≤ most))
    → most * o.size + 3 < 2 ^ 64 → IsBounded goods o
