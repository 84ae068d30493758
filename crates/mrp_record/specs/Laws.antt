-- Records of a lane: laws of lists of them, a lane's texts, their legal beginnings, and lists in form.
use Rattle.std.specs.Prelude.{◌≡◌, ℕ, ◌+◌, ◌≤◌, ◌<◌, ◌==◌, if◌then◌else◌, Bool, true, List, [], ◌∷◌, ◌++◌, length, map}
use Rattle.std.specs.Prelude.{sum_by, All, Contains, is_some, ◌⊎◌}
use Rattle.std.specs.List.{AllPairs, IsDistinct}
use Rattle.std.specs.List.Sorted.{IsNonDecreasingBy}
use Rattle.mrp_qty.specs.declared.quantity.TheConstants.{MOST}
use Rattle.mrp_record.specs.declared.record.Record.{Record}
use Rattle.mrp_record.specs.Entries.{Entry, LineOf, EndOf, ResetOf, Closing, Delivery, number_of, content, contents}
use Rattle.mrp_record.specs.Entries.{entries_of, is_ended, moved}
use Rattle.mrp_record.specs.Blocks.{deliveries}
use Rattle.mrp_record.specs.Entries.{cum}
use Rattle.mrp_record.specs.Form.{FormItem, LaneForm, IsInForm}
use Rattle.mrp_record.specs.Text.{Load, total, block, IsText, IsWhole, IsBeginning}
use Rattle.mrp_record.specs.Lengths.{length_of_text}

-- the loads of a lane: no item has two
abbrev pub is_same_load : Load → Load → Bool
is_same_load a b = a.item == b.item

abbrev pub AreLoads : List Load → Type 0
AreLoads loads = IsDistinct is_same_load loads

-- ---- prefixes

-- before the first record the list is a legal beginning
abbrev pub EmptyIsABeginning : Type 0
EmptyIsABeginning = (loads : List Load) → IsBeginning loads []

-- each prefix of a legal beginning is one
abbrev pub PrefixesAreBeginnings : Type 0
PrefixesAreBeginnings = (loads : List Load) (front more : List Record) → IsBeginning loads (front ++ more)
    → IsBeginning loads front

-- of two prefixes of one list one is a prefix of the other
abbrev pub PrefixesAreNested : Type 0
PrefixesAreNested =
    (xs ys more_xs more_ys : List Entry) → xs ++ more_xs ≡ ys ++ more_ys
    → ((more : List Entry) × (ys ≡ xs ++ more)) ⊎ ((more : List Entry) × (xs ≡ ys ++ more))

-- ---- the end of a text

-- nothing follows the closing record
abbrev pub NothingFollowsClosing : Type 0
NothingFollowsClosing =
    (loads : List Load) (before after : List Record) (r : Record)
    → content r ≡ Closing → IsBeginning loads (before ++ r ∷ after) → after ≡ []

-- a legal beginning that ends with the closing record is a whole text
abbrev pub ClosedIsWhole : Type 0
ClosedIsWhole =
    (loads : List Load) (before : List Record) (r : Record)
    → content r ≡ Closing → IsBeginning loads (before ++ r ∷ []) → IsWhole loads (before ++ r ∷ [])

-- all texts of a lane have one length, and no legal beginning is longer
abbrev pub TextsHaveOneLength : Type 0
TextsHaveOneLength = (loads : List Load) (entries : List Entry) → IsText loads entries
    → length entries ≡ length_of_text loads

abbrev pub BeginningsAreNoLonger : Type 0
BeginningsAreNoLonger = (loads : List Load) (records : List Record) → IsBeginning loads records
    → length records ≤ length_of_text loads

-- ---- what is brought

-- an item whose end has come has brought its whole block
abbrev pub EndedBlocksAreWhole : Type 0
EndedBlocksAreWhole =
    (loads : List Load) → AreLoads loads → (records : List Record) → IsBeginning loads records
    → (load : Load) → Contains loads load → is_ended load.item (contents records) ≡ true
    → entries_of load.item (contents records) ≡ block load

-- its deliveries are those of the load, in order
abbrev pub EndedBlocksBringDeliveries : Type 0
EndedBlocksBringDeliveries =
    (loads : List Load) → AreLoads loads → (records : List Record) → IsBeginning loads records
    → (load : Load) → Contains loads load → is_ended load.item (contents records) ≡ true
    → deliveries load.item (contents records) ≡ load.lines

-- so it has brought what the load has in each period, and in all
abbrev pub quantity_in : ℕ → List Delivery → ℕ
quantity_in period lines = sum_by (λ line. if line.period == period then line.quantity else 0) lines

abbrev pub EndedBlocksBringPeriods : Type 0
EndedBlocksBringPeriods =
    (loads : List Load) → AreLoads loads → (records : List Record) → IsBeginning loads records
    → (load : Load) → Contains loads load → is_ended load.item (contents records) ≡ true
    → (period : ℕ) → quantity_in period (deliveries load.item (contents records)) ≡ quantity_in period load.lines

abbrev pub EndedBlocksBringTotals : Type 0
EndedBlocksBringTotals =
    (loads : List Load) → AreLoads loads → (records : List Record) → IsBeginning loads records
    → (load : Load) → Contains loads load → is_ended load.item (contents records) ≡ true
    → moved load.item (contents records) ≡ total load.lines

-- after its end an item gets no more records
abbrev pub EndedItemsAreDone : Type 0
EndedItemsAreDone =
    (loads : List Load) → AreLoads loads → (front more : List Record) → IsBeginning loads (front ++ more)
    → (load : Load) → Contains loads load → is_ended load.item (contents front) ≡ true
    → entries_of load.item (contents more) ≡ []

-- ---- figures

-- the cumulative figure of an item is its opening figure and the pieces of all its lines so far, closed
-- years or not
abbrev pub CumIsOpeningAndMoved : Type 0
CumIsOpeningAndMoved =
    (loads : List Load) → AreLoads loads → (records : List Record) → IsBeginning loads records
    → (load : Load) → Contains loads load
    → cum load.opening load.item (contents records) ≡ load.opening + moved load.item (contents records)

-- a load within bounds: deliveries of one piece at least, in the horizon, on a schedule lane in rising
-- periods, where figures start anew in the order of arrival, and with the opening figure at most 10^15
pub record IsSmall (rising : Bool) (horizon : ℕ) (load : Load) : Type 0 where
  pub some : All (λ line. 1 ≤ line.quantity) load.lines
  pub inside : All (λ line. line.period < horizon) load.lines
  pub rises : rising ≡ true → AllPairs (λ a b. a.period < b.period) load.lines
  pub order : is_some load.reset ≡ true → IsNonDecreasingBy (λ line. line.period) load.lines
  pub figures : load.opening + total load.lines ≤ MOST

abbrev pub AreSmall : Bool → ℕ → List Load → Type 0
AreSmall rising horizon loads = All (IsSmall rising horizon) loads × (length_of_text loads ≤ MOST)

-- what is known of the lane of these loads
abbrev pub form_item : Load → FormItem
form_item load = record { item = load.item; opening = load.opening; reset = load.reset }

abbrev pub loads_form : Bool → ℕ → List Load → LaneForm
loads_form rising horizon loads = record { rising = rising; horizon = horizon; items = map form_item loads }

-- a legal beginning of small loads is in form
abbrev pub BeginningsAreInForm : Type 0
BeginningsAreInForm =
    (rising : Bool) (horizon : ℕ) (loads : List Load) → AreLoads loads → AreSmall rising horizon loads
    → (records : List Record) → IsBeginning loads records → IsInForm (loads_form rising horizon loads) records

-- no figure of a record is above 10^15
abbrev pub HasSmallFigures : Entry → Type 0
HasSmallFigures (LineOf item period quantity cumulative) = (quantity ≤ MOST) × (cumulative ≤ MOST)
HasSmallFigures (EndOf item lines cumulative) = (lines ≤ MOST) × (cumulative ≤ MOST)
HasSmallFigures (ResetOf item closed) = closed ≤ MOST
HasSmallFigures Closing = Unit {0}

abbrev pub FiguresAreSmall : Type 0
FiguresAreSmall =
    (rising : Bool) (horizon : ℕ) (loads : List Load) → AreLoads loads → AreSmall rising horizon loads
    → (records : List Record) → IsBeginning loads records
    → All (λ r. (number_of r ≤ MOST) × HasSmallFigures (content r)) records

abbrev pub CumsAreSmall : Type 0
CumsAreSmall =
    (rising : Bool) (horizon : ℕ) (loads : List Load) → AreLoads loads → AreSmall rising horizon loads
    → (records : List Record) → IsBeginning loads records
    → (load : Load) → Contains loads load → cum load.opening load.item (contents records) ≤ MOST

-- ---- lists in form

abbrev pub is_same_form_item : FormItem → FormItem → Bool
is_same_form_item a b = a.item == b.item

-- what a list in form tells of a load: deliveries of one piece at least, in the horizon, on a schedule lane in rising
-- periods, and with the opening figure at most 10^15 pieces, unless that is more by itself
pub record IsTold (form : LaneForm) (load : Load) : Type 0 where
  pub some : All (λ line. 1 ≤ line.quantity) load.lines
  pub inside : All (λ line. line.period < form.horizon) load.lines
  pub rises : form.rising ≡ true → AllPairs (λ a b. a.period < b.period) load.lines
  pub figures : load.opening ≤ MOST → load.opening + total load.lines ≤ MOST

-- the list is a legal beginning of these loads, which are those of a lane of that form
pub record IsBegunBy (form : LaneForm) (records : List Record) (loads : List Load) : Type 0 where
  pub once : AreLoads loads
  pub lane : loads_form form.rising form.horizon loads ≡ form
  pub begun : IsBeginning loads records
  pub told : All (IsTold form) loads

-- a list in form on a lane that has each item once is a legal beginning of some loads
abbrev pub ListsInFormAreBeginnings : Type 0
ListsInFormAreBeginnings =
    (form : LaneForm) → IsDistinct is_same_form_item form.items → (records : List Record) → IsInForm form records
    → (loads : List Load) × IsBegunBy form records loads
