-- Records of a lane: those of a block, line by line, and what they make of its deliveries.
use Rattle.std.proofs.Common.{◌≡◌, ℕ, ◌+◌, true, false, cond, ltb, Some, None, Option, List, [], ◌∷◌, ◌++◌, refl, ◌∙◌, ap, length, length-append, arith}
use Rattle.std.specs.Prelude.{is_some, if◌then◌else◌}
use Rattle.std.specs.List.{list_any, sum_by, filter_map}
use Rattle.std.proofs.lemmas.List.{append-nil}
use Rattle.std.proofs.lemmas.List.Elements.{filter_map-append}
use Rattle.std.proofs.lemmas.List.Sums.{sum_by-cons}
use Rattle.mrp_record.specs.Entries.{Entry, LineOf, EndOf, ResetOf, Closing, Delivery, is_end, quantity_of}
use Rattle.mrp_record.specs.Blocks.{entry_delivery}
use Rattle.mrp_record.specs.Text.{Load, running, early, late, body, block, last_figure, total}
use Rattle.mrp_record.specs.Lengths.{block_length}
use Rattle.mrp_record.proofs.Own.{list_any-append}

pub early-append-late : (from : ℕ) (lines : List Delivery) → early from lines ++ late from lines ≡ lines
early-append-late from [] = refl
early-append-late from (line ∷ lines) =
    elim (ltb line.period from) as (λ b. cond b (line ∷ early from lines) [] ++ cond b (late from lines) (line ∷ lines) ≡ line ∷ lines) [
      | true ↦ ap (λ (z : List Delivery). line ∷ z) (early-append-late from lines)
      | false ↦ refl
    ]

-- ---- lengths

pub length-running : (item figure : ℕ) (lines : List Delivery) → length (running item figure lines) ≡ length lines
length-running item figure [] = refl
length-running item figure (line ∷ lines) = omega (arith, length-running item (figure + line.quantity) lines)

pub length-body : (item opening : ℕ) (reset : Option ℕ) (lines : List Delivery)
    → length (body item opening reset lines) ≡ length lines + (if is_some reset then 1 else 0)
length-body item opening None lines = omega (arith, length-running item opening lines)
length-body item opening (Some from) lines =
    let before = running item opening (early from lines) in
    let after = running item 0 (late from lines) in
    omega (
      arith,
      length-append before (ResetOf item (opening + total (early from lines)) ∷ after),
      length-running item opening (early from lines),
      length-running item 0 (late from lines),
      length-append (early from lines) (late from lines),
      ap length (early-append-late from lines),
    )

pub length-block : (load : Load) → length (block load) ≡ block_length load
length-block load =
    let front = body load.item load.opening load.reset load.lines in
    let last = EndOf load.item (length load.lines) (last_figure load.opening load.reset load.lines) ∷ [] in
    omega (arith, length-append front last, length-body load.item load.opening load.reset load.lines)

-- ---- no end before the item end

pub running_unended : (item figure : ℕ) (lines : List Delivery) → list_any is_end (running item figure lines) ≡ false
running_unended item figure [] = refl
running_unended item figure (line ∷ lines) = running_unended item (figure + line.quantity) lines

pub body_unended : (item opening : ℕ) (reset : Option ℕ) (lines : List Delivery) → list_any is_end (body item opening reset lines) ≡ false
body_unended item opening None lines = running_unended item opening lines
body_unended item opening (Some from) lines =
    list_any-append is_end (running item opening (early from lines)) (ResetOf item (opening + total (early from lines)) ∷ running item 0 (late from lines))
    (running_unended item opening (early from lines))
    (running_unended item 0 (late from lines))

-- ---- the deliveries of a block

pub running_delivers : (item figure : ℕ) (lines : List Delivery) → filter_map entry_delivery (running item figure lines) ≡ lines
running_delivers item figure [] = refl
running_delivers item figure (line ∷ lines) = ap (λ (z : List Delivery). line ∷ z) (running_delivers item (figure + line.quantity) lines)

pub body_delivers : (item opening : ℕ) (reset : Option ℕ) (lines : List Delivery) → filter_map entry_delivery (body item opening reset lines) ≡ lines
body_delivers item opening None lines = running_delivers item opening lines
body_delivers item opening (Some from) lines =
    let before = running item opening (early from lines) in
    let after = running item 0 (late from lines) in
    let parts : filter_map entry_delivery (before ++ ResetOf item (opening + total (early from lines)) ∷ after) ≡ filter_map entry_delivery before
    ++ filter_map entry_delivery after =
    filter_map-append entry_delivery before (ResetOf item (opening + total (early from lines)) ∷ after) in
    let first : filter_map entry_delivery before ≡ early from lines = running_delivers item opening (early from lines) in
    let second : filter_map entry_delivery after ≡ late from lines = running_delivers item 0 (late from lines) in
    parts ∙ ap (λ (z : List Delivery). z ++ filter_map entry_delivery after) first ∙ ap (λ (z : List Delivery). early from lines ++ z) second
    ∙ early-append-late from lines

pub block_delivers : (load : Load) → filter_map entry_delivery (block load) ≡ load.lines
block_delivers load =
    let front = body load.item load.opening load.reset load.lines in
    let last = EndOf load.item (length load.lines) (last_figure load.opening load.reset load.lines) ∷ [] in
    let parts : filter_map entry_delivery (front ++ last) ≡ filter_map entry_delivery front ++ [] = filter_map-append entry_delivery front last in
    parts ∙ append-nil (filter_map entry_delivery front) ∙ body_delivers load.item load.opening load.reset load.lines

-- the pieces of the lines are those of their deliveries
pub moved_is_delivered : (es : List Entry) → sum_by quantity_of es ≡ total (filter_map entry_delivery es)
moved_is_delivered [] = refl
moved_is_delivered (LineOf i p q c ∷ es) =
    let rest = filter_map entry_delivery es in
    let line : Delivery = record { period = p; quantity = q } in
    omega (arith, sum_by-cons quantity_of (LineOf i p q c) es, sum_by-cons (λ (l : Delivery). l.quantity) line rest, moved_is_delivered es)
moved_is_delivered (EndOf i n c ∷ es) = omega (arith, sum_by-cons quantity_of (EndOf i n c) es, moved_is_delivered es)
moved_is_delivered (ResetOf i c ∷ es) = omega (arith, sum_by-cons quantity_of (ResetOf i c) es, moved_is_delivered es)
moved_is_delivered (Closing ∷ es) = omega (arith, sum_by-cons quantity_of Closing es, moved_is_delivered es)
