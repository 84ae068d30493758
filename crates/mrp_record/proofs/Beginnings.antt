-- Records of a lane: their legal beginnings, prefixes, the closing record, lengths, and
-- what an ended block has brought.
use Rattle.std.proofs.Common.{◌≡◌, ℕ, ◌+◌, true, false, List, [], ◌∷◌, ◌++◌, inl, inr, refl, sym, ◌∙◌, ap, subst, length, append_assoc, length-append, arith}
use Rattle.std.specs.List.{Contains, flat_map, filter_map, list_any, sum_by}
use Rattle.std.proofs.lemmas.Bool.{eq-eqb, false≢true, both_ways}
use Rattle.std.proofs.lemmas.List.{append-nil, length-map, map-append}
use Rattle.std.proofs.lemmas.List.Elements.{filter-append}
use Rattle.std.proofs.lemmas.List.Sums.{sum_by-cons}
use Rattle.std.proofs.lemmas.List.Sorted.{IsPermutation-refl, sum_by-IsPermutation}
use Rattle.mrp_record.specs.declared.record.Record.{Record}
use Rattle.mrp_record.specs.Entries.{Entry, EndOf, Closing, content, contents, number_of, is_of, is_end, entries_of}
use Rattle.mrp_record.specs.Blocks.{entry_delivery}
use Rattle.mrp_record.specs.Laws.{AreLoads, EmptyIsABeginning, PrefixesAreBeginnings, PrefixesAreNested}
use Rattle.mrp_record.specs.Laws.{NothingFollowsClosing, ClosedIsWhole, TextsHaveOneLength}
use Rattle.mrp_record.specs.Laws.{BeginningsAreNoLonger, EndedBlocksAreWhole, EndedBlocksBringDeliveries, EndedBlocksBringPeriods, EndedBlocksBringTotals}
use Rattle.mrp_record.specs.Laws.{EndedItemsAreDone, quantity_in}
use Rattle.mrp_record.specs.Text.{Load, body, block, last_figure, text_of, IsText, IsBeginning, NumberedFrom, total}
use Rattle.mrp_record.specs.Lengths.{block_length}
use Rattle.mrp_record.proofs.Fronts.{overlap}
use Rattle.mrp_record.proofs.Loads.{In, In-from_contains, In-permutation, at_most_one, count_permuted, text_block}
use Rattle.mrp_record.proofs.Own.{AllOf, AllOf-block, list_any-front}
use Rattle.mrp_record.proofs.Running.{length-block, body_unended, block_delivers, moved_is_delivered}
use Rattle.mrp_record.proofs.Standing.{stands}

-- ---- numbers

pub NumberedFrom-front : (n : ℕ) (xs ys : List Record) → NumberedFrom n (xs ++ ys) → NumberedFrom n xs
NumberedFrom-front n [] ys h = tt
NumberedFrom-front n (x ∷ xs) ys h = (h.0, NumberedFrom-front (n + 1) xs ys h.1)

pub number_at : (n : ℕ) (before after : List Record) (r : Record) → NumberedFrom n (before ++ r ∷ after) → number_of r ≡ n + length before
number_at n [] after r h = omega (arith, h.0)
number_at n (x ∷ before) after r h = omega (arith, number_at (n + 1) before after r h.1)

-- ---- prefixes

pub empty_is_a_beginning : EmptyIsABeginning
empty_is_a_beginning loads =
    record { numbered = tt; rest = text_of loads; text = record { order = loads; once = IsPermutation-refl loads; is = refl } }

pub contents_parts : (front more : List Record) (rest : List Entry) → contents (front ++ more) ++ rest ≡ contents front ++ (contents more ++ rest)
contents_parts front more rest =
    ap (λ (z : List Entry). z ++ rest) (map-append content front more) ∙ append_assoc (contents front) (contents more) rest

pub fronts_are_beginnings : PrefixesAreBeginnings
fronts_are_beginnings loads front more h =
    record {
      numbered = NumberedFrom-front 1 front more h.numbered;
      rest = contents more ++ h.rest;
      text = record { order = h.text.order; once = h.text.once; is = sym (contents_parts front more h.rest) ∙ h.text.is };
    }

pub fronts_are_nested : PrefixesAreNested
fronts_are_nested xs ys more_xs more_ys e =
    elim (overlap xs more_xs ys more_ys e) [
      | inl b ↦ inr (b.more, b.is)
      | inr i ↦ inl (i.next ∷ i.more, i.is)
    ]

-- ---- the closing record

pub not_of_an_item : (item : ℕ) (xs ys : List Entry) → AllOf item (xs ++ Closing ∷ ys) → ⊥
not_of_an_item item [] ys h = false≢true (h.0 item ∙ eq-eqb item item refl)
not_of_an_item item (x ∷ xs) ys h = not_of_an_item item xs ys h.1

closing_last : (order : List Load) (entries rest : List Entry) → entries ++ Closing ∷ rest ≡ text_of order → rest ≡ []
closing_last order entries rest e = elim (stands order entries (Closing ∷ rest) e) [
  | inl w ↦
      let same : w.next ≡ Closing = cc (w.rest_is) in
      let here : block w.load ≡ w.part ++ Closing ∷ w.more = w.block_is ∙ ap (λ (z : Entry). w.part ++ z ∷ w.more) same in
      absurd (not_of_an_item w.load.item w.part w.more (subst (AllOf w.load.item) here (AllOf-block w.load)))
  | inr g ↦ elim g [ inl c ↦ cc (c.rest_is) | inr a ↦ absurd (cc (a.rest_is)) ]
]

nil_front : (xs ys : List Entry) → xs ++ ys ≡ [] → (xs ≡ []) × (ys ≡ [])
nil_front [] ys e = (refl, e)
nil_front (x ∷ xs) ys e = absurd (cc)

nil_contents : (records : List Record) → contents records ≡ [] → records ≡ []
nil_contents [] e = refl
nil_contents (r ∷ records) e = absurd (cc)

rest_after_closing : (loads : List Load) (before after : List Record) (r : Record) → content r ≡ Closing → (h : IsBeginning loads (before ++ r ∷ after))
    → contents after ++ h.rest ≡ []
rest_after_closing loads before after r closing h =
    let split : contents before ++ (content r ∷ (contents after ++ h.rest)) ≡ text_of h.text.order =
    sym (contents_parts before (r ∷ after) h.rest) ∙ h.text.is in
    let there : contents before ++ Closing ∷ (contents after ++ h.rest) ≡ text_of h.text.order =
    ap (λ (z : Entry). contents before ++ z ∷ (contents after ++ h.rest)) (sym closing) ∙ split in
    closing_last h.text.order (contents before) (contents after ++ h.rest) there

pub nothing_follows_closing : NothingFollowsClosing
nothing_follows_closing loads before after r closing h =
    nil_contents after (nil_front (contents after) h.rest (rest_after_closing loads before after r closing h)).0

pub closed_is_whole : ClosedIsWhole
closed_is_whole loads before r closing h =
    let none : h.rest ≡ [] = rest_after_closing loads before [] r closing h in
    let entries = contents (before ++ r ∷ []) in
    record {
      numbered = h.numbered;
      text = record {
        order = h.text.order;
        once = h.text.once;
        is = sym (append-nil entries) ∙ ap (λ (z : List Entry). entries ++ z) (sym none) ∙ h.text.is;
      };
    }

-- ---- lengths

pub length-blocks : (loads : List Load) → length (flat_map block loads) ≡ sum_by block_length loads
length-blocks [] = refl
length-blocks (load ∷ loads) =
    omega (arith, length-append (block load) (flat_map block loads), length-block load, length-blocks loads, sum_by-cons block_length load loads)

pub texts_have_one_length : TextsHaveOneLength
texts_have_one_length loads entries h =
    let order = h.order in
    ap length h.is ∙ omega (
      arith,
      length-append (flat_map block order)
          (Closing ∷ []),
      length-blocks order,
      sum_by-IsPermutation block_length loads order h.once,
    )

pub beginnings_are_no_longer : BeginningsAreNoLonger
beginnings_are_no_longer loads records h =
    omega (arith, length-map records content, length-append (contents records) h.rest, texts_have_one_length loads (contents records ++ h.rest) h.text)

-- ---- what an ended block has brought

-- the records of an item so far and those still to come are its block
pub own_block : (loads : List Load) → AreLoads loads → (load : Load) → Contains loads load → (entries rest : List Entry) → IsText loads (entries ++ rest)
    → entries_of load.item entries ++ entries_of load.item rest ≡ block load
own_block loads once load there entries rest text =
    let among : In load text.order = In-permutation load loads text.order text.once (In-from_contains load loads there) in
    let few = at_most_one load.item loads once in
    let same = count_permuted load.item loads text.order text.once in
    sym (filter-append (is_of load.item) entries rest) ∙ ap (entries_of load.item) text.is ∙ text_block load text.order among (omega (arith, few, same))

pub ended_is_whole : (load : Load) (own rest : List Entry) → own ++ rest ≡ block load → list_any is_end own ≡ true → (own ≡ block load) × (rest ≡ [])
ended_is_whole load own rest e ended =
    let front = body load.item load.opening load.reset load.lines in
    let last = EndOf load.item (length load.lines) (last_figure load.opening load.reset load.lines) in
    let unended : list_any is_end front ≡ false = body_unended load.item load.opening load.reset load.lines in
    elim (overlap own rest front (last ∷ []) e) [
      | inl b ↦ beyond front last own rest b.more b.is b.after unended ended
      | inr i ↦
          let none : list_any is_end own ≡ false = list_any-front is_end own (i.next ∷ i.more)
          (subst (λ (z : List Entry). list_any is_end z ≡ false) i.is unended) in
          absurd (both_ways (list_any is_end own) none ended)
    ]
  where
    beyond : (front : List Entry) (last : Entry) (own rest more : List Entry) → own ≡ front ++ more → more ++ rest ≡ last ∷ [] → list_any is_end front ≡ false
        → list_any is_end own ≡ true → (own ≡ front ++ last ∷ []) × (rest ≡ [])
    beyond front last own rest [] is after unended ended =
        let same : own ≡ front = is ∙ append-nil front in
        absurd (both_ways (list_any is_end own) (subst (λ (z : List Entry). list_any is_end z ≡ false) (sym same) unended) ended)
    beyond front last own rest (x ∷ more) is after unended ended =
        let none : more ++ rest ≡ [] = cc in
        let parts = nil_front more rest none in
        let only : more ≡ [] = parts.0 in
        let first : x ≡ last = cc in
        (is ∙ ap (λ (z : List Entry). front ++ x ∷ z) only ∙ ap (λ (z : Entry). front ++ z ∷ []) first, parts.1)

pub ended_blocks_are_whole : EndedBlocksAreWhole
ended_blocks_are_whole loads once records h load there ended =
    let all = own_block loads once load there (contents records) h.rest h.text in
    (ended_is_whole load (entries_of load.item (contents records)) (entries_of load.item h.rest) all ended).0

pub ended_blocks_bring_deliveries : EndedBlocksBringDeliveries
ended_blocks_bring_deliveries loads once records h load there ended =
    ap (λ (z : List Entry). filter_map entry_delivery z) (ended_blocks_are_whole loads once records h load there ended) ∙ block_delivers load

pub ended_blocks_bring_periods : EndedBlocksBringPeriods
ended_blocks_bring_periods loads once records h load there ended period =
    ap (quantity_in period) (ended_blocks_bring_deliveries loads once records h load there ended)

pub ended_blocks_bring_totals : EndedBlocksBringTotals
ended_blocks_bring_totals loads once records h load there ended =
    moved_is_delivered (entries_of load.item (contents records)) ∙ ap total (ended_blocks_bring_deliveries loads once records h load there ended)

pub ended_items_are_done : EndedItemsAreDone
unfolding fronts_are_beginnings
ended_items_are_done loads once front more h load there ended =
    let begun = fronts_are_beginnings loads front more h in
    let all = own_block loads once load there (contents front) (contents more ++ h.rest) begun.text in
    let none : entries_of load.item (contents more ++ h.rest) ≡ [] =
    (ended_is_whole load (entries_of load.item (contents front)) (entries_of load.item (contents more ++ h.rest)) all ended).1 in
    (nil_front (entries_of load.item (contents more)) (entries_of load.item h.rest) (sym (filter-append (is_of load.item) (contents more) h.rest) ∙ none)).0
