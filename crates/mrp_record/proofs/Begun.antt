-- Records of a lane: a list of them in form is a legal beginning of the loads that it has brought so far.
use Rattle.std.proofs.Common.{◌≡◌, Bool, true, false, not, List, [], ◌∷◌, ◌++◌, inl, inr, refl, sym, ◌∙◌, ap, subst, length, get_or, map, append_assoc, arith}
use Rattle.std.specs.Prelude.{nat_lt}
use Rattle.std.specs.List.{All, AllByRecursion, Contains, IsDistinct, flat_map, list_any}
use Rattle.std.specs.List.Sorted.{IsPermutation}
use Rattle.std.proofs.lemmas.Bool.{cases_Bool, and_right, both_ways, not_from_true, false≢true}
use Rattle.std.proofs.lemmas.List.{append-nil, map-append}
use Rattle.std.proofs.lemmas.List.Concat.{flat_map-append}
use Rattle.std.proofs.lemmas.List.Elements.{All-head, All-tail, All-map, All-contains, Contains-append_left, Contains-append_right, Contains-get_or}
use Rattle.std.proofs.lemmas.List.Sorted.{IsPermutation-map, IsPermutation-sym, Contains-permutation}
use Rattle.mrp_record.specs.declared.record.Record.{Record}
use Rattle.mrp_record.specs.Entries.{Entry, LineOf, EndOf, ResetOf, Closing, content, contents, is_end, is_closing, is_ended, is_closed}
use Rattle.mrp_record.specs.Form.{FormItem, LaneForm, EntryFits, Continues, IsInForm}
use Rattle.mrp_record.specs.Laws.{AreLoads, is_same_load, form_item, is_same_form_item, IsTold, IsBegunBy, ListsInFormAreBeginnings}
use Rattle.mrp_record.specs.Text.{Load, block, text_of}
use Rattle.mrp_record.proofs.Beginnings.{ended_is_whole}
use Rattle.mrp_record.proofs.FormItems.{found_self}
use Rattle.mrp_record.proofs.Growing.{last_of, in_form_front, numbered, own_all, own_forms}
use Rattle.mrp_record.proofs.Orders.{own, IsResting, IsOrdered, rest_after, ordered}
use Rattle.mrp_record.proofs.Own.{list_any-append}
use Rattle.mrp_record.proofs.OwnFronts.{IsFront, load_by, block_front}
use Rattle.mrp_record.proofs.Told.{told}

-- ---- the loads that a list has brought so far

abbrev brought : List Entry → FormItem → Load
brought es i = load_by i (own es i)

abbrev loads_by : List Entry → List FormItem → List Load
loads_by es items = map (brought es) items

apart : (es : List Entry) (i : FormItem) (items : List FormItem) → AllByRecursion (λ j. is_same_form_item i j ≡ false) items
    → AllByRecursion (λ load. is_same_load (brought es i) load ≡ false) (loads_by es items)
apart es i [] h = tt
apart es i (j ∷ items) h = (h.0, apart es i items h.1)

are_loads : (es : List Entry) (items : List FormItem) → IsDistinct is_same_form_item items → AreLoads (loads_by es items)
unfolding IsDistinct
are_loads es [] h = tt
are_loads es (i ∷ items) h = (apart es i items h.0, are_loads es items h.1)

items_of : (es : List Entry) (items : List FormItem) → map form_item (loads_by es items) ≡ items
items_of es [] = refl
items_of es (i ∷ items) = ap (λ (z : List FormItem). i ∷ z) (items_of es items)

-- what an item has brought is the front of its block
abbrev IsBrought : List Entry → FormItem → Type 0
IsBrought es i = IsFront (own es i) (block (brought es i))

front_of : (form : LaneForm) → IsDistinct is_same_form_item form.items → (records : List Record) → IsInForm form records → (i : FormItem)
    → Contains form.items i → IsBrought (contents records) i
front_of form once records h i there =
    block_front form i (own (contents records) i) (own_all i.item (contents records)) (own_forms form records h i (found_self form.items i once there))

told_of : (form : LaneForm) → IsDistinct is_same_form_item form.items → (records : List Record) → IsInForm form records
    → All (IsTold form) (loads_by (contents records) form.items)
told_of form once records h =
    All-map (IsTold form) (brought (contents records)) form.items
    (λ k d l.
    let i = get_or form.items k d in
    told form i (own (contents records) i) (own_forms form records h i (found_self form.items i once (Contains-get_or form.items k d l))))

-- ---- whole blocks

blocks_of : (es : List Entry) (items : List FormItem) → flat_map block (loads_by es items) ≡ flat_map (λ i. block (brought es i)) items
blocks_of es [] = refl
blocks_of es (i ∷ items) = ap (λ (z : List Entry). block (brought es i) ++ z) (blocks_of es items)

whole_blocks : (es : List Entry) (items : List FormItem) → All (λ i. is_ended i.item es ≡ true) items → ((i : FormItem) → Contains items i → IsBrought es i)
    → flat_map (own es) items ≡ flat_map (λ i. block (brought es i)) items
whole_blocks es [] ended fronts = refl
whole_blocks es (i ∷ items) ended fronts =
    let front = fronts i (Contains-append_left (i ∷ []) items i (0, (omega arith), refl)) in
    let first : own es i ≡ block (brought es i) =
    (ended_is_whole (brought es i) (own es i) front.rest front.is (All-head (λ (j : FormItem). is_ended j.item es ≡ true) i items ended)).0 in
    let others = whole_blocks es items (All-tail (λ (j : FormItem). is_ended j.item es ≡ true) i items ended)
    (λ j there. fronts j (Contains-append_right (i ∷ []) items j there)) in
    ap (λ (z : List Entry). z ++ flat_map (own es) items) first ∙ ap (λ (z : List Entry). block (brought es i) ++ z) others

-- whole blocks and the front of what is still to do make a text with what is missing of it
filled : (es : List Entry) (done todo : List FormItem) (part rest : List Entry) → All (λ i. is_ended i.item es ≡ true) done
    → ((i : FormItem) → Contains done i → IsBrought es i)
    → es ≡ flat_map (own es) done ++ part → part ++ rest ≡ flat_map (λ i. block (brought es i)) todo
    → es ++ (rest ++ Closing ∷ []) ≡ text_of (loads_by es (done ++ todo))
filled es done todo part rest ended fronts is more =
    let last = Closing ∷ [] in
    let first = flat_map (own es) done in
    let blocks = λ (items : List FormItem). flat_map (λ (i : FormItem). block (brought es i)) items in
    ap (λ (z : List Entry). z ++ (rest ++ last)) is
    ∙ append_assoc first part (rest ++ last)
    ∙ ap (λ (z : List Entry). first ++ z) (sym (append_assoc part rest last) ∙ ap (λ (z : List Entry). z ++ last) more)
    ∙ ap (λ (z : List Entry). z ++ (blocks todo ++ last)) (whole_blocks es done ended fronts)
    ∙ sym (append_assoc (blocks done) (blocks todo) last)
    ∙ ap (λ (z : List Entry). z ++ last) (sym (flat_map-append (λ (i : FormItem). block (brought es i)) done todo))
    ∙ ap (λ (z : List Entry). z ++ last) (sym (blocks_of es (done ++ todo)))

-- ---- a legal beginning

begun_by : (form : LaneForm) → IsDistinct is_same_form_item form.items → (records : List Record) → IsInForm form records
    → (es rest : List Entry) (order : List FormItem)
    → All (IsTold form) (loads_by es form.items)
    → IsPermutation form.items order → contents records ++ rest ≡ text_of (loads_by es order) → IsBegunBy form records (loads_by es form.items)
begun_by form once records h es rest order telling permuted is = record {
  once = are_loads es form.items once;
  lane = ap (λ (z : List FormItem). let f : LaneForm = record { rising = form.rising; horizon = form.horizon; items = z } in f) (items_of es form.items);
  begun = record {
    numbered = numbered form records h;
    rest = rest;
    text = record { order = loads_by es order; once = IsPermutation-map (brought es) form.items order permuted; is = is };
  };
  told = telling;
}

-- the items of an order are those of the lane
among : (items done todo : List FormItem) → IsPermutation items (done ++ todo)
    → ((i : FormItem) → Contains done i → Contains items i) × ((i : FormItem) → Contains todo i → Contains items i)
among items done todo order =
    let back = IsPermutation-sym items (done ++ todo) order in (
      (λ i there. Contains-permutation (done ++ todo) items i back (Contains-append_left done todo i there)),
      (λ i there. Contains-permutation (done ++ todo) items i back (Contains-append_right done todo i there)),
    )

unclosed_begins : (form : LaneForm) → IsDistinct is_same_form_item form.items → (records : List Record) → IsInForm form records
    → is_closed (contents records) ≡ false
    → IsBegunBy form records (loads_by (contents records) form.items)
unclosed_begins form once records h unclosed = by (ordered form once records h unclosed)
  where
    by : IsOrdered form (contents records) → IsBegunBy form records (loads_by (contents records) form.items)
    by (inl r) =
        let es = contents records in
        let there = among form.items r.done r.todo r.order in
        let rest = flat_map (λ (i : FormItem). block (brought es i)) r.todo in
        begun_by form once records h es (rest ++ Closing ∷ []) (r.done ++ r.todo) (told_of form once records h) r.order
        (filled es r.done r.todo [] rest r.ended (λ i in'. front_of form once records h i (there.0 i in')) (r.is
        ∙ sym (append-nil (flat_map (own es) r.done))) refl)
    by (inr s) =
        let es = contents records in
        let i = s.item in
        let at = s.at in
        let there = among form.items at.done (i ∷ at.todo) at.order in
        let front = front_of form once records h i (there.1 i (Contains-append_left (i ∷ []) at.todo i (0, (omega arith), refl))) in
        let others = flat_map (λ (j : FormItem). block (brought es j)) at.todo in
        begun_by form once records h es ((front.rest ++ others) ++ Closing ∷ []) (at.done ++ i ∷ at.todo) (told_of form once records h) at.order
        (filled es at.done (i ∷ at.todo) (own es i) (front.rest ++ others) at.ended (λ j in'. front_of form once records h j (there.0 j in')) at.is
        (sym (append_assoc (own es i) front.rest others) ∙ ap (λ (z : List Entry). z ++ others) front.is))

-- ---- the closing record

closing_is : (e : Entry) → is_closing e ≡ true → e ≡ Closing
closing_is (LineOf item p q c) h = absurd (false≢true h)
closing_is (EndOf item n c) h = absurd (false≢true h)
closing_is (ResetOf item c) h = absurd (false≢true h)
closing_is Closing h = refl

-- before the closing record no block is open
all_rest : (form : LaneForm) (es : List Entry) → All (λ i. is_ended i.item es ≡ true) form.items → IsOrdered form es → IsResting form es
all_rest form es ended (inl r) = r
all_rest form es ended (inr s) =
    let there = (among form.items s.at.done (s.item ∷ s.at.todo) s.at.order).1 s.item
    (Contains-append_left (s.item ∷ []) s.at.todo s.item (0, (omega arith), refl)) in
    let done : is_ended s.item.item es ≡ true = All-contains (λ (i : FormItem). is_ended i.item es ≡ true) form.items s.item ended there in
    rest_after form es s.item s.at (and_right (nat_lt 0 (length (own es s.item))) (not (is_ended s.item.item es))
    (not_from_true (is_ended s.item.item es) done))

nothing_to_do : (es : List Entry) (todo : List FormItem) → All (λ i. own es i ≡ []) todo → ((i : FormItem) → Contains todo i → is_ended i.item es ≡ true)
    → todo ≡ []
nothing_to_do es [] none ended = refl
nothing_to_do es (i ∷ todo) none ended =
    let nothing : own es i ≡ [] = All-head (λ (j : FormItem). own es j ≡ []) i todo none in
    let done : is_ended i.item es ≡ true = ended i (Contains-append_left (i ∷ []) todo i (0, (omega arith), refl)) in
    absurd (false≢true (sym (ap (list_any is_end) nothing) ∙ done))

closed_begins : (form : LaneForm) → IsDistinct is_same_form_item form.items → (front : List Record) (r : Record) → IsInForm form (front ++ r ∷ [])
    → content r ≡ Closing
    → IsBegunBy form (front ++ r ∷ []) (loads_by (contents front) form.items)
closed_begins form once front r h closing =
    let es = contents front in
    let c : Continues form front r = h front [] r refl in
    let before = in_form_front form front (r ∷ []) h in
    let ended : All (λ (i : FormItem). is_ended i.item es ≡ true) form.items = subst (EntryFits form es) closing c.fits in
    let rested = all_rest form es ended (ordered form once front before c.unclosed) in
    let there = among form.items rested.done rested.todo rested.order in
    let none : rested.todo ≡ [] =
    nothing_to_do es rested.todo rested.unbegun (λ i in'. All-contains (λ (j : FormItem). is_ended j.item es ≡ true) form.items i ended (there.1 i in')) in
    let whole : es ++ Closing ∷ [] ≡ text_of (loads_by es (rested.done ++ rested.todo)) =
    filled es rested.done rested.todo [] [] rested.ended (λ i in'. front_of form once front before i (there.0 i in'))
    (rested.is ∙ sym (append-nil (flat_map (own es) rested.done)))
    (ap (λ (z : List FormItem). flat_map (λ (i : FormItem). block (brought es i)) z) (sym none)) in
    let parts : contents (front ++ r ∷ []) ≡ es ++ Closing ∷ [] = map-append content front (r ∷ []) ∙ ap (λ (z : Entry). es ++ z ∷ []) closing in
    begun_by form once (front ++ r ∷ []) h es [] (rested.done ++ rested.todo) (told_of form once front before) rested.order
    (append-nil (contents (front ++ r ∷ [])) ∙ parts ∙ whole)

-- ---- all lists in form

pub lists_in_form_are_beginnings : ListsInFormAreBeginnings
lists_in_form_are_beginnings form once records h = elim (cases_Bool (is_closed (contents records))) [
  | inr unclosed ↦ (loads_by (contents records) form.items, unclosed_begins form once records h unclosed)
  | inl closed ↦ elim (last_of records) [
    | inl none ↦ absurd (false≢true (sym (ap (λ (z : List Record). is_closed (contents z)) none) ∙ closed))
    | inr p ↦
        let h' : IsInForm form (p.front ++ p.last ∷ []) = subst (IsInForm form) p.is h in
        let c : Continues form p.front p.last = h' p.front [] p.last refl in
        let closing : content p.last ≡ Closing =
        elim (cases_Bool (is_closing (content p.last))) [
          | inl is ↦ closing_is (content p.last) is
          | inr other ↦
              let parts : contents records ≡ contents p.front ++ content p.last ∷ [] = ap contents p.is ∙ map-append content p.front (p.last ∷ []) in
              let none : is_closed (contents p.front ++ content p.last ∷ []) ≡ false =
              list_any-append is_closing (contents p.front) (content p.last ∷ []) c.unclosed (or_none (is_closing (content p.last)) other) in
              absurd (both_ways (is_closed (contents records)) (ap is_closed parts ∙ none) closed)
        ] in
        let begun = closed_begins form once p.front p.last h' closing in
        (loads_by (contents p.front) form.items, subst (λ (z : List Record). IsBegunBy form z (loads_by (contents p.front) form.items)) (sym p.is) begun)
  ]
]
  where
    or_none : (b : Bool) → b ≡ false → list_any (λ (c : Bool). c) (b ∷ []) ≡ false
    or_none b e = rw e refl
