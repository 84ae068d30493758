-- Records of a lane: what a sender's cursor shows is a legal beginning of them, a closed one
-- a whole text, and none is long.
use Rattle.std.proofs.Common.{◌≡◌, ℕ, ◌+◌, ◌*◌, ◌≤◌, suc, true, false, Some, None, Option, List, [], ◌∷◌, ◌++◌, ◌⊎◌, inl, inr, refl, sym, ◌∙◌, ap, subst}
use Rattle.std.proofs.Common.{length, get_or, map, take, drop, append_assoc, length-append, arith}
use Rattle.std.specs.Prelude.{slice_get}
use Rattle.std.specs.List.{Contains, flat_map, list_any, range_with_len}
use Rattle.std.specs.List.Sorted.{IsPermutation}
use Rattle.std.proofs.Math.Nat.{mul-le-mul_left, mul-suc}
use Rattle.std.proofs.lemmas.Bool.{cases_Bool}
use Rattle.std.proofs.lemmas.Grind.{flat_map-append}
use Rattle.std.proofs.lemmas.List.{append-nil, length-map, map-append, take_all, take-append-drop, nil_from_length}
use Rattle.std.proofs.lemmas.List.FromFn.{length-range_with_len}
use Rattle.std.proofs.lemmas.List.Sorted.{IsPermutation-map, IsPermutation-sym, Contains-permutation, length_permutation}
use Rattle.std.proofs.lemmas.List.Elements.{Contains-append_left}
use Rattle.std.proofs.lemmas.Option.{get_or_from_slice_get}
use Rattle.mrp_record.specs.declared.record.Record.{Record}
use Rattle.mrp_record.specs.Entries.{Entry, Closing, content, contents, is_closing, is_closed}
use Rattle.mrp_record.specs.Text.{Load, block, IsText}
use Rattle.mrp_record.specs.Lengths.{block_length}
use Rattle.mrp_record.proofs.Own.{AllOf-block, none_closing, list_any-append, list_any-front}
use Rattle.mrp_record.proofs.Running.{length-block}
use Rattle.mrp_master_data.proofs.Lists.{any_right}
use Rattle.mrp_record.specs.Cursor.{OutFigures, Goods, goods_load, blocks}
use Rattle.mrp_record.specs.CursorLaws.{Agrees, ShownBegin, ClosedIsShown, ClosedShowsWhole, ShownAreShort, SmallAreBounded, QueuedArePlaces}
use Rattle.mrp_record.specs.Shows.{ShowsSent, left_from, figure_at, reset_at}
use Rattle.mrp_record.proofs.Lists.{contains_there, drop_there, none_there, Contains-first, Contains-rest, elements_are, range_below}

-- ---- places

pub sizes_are : (size : ℕ) (queue later : List ℕ) → IsPermutation (range_with_len 0 size) (queue ++ later) → length queue + length later ≡ size
sizes_are size queue later h =
    sym (length-append queue later) ∙ length_permutation (range_with_len 0 size) (queue ++ later) h ∙ length-range_with_len 0 size

pub queued_are_places : QueuedArePlaces
queued_are_places goods o sent place h there =
    let back = IsPermutation-sym (range_with_len 0 o.size) (o.queue ++ h.later) h.places in
    range_below o.size place (Contains-permutation (o.queue ++ h.later) (range_with_len 0 o.size) place back (Contains-append_left o.queue h.later place there))

-- ---- what is left of the queued blocks

cases_there : {X : Type 0} (o : Option X) → ((x : X) × (o ≡ Some x)) ⊎ (o ≡ None)
cases_there None = inr refl
cases_there (Some x) = inl (x, refl)

regrouped : (front part left more all : List Entry) → all ≡ part ++ left → (front ++ part) ++ (left ++ more) ≡ front ++ (all ++ more)
regrouped front part left more all e =
    append_assoc front part (left ++ more)
    ∙ ap (λ (z : List Entry). front ++ z) (sym (append_assoc part left more) ∙ ap (λ (z : List Entry). z ++ more) (sym e))

pub blocks_there : (goods : ℕ → Goods) (queue : List ℕ) (head place : ℕ) → slice_get queue head ≡ Some place
    → blocks goods (take head queue) ++ (block (goods_load (goods place)) ++ blocks goods (drop (suc head) queue)) ≡ blocks goods queue
blocks_there goods queue head place at =
    let f : ℕ → List Entry = λ k. block (goods_load (goods k)) in
    sym (flat_map-append f (take head queue) (place ∷ drop (suc head) queue))
    ∙ ap (λ (z : List ℕ). flat_map f (take head queue ++ z)) (sym (drop_there queue head place at))
    ∙ ap (flat_map f) (take-append-drop head queue)

-- where the lane is open, the list and what is left make the queued blocks
pub queue_is_left : (goods : ℕ → Goods) (o : OutFigures) (sent : List Record) → ShowsSent goods o sent → o.closed ≡ false
    → (rest : List Entry) × (contents sent ++ rest ≡ blocks goods o.queue)
queue_is_left goods o sent h is_open = elim (cases_there (slice_get o.queue o.head)) [
  | inl there ↦
      let place = there.0 in
      let g = goods place in
      let part = h.within is_open place there.1 in
      let left = left_from g.item o.lines (figure_at o.anew o.moved g.opening) (reset_at o.anew g.reset) (g.from o.mark) in
      let more = blocks goods (drop (suc o.head) o.queue) in (
        left ++ more,
        ap (λ (z : List Entry). z ++ (left ++ more)) h.text ∙ regrouped (blocks goods (take o.head o.queue)) h.part left more (block (goods_load g)) part.whole
            ∙ blocks_there goods o.queue o.head place there.1,
      )
  | inr none ↦
      let past : length o.queue ≤ o.head = none_there o.queue o.head none in
      let all : o.head ≡ length o.queue = omega (arith, h.head) in
      let empty : h.part ≡ [] = (h.between is_open all).0 in (
        [],
        append-nil (contents sent) ∙ h.text ∙ ap (λ (z : List Entry). blocks goods (take o.head o.queue) ++ z) empty
            ∙ append-nil (blocks goods (take o.head o.queue))
            ∙ ap (blocks goods) (take_all o.head o.queue past),
      )
]

-- ---- the order of the blocks

-- the load of a place
abbrev pub load_at : Load → List Load → ℕ → Load
load_at d loads place = get_or loads place d

order_permutes : (d : Load) (loads : List Load) (size : ℕ) (queue later : List ℕ) → length loads ≡ size → IsPermutation (range_with_len 0 size) (queue ++ later)
    → IsPermutation loads (map (load_at d loads) queue ++ map (load_at d loads) later)
order_permutes d loads size queue later e h =
    let f = load_at d loads in
    let p = IsPermutation-map f (range_with_len 0 size) (queue ++ later) h in
    subst (λ (z : List Load). IsPermutation z (map f queue ++ map f later)) (elements_are d loads size e)
    (subst (λ (z : List Load). IsPermutation (map f (range_with_len 0 size)) z) (map-append f queue later) p)

blocks_agree : (goods : ℕ → Goods) (f : ℕ → Load) (places : List ℕ) → ((place : ℕ) → Contains places place → f place ≡ goods_load (goods place))
    → flat_map block (map f places) ≡ blocks goods places
blocks_agree goods f [] h = refl
blocks_agree goods f (place ∷ places) h =
    ap (λ (z : Load). block z ++ flat_map block (map f places)) (h place (Contains-first place places))
    ∙ ap (λ (z : List Entry). block (goods_load (goods place)) ++ z) (blocks_agree goods f places (λ k there. h k (Contains-rest place places k there)))

-- the blocks of the places that aren't queued
abbrev pub later_blocks : Load → List Load → List ℕ → List Entry
later_blocks d loads later = flat_map block (map (load_at d loads) later)

-- what makes the queued blocks is a prefix of a text
pub text_goes_on : (goods : ℕ → Goods) (o : OutFigures) (loads : List Load) (later : List ℕ) (entries : List Entry) → Agrees goods o loads
    → IsPermutation (range_with_len 0 o.size) (o.queue ++ later)
    → entries ≡ blocks goods o.queue → IsText loads (entries ++ (later_blocks (goods_load (goods 0)) loads later ++ Closing ∷ []))
text_goes_on goods o loads later entries agrees places e =
    let d = goods_load (goods 0) in
    let f = load_at d loads in
    let rest = later_blocks d loads later in
    let last = Closing ∷ [] in
    let same : flat_map block (map f o.queue) ≡ blocks goods o.queue =
    blocks_agree goods f o.queue (λ place there. get_or_from_slice_get loads place (goods_load (goods place)) d (agrees.queued place there)) in
    let front : entries ≡ flat_map block (map f o.queue) = e ∙ sym same in
    record {
      order = map f o.queue ++ map f later;
      once = order_permutes d loads o.size o.queue later agrees.size places;
      is =
          ap (λ (z : List Entry). z ++ (rest ++ last)) front
          ∙ sym (append_assoc (flat_map block (map f o.queue)) rest last)
          ∙ ap (λ (z : List Entry). z ++ last) (sym (flat_map-append block (map f o.queue) (map f later)));
    }

-- ---- closed lists

-- the list of a closed lane is all queued blocks and the closing record
pub closed_text : (goods : ℕ → Goods) (o : OutFigures) (sent : List Record) → ShowsSent goods o sent → o.closed ≡ true
    → contents sent ≡ blocks goods o.queue ++ Closing ∷ []
closed_text goods o sent h closed =
    let after = h.after closed in
    h.text
    ∙ ap (λ (z : List Entry). blocks goods (take o.head o.queue) ++ z) after.2
    ∙ ap (λ (z : List ℕ). blocks goods z ++ Closing ∷ []) (take_all o.head o.queue (omega (arith, after.0)))

pub whole_text : (goods : ℕ → Goods) (o : OutFigures) (sent : List Record) → ShowsSent goods o sent → o.closed ≡ true → (loads : List Load)
    → Agrees goods o loads → IsText loads (contents sent)
whole_text goods o sent h closed loads agrees =
    let after = h.after closed in
    let none : h.later ≡ [] = nil_from_length h.later (omega (arith, sizes_are o.size o.queue h.later h.places, after.1)) in
    let text = text_goes_on goods o loads h.later (blocks goods o.queue) agrees h.places refl in
    let d = goods_load (goods 0) in
    let short : blocks goods o.queue ++ (later_blocks d loads h.later ++ Closing ∷ []) ≡ contents sent =
    ap (λ (z : List ℕ). blocks goods o.queue ++ (later_blocks d loads z ++ Closing ∷ [])) none ∙ sym (closed_text goods o sent h closed) in
    subst (IsText loads) short text

pub closed_shows_whole : ClosedShowsWhole
closed_shows_whole goods o sent h closed loads agrees = record { numbered = h.numbers; text = whole_text goods o sent h closed loads agrees }

-- ---- legal beginnings

-- what an open lane's text goes on with
pub open_text : (goods : ℕ → Goods) (o : OutFigures) (sent : List Record) → (h : ShowsSent goods o sent) → (rest : List Entry)
    → contents sent ++ rest ≡ blocks goods o.queue
    → (loads : List Load) → Agrees goods o loads → IsText loads (contents sent ++ (rest ++ (later_blocks (goods_load (goods 0)) loads h.later ++ Closing ∷ [])))
open_text goods o sent h rest e loads agrees =
    let d = goods_load (goods 0) in
    subst (IsText loads) (append_assoc (contents sent) rest (later_blocks d loads h.later ++ Closing ∷ []))
    (text_goes_on goods o loads h.later (contents sent ++ rest) agrees h.places e)

pub shown_begin : ShownBegin
shown_begin goods o sent h loads agrees = elim (cases_Bool o.closed) [
  | inl closed ↦
      record {
        numbered = h.numbers;
        rest = [];
        text = subst (IsText loads) (sym (append-nil (contents sent))) (whole_text goods o sent h closed loads agrees);
      }
  | inr is_open ↦
      let left = queue_is_left goods o sent h is_open in
      record {
        numbered = h.numbers;
        rest = left.0 ++ (later_blocks (goods_load (goods 0)) loads h.later ++ Closing ∷ []);
        text = open_text goods o sent h left.0 left.1 loads agrees;
      }
]

-- ---- which lists are closed

no_closing : (goods : ℕ → Goods) (places : List ℕ) → list_any is_closing (blocks goods places) ≡ false
no_closing goods [] = refl
no_closing goods (place ∷ places) =
    let load = goods_load (goods place) in
    list_any-append is_closing (block load) (blocks goods places) (none_closing load.item (block load) (AllOf-block load)) (no_closing goods places)

pub closed_is_shown : ClosedIsShown
closed_is_shown goods o sent h = elim (cases_Bool o.closed) [
  | inl closed ↦
      let said : is_closed (blocks goods o.queue ++ Closing ∷ []) ≡ true = any_right is_closing (blocks goods o.queue) (Closing ∷ []) refl in
      closed ∙ sym (ap is_closed (closed_text goods o sent h closed) ∙ said)
  | inr is_open ↦
      let left = queue_is_left goods o sent h is_open in
      let none : is_closed (contents sent ++ left.0) ≡ false = ap is_closed left.1 ∙ no_closing goods o.queue in
      is_open ∙ sym (list_any-front is_closing (contents sent) left.0 none)
]

-- ---- lengths

blocks_are_short : (goods : ℕ → Goods) (most : ℕ) (places : List ℕ) → ((place : ℕ) → Contains places place → block_length (goods_load (goods place)) ≤ most)
    → length (blocks goods places) ≤ most * length places
blocks_are_short goods most [] h = omega arith
blocks_are_short goods most (place ∷ places) h =
    let load = goods_load (goods place) in
    let one : most * suc (length places) ≡ most * length places + most = mul-suc most (length places) in
    omega (
      arith,
      one,
      length-append (block load) (blocks goods places),
      length-block load,
      h place (Contains-first place places),
      blocks_are_short goods most places (λ k there. h k (Contains-rest place places k there)),
    )

pub shown_are_short : ShownAreShort
shown_are_short goods o sent most h small =
    let few = blocks_are_short goods most o.queue small in
    let sizes = sizes_are o.size o.queue h.later h.places in
    let within : most * length o.queue ≤ most * o.size = mul-le-mul_left most (omega arith) in
    let sent_size : length (contents sent) ≡ length sent = length-map sent content in
    elim (cases_Bool o.closed) [
      | inl closed ↦
          omega (arith, few, within, sent_size, ap length (closed_text goods o sent h closed), length-append (blocks goods o.queue) (Closing ∷ []))
      | inr is_open ↦
          let left = queue_is_left goods o sent h is_open in
          omega (arith, few, within, sent_size, ap length left.1, length-append (contents sent) left.0)
    ]

pub small_are_bounded : SmallAreBounded
small_are_bounded goods o sent most h small room =
    record {
      number = omega (arith, h.next, shown_are_short goods o sent most h (λ place there. (small place there).1));
      head = λ place at. (small place (contains_there o.queue o.head place at)).0;
    }
