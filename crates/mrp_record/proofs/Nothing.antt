-- Records of a lane: where a sender's cursor gives none, none can be sent.
use Rattle.std.proofs.Common.{◌≡◌, ℕ, ◌<◌, ◌≤◌, cond, Bool, true, false, Some, None, List, [], ◌∷◌, ◌++◌, ◌⊎◌, inl, inr, refl, sym, ◌∙◌, ap, subst, length}
use Rattle.std.proofs.Common.{take, drop, suc, length-append, arith}
use Rattle.std.specs.Prelude.{slice_get, nat_lt, ◌||◌}
use Rattle.std.specs.List.{Contains, list_any, filter}
use Rattle.std.proofs.lemmas.Bool.{cases_Bool, or_cases, ltb-true, eq-eqb}
use Rattle.std.proofs.lemmas.List.{append-nil, length-map, take_all}
use Rattle.std.proofs.lemmas.List.Elements.{filter-append}
use Rattle.std.proofs.lemmas.Option.{slice_get_read}
use Rattle.mrp_record.specs.declared.record.Record.{Record}
use Rattle.mrp_record.specs.declared.record.Record.TheVariants.{Close}
use Rattle.mrp_record.specs.Entries.{Entry, LineOf, EndOf, ResetOf, Closing, content, contents, is_of, is_end, entries_of, is_ended}
use Rattle.mrp_record.specs.Laws.{AreLoads}
use Rattle.mrp_record.specs.Text.{Load, block, body, last_figure, IsBeginning}
use Rattle.mrp_record.proofs.Beginnings.{closed_is_whole, texts_have_one_length, beginnings_are_no_longer, ended_items_are_done}
use Rattle.mrp_record.proofs.Own.{AllOf-block, own_kept}
use Rattle.mrp_record.proofs.Running.{length-block}
use Rattle.mrp_master_data.proofs.Lists.{any_left, any_right}
use Rattle.mrp_record.specs.Cursor.{OutFigures, Goods, goods_load, blocks}
use Rattle.mrp_record.specs.CursorLaws.{Agrees, IsQueued, MaySend, NoneIsLeft}
use Rattle.mrp_record.specs.Shows.{ShowsSent}
use Rattle.mrp_record.proofs.Lists.{none_there, contains_there}
use Rattle.mrp_record.proofs.Texts.{sizes_are, blocks_there, load_at, later_blocks, whole_text, open_text}

-- all queued blocks were sent
all_sent : (goods : ℕ → Goods) (o : OutFigures) (sent : List Record) → ShowsSent goods o sent → o.closed ≡ false → o.head ≡ length o.queue
    → contents sent ≡ blocks goods o.queue
all_sent goods o sent h is_open all =
    h.text
    ∙ ap (λ (z : List Entry). blocks goods (take o.head o.queue) ++ z) (h.between is_open all).0
    ∙ append-nil (blocks goods (take o.head o.queue))
    ∙ ap (blocks goods) (take_all o.head o.queue (omega arith))

-- ---- an item whose block was sent is ended

block_ends : (load : Load) → is_ended load.item (block load) ≡ true
block_ends load =
    let last = EndOf load.item (length load.lines) (last_figure load.opening load.reset load.lines) in
    ap (list_any is_end) (own_kept load.item (block load) (AllOf-block load))
    ∙ any_right is_end (body load.item load.opening load.reset load.lines) (last ∷ []) refl

ended_within : (item : ℕ) (before own after : List Entry) → is_ended item own ≡ true → is_ended item (before ++ (own ++ after)) ≡ true
ended_within item before own after h =
    let test = is_of item in
    let parts : filter test (before ++ (own ++ after)) ≡ filter test before ++ (filter test own ++ filter test after) =
    filter-append test before (own ++ after) ∙ ap (λ (z : List Entry). filter test before ++ z) (filter-append test own after) in
    ap (list_any is_end) parts
    ∙ any_right is_end (filter test before) (filter test own ++ filter test after) (any_left is_end (filter test own) (filter test after) h)

ended_there : (goods : ℕ → Goods) (queue : List ℕ) (place : ℕ) → Contains queue place → is_ended (goods place).item (blocks goods queue) ≡ true
ended_there goods queue place there =
    let load = goods_load (goods place) in
    let at = slice_get_read queue (length queue) there.0 place refl there.1 (sym there.2) in
    ap (is_ended load.item) (sym (blocks_there goods queue there.0 place at))
    ∙ ended_within load.item (blocks goods (take there.0 queue)) (block load) (blocks goods (drop (suc there.0) queue)) (block_ends load)

-- ---- no item's record

own_item : (goods : ℕ → Goods) (o : OutFigures) (e : Entry) → MaySend goods o e → (e ≡ Closing) ⊎ ((item : ℕ) × IsQueued goods o item × (is_of item e ≡ true))
own_item goods o (LineOf item period quantity cumulative) h = inr (item, h, eq-eqb item item refl)
own_item goods o (EndOf item lines cumulative) h = inr (item, h, eq-eqb item item refl)
own_item goods o (ResetOf item closed) h = inr (item, h, eq-eqb item item refl)
own_item goods o Closing h = inl refl

none_kept : (item : ℕ) (e : Entry) → is_of item e ≡ true → entries_of item (e ∷ []) ≡ [] → ⊥
none_kept item e own none =
    let kept : entries_of item (e ∷ []) ≡ e ∷ [] = ap (λ (b : Bool). cond b (e ∷ []) []) own in
    cc

no_record_of : (goods : ℕ → Goods) (o : OutFigures) (sent : List Record) (r : Record) (item : ℕ) → contents sent ≡ blocks goods o.queue → IsQueued goods o item
    → is_of item (content r) ≡ true
    → (loads : List Load) → AreLoads loads → Agrees goods o loads → IsBeginning loads (sent ++ r ∷ []) → ⊥
no_record_of goods o sent r item all q own loads once agrees begins =
    let load = goods_load (goods q.place) in
    let there : Contains loads load = contains_there loads q.place load (agrees.queued q.place q.there) in
    let ended : is_ended load.item (contents sent) ≡ true = ap (is_ended load.item) all ∙ ended_there goods o.queue q.place q.there in
    let none = ended_items_are_done loads once sent (r ∷ []) begins load there ended in
    none_kept item (content r) own (subst (λ (i : ℕ). entries_of i (content r ∷ []) ≡ []) q.is none)

-- ---- not the closing record

some_block : (d : Load) (loads : List Load) (later : List ℕ) → 1 ≤ length later → 1 ≤ length (later_blocks d loads later)
some_block d loads [] h = absurd (omega arith)
some_block d loads (place ∷ later) h =
    let load = load_at d loads place in
    omega (arith, length-append (block load) (later_blocks d loads later), length-block load)

no_closing_record : (goods : ℕ → Goods) (o : OutFigures) (sent : List Record) (r : Record) → (h : ShowsSent goods o sent) → contents sent ≡ blocks goods o.queue
    → 1 ≤ length h.later → content r ≡ Closing
    → (loads : List Load) → Agrees goods o loads → IsBeginning loads (sent ++ r ∷ []) → ⊥
no_closing_record goods o sent r h all some closing loads agrees begins =
    let d = goods_load (goods 0) in
    let blocks_left = later_blocks d loads h.later in
    let whole = closed_is_whole loads sent r closing begins in
    let one = texts_have_one_length loads (contents (sent ++ r ∷ [])) whole.text in
    let other = texts_have_one_length loads (contents sent ++ (blocks_left ++ Closing ∷ []))
    (open_text goods o sent h [] (append-nil (contents sent) ∙ all) loads agrees) in
    omega (
      arith,
      one,
      other,
      some_block d loads h.later some,
      length-map sent content,
      length-map (sent ++ r ∷ []) content,
      length-append sent (r ∷ []),
      length-append (contents sent) (blocks_left ++ Closing ∷ []),
      length-append blocks_left (Closing ∷ []),
    )

-- ---- none at all

no_more : (goods : ℕ → Goods) (o : OutFigures) (sent : List Record) → ShowsSent goods o sent → o.closed ≡ true → (loads : List Load) → Agrees goods o loads
    → (r : Record) → IsBeginning loads (sent ++ r ∷ []) → ⊥
no_more goods o sent h closed loads agrees r begins =
    omega (
      arith,
      texts_have_one_length loads (contents sent) (whole_text goods o sent h closed loads agrees),
      beginnings_are_no_longer loads (sent ++ r ∷ []) begins,
      length-map sent content,
      length-append sent (r ∷ []),
    )

none_is_given : (b : Bool) (c : Record) → cond b None (Some c) ≡ None → b ≡ true
none_is_given true c e = refl
none_is_given false c e = absurd (cc)

nothing_open : (goods : ℕ → Goods) (o : OutFigures) (sent : List Record) → ShowsSent goods o sent → slice_get o.queue o.head ≡ None → o.closed ≡ false
    → o.head < o.size
    → (loads : List Load) → AreLoads loads → Agrees goods o loads → (r : Record) → MaySend goods o (content r) → IsBeginning loads (sent ++ r ∷ []) → ⊥
nothing_open goods o sent h left is_open more loads once agrees r may begins =
    let all : o.head ≡ length o.queue = omega (arith, h.head, none_there o.queue o.head left) in
    let blocks_sent = all_sent goods o sent h is_open all in
    elim (own_item goods o (content r) may) [
      | inl closing ↦
          let some : 1 ≤ length h.later = omega (arith, sizes_are o.size o.queue h.later h.places) in
          no_closing_record goods o sent r h blocks_sent some closing loads agrees begins
      | inr own ↦ no_record_of goods o sent r own.0 blocks_sent own.1 own.2 loads once agrees begins
    ]

pub none_is_left : NoneIsLeft
none_is_left goods o sent None h left is loads once agrees r may begins =
    elim (cases_Bool o.closed) [
      | inl closed ↦ no_more goods o sent h closed loads agrees r begins
      | inr is_open ↦
          elim (or_cases o.closed (nat_lt o.head o.size) (none_is_given (o.closed || nat_lt o.head o.size) (Close o.next) is)) [
            | inl closed ↦ no_more goods o sent h closed loads agrees r begins
            | inr more ↦ nothing_open goods o sent h left is_open (ltb-true o.head o.size more) loads once agrees r may begins
          ]
    ]
none_is_left goods o sent (Some rest) h left is loads once agrees r may begins = absurd (cc)
