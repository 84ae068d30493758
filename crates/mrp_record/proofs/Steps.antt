-- Records of a lane: after each step a sender's cursor shows the list with the record that it gave.
use Rattle.std.proofs.Common.{◌≡◌, ℕ, ◌+◌, ◌^◌, ◌<◌, ◌≤◌, min, cond, suc, Bool, true, false, Some, None, Option, List, [], ◌∷◌, ◌++◌, inl, inr, refl, sym, ◌∙◌}
use Rattle.std.proofs.Common.{ap, subst, length, take, append_assoc, length-append, arith}
use Rattle.std.specs.Prelude.{slice_get, nat_lt, ◌||◌}
use Rattle.std.specs.List.{Contains, flat_map}
use Rattle.std.proofs.lemmas.Bool.{cases_Bool, both_ways, false≢true, or_parts, ltb-false}
use Rattle.std.proofs.lemmas.Grind.{flat_map-append}
use Rattle.std.proofs.lemmas.List.{append-nil, map-append}
use Rattle.std.proofs.lemmas.Option.{slice_get_within}
use Rattle.mrp_record.specs.declared.record.Record.{Record}
use Rattle.mrp_record.specs.declared.record.Record.TheVariants.{Close}
use Rattle.mrp_record.specs.Entries.{Entry, LineOf, EndOf, ResetOf, Closing, Delivery, number_of, content, contents}
use Rattle.mrp_record.specs.Form.{is_anew}
use Rattle.mrp_record.specs.Text.{Load, block, total, NumberedFrom}
use Rattle.mrp_record.specs.declared.remainder.Due.{Due}
use Rattle.mrp_record.specs.declared.remainder.Due.TheVariants.{Moving, Restarting, Ending}
use Rattle.mrp_record.specs.declared.remainder.NextLine.{NextLine}
use Rattle.mrp_record.specs.declared.remainder.Remainder.{Remainder}
use Rattle.mrp_record.specs.Cursor.{OutFigures, Goods, goods_load, blocks}
use Rattle.mrp_record.specs.CursorLaws.{IsSmallGoods, Agrees, IsBounded, IsQueued, MaySend, GivenContinues, StepsKeepPlaces, StepsShow}
use Rattle.mrp_record.specs.Next.{IsNextLine, IsRemainder, IsWhatIsLeft, due, added, figure_said, record_due, next_record, stepped_by, stepped}
use Rattle.mrp_record.specs.Shows.{ShowsSent, IsPart, figure_at, reset_at}
use Rattle.mrp_record.proofs.Dues.{line_is_due, reset_is_due, end_is_due, reset_is_next}
use Rattle.mrp_record.proofs.Lists.{take_there, none_there, contains_there, same_there}
use Rattle.mrp_record.proofs.Parts.{part_fresh, part_line, part_reset, part_end, total-cons}
use Rattle.mrp_record.proofs.Texts.{sizes_are, shown_begin}

-- ---- one record more

numbers_more : (n : ℕ) (sent : List Record) (r : Record) → NumberedFrom n sent → number_of r ≡ n + length sent → NumberedFrom n (sent ++ r ∷ [])
numbers_more n [] r h e = ((omega (arith, e)), tt)
numbers_more n (s ∷ sent) r h e = (h.0, numbers_more (n + 1) sent r h.1 (omega (arith, e)))

contents_more : (sent : List Record) (r : Record) (front part : List Entry) (e : Entry) → contents sent ≡ front ++ part → content r ≡ e
    → contents (sent ++ r ∷ []) ≡ front ++ (part ++ e ∷ [])
contents_more sent r front part e text is =
    map-append content sent (r ∷ [])
    ∙ ap (λ (z : Entry). contents sent ++ z ∷ []) is
    ∙ ap (λ (z : List Entry). z ++ e ∷ []) text
    ∙ append_assoc front part (e ∷ [])

added_is : (a b : ℕ) → a + b < 2 ^ 64 → added a b ≡ a + b
added_is a b h = omega arith

next_more : (next : ℕ) (sent : List Record) (r : Record) → next ≡ length sent + 1 → next + 1 < 2 ^ 64 → added next 1 ≡ length (sent ++ r ∷ []) + 1
next_more next sent r e h = added_is next 1 h ∙ omega (arith, length-append sent (r ∷ []))

-- where a block is at the head the lane is open
open_there : (goods : ℕ → Goods) (o : OutFigures) (sent : List Record) (place : ℕ) → ShowsSent goods o sent → slice_get o.queue o.head ≡ Some place
    → o.closed ≡ false
open_there goods o sent place h at = elim (cases_Bool o.closed) [
  | inl closed ↦ absurd (omega (arith, (h.after closed).0, slice_get_within o.queue o.head place at))
  | inr is_open ↦ is_open
]

-- ---- what is said within bounds

said_is : (anew : Bool) (moved opening : ℕ) → opening + moved < 2 ^ 64 → figure_said anew moved opening ≡ figure_at anew moved opening
said_is true moved opening h = refl
said_is false moved opening h = added_is opening moved h

figure_within : (anew : Bool) (moved opening : ℕ) → figure_at anew moved opening ≤ opening + moved
figure_within true moved opening = omega arith
figure_within false moved opening = omega arith

line_said : (anew : Bool) (moved quantity said opening item place period : ℕ) → place ≡ item → said ≡ opening → (opening + moved) + quantity < 2 ^ 64
    → LineOf place period quantity (added (figure_said anew moved said) quantity) ≡ LineOf item period quantity (figure_at anew moved opening + quantity)
line_said anew moved quantity said opening item place period e f h =
    let figure : figure_said anew moved opening ≡ figure_at anew moved opening = said_is anew moved opening (omega arith) in
    let sum : added (figure_at anew moved opening) quantity ≡ figure_at anew moved opening + quantity =
    added_is (figure_at anew moved opening) quantity (omega (arith, figure_within anew moved opening)) in
    ap (λ (i : ℕ). LineOf i period quantity (added (figure_said anew moved said) quantity)) e
    ∙ ap (λ (i : ℕ). LineOf item period quantity (added (figure_said anew moved i) quantity)) f
    ∙ ap (λ (i : ℕ). LineOf item period quantity (added i quantity)) figure
    ∙ ap (LineOf item period quantity) sum

end_said : (anew : Bool) (moved said opening item place lines : ℕ) → place ≡ item → said ≡ opening → opening + moved < 2 ^ 64
    → EndOf place lines (figure_said anew moved said) ≡ EndOf item lines (figure_at anew moved opening)
end_said anew moved said opening item place lines e f h =
    ap (λ (i : ℕ). EndOf i lines (figure_said anew moved said)) e
    ∙ ap (λ (i : ℕ). EndOf item lines (figure_said anew moved i)) f
    ∙ ap (EndOf item lines) (said_is anew moved opening h)

reset_said : (moved said opening item place : ℕ) → place ≡ item → said ≡ opening → opening + moved < 2 ^ 64
    → ResetOf place (figure_said false moved said) ≡ ResetOf item (opening + moved)
reset_said moved said opening item place e f h =
    ap (λ (i : ℕ). ResetOf i (figure_said false moved said)) e
    ∙ ap (λ (i : ℕ). ResetOf item (figure_said false moved i)) f
    ∙ ap (ResetOf item) (said_is false moved opening h)

-- ---- the steps of a block

-- the part of the block at the head grows by a record
further_in_block : (goods : ℕ → Goods) (o : OutFigures) (sent : List Record) (place : ℕ) (r : Record) (entry : Entry) (mark lines moved : ℕ) (anew : Bool)
    → (h : ShowsSent goods o sent) → IsBounded goods o → slice_get o.queue o.head ≡ Some place → number_of r ≡ o.next → content r ≡ entry
    → IsPart (goods place) mark lines moved anew (h.part ++ entry ∷ [])
    → ShowsSent goods (record o { next = added o.next 1; mark = mark; lines = lines; moved = moved; anew = anew }) (sent ++ r ∷ [])
further_in_block goods o sent place r entry mark lines moved anew h small at number said grown =
    record {
      numbers = numbers_more 1 sent r h.numbers (omega (arith, number, h.next));
      next = next_more o.next sent r h.next small.number;
      later = h.later;
      places = h.places;
      head = h.head;
      part = h.part ++ entry ∷ [];
      text = contents_more sent r (blocks goods (take o.head o.queue)) h.part entry h.text said;
      within = λ _ other there.
          subst (λ (k : ℕ). IsPart (goods k) mark lines moved anew (h.part ++ entry ∷ [])) (same_there o.queue o.head place other at there) grown;
      between = λ _ all. absurd (omega (arith, all, slice_get_within o.queue o.head place at));
      after = λ closed. absurd (both_ways o.closed (open_there goods o sent place h at) closed);
    }

-- a whole block is one more
block_more : (goods : ℕ → Goods) (queue : List ℕ) (head place : ℕ) (part : List Entry) (e : Entry) → slice_get queue head ≡ Some place
    → block (goods_load (goods place)) ≡ part ++ e ∷ []
    → blocks goods (take head queue) ++ (part ++ e ∷ []) ≡ blocks goods (take (suc head) queue) ++ []
block_more goods queue head place part e at is =
    let f : ℕ → List Entry = λ k. block (goods_load (goods k)) in
    ap (λ (z : List Entry). blocks goods (take head queue) ++ z) (sym is ∙ sym (append-nil (f place)))
    ∙ sym (flat_map-append f (take head queue) (place ∷ []))
    ∙ ap (flat_map f) (sym (take_there queue head place at))
    ∙ sym (append-nil (blocks goods (take (suc head) queue)))

-- what is left of the item that is sent decides the next record
module _ (goods : ℕ → Goods) (o : OutFigures) (sent : List Record) (place : ℕ) (left : Remainder)
    (h : ShowsSent goods o sent) (small : IsBounded goods o) (at : slice_get o.queue o.head ≡ Some place) (rest : IsRemainder (goods place) o.mark left) where
  abbrev g : Goods
  g = goods place

  is_open : o.closed ≡ false
  is_open = open_there goods o sent place h at

  part : IsPart g o.mark o.lines o.moved o.anew h.part
  part = h.within is_open place at

  bounds : IsSmallGoods g
  bounds = small.head place at

  after_line : (line : NextLine) → due o.anew left ≡ Moving line → ShowsSent goods (stepped_by o (Moving line)) (sent ++ record_due o left (Moving line) ∷ [])
  after_line line what =
      let facts = line_is_due o.anew left.reset left.line line what in
      let delivery : Delivery = record { period = line.period; quantity = line.quantity } in
      let next : g.from o.mark ≡ delivery ∷ g.from line.after = subst (IsNextLine g.from o.mark) facts.0 rest.line in
      let side : is_anew (reset_at o.anew g.reset) line.period ≡ false =
      subst (λ (z : Option ℕ). is_anew (reset_at o.anew z) line.period ≡ false) rest.reset facts.1 in
      let pieces : o.moved + (line.quantity + total (g.from line.after)) ≤ total (g.from 0) =
      omega (arith, part.pieces, ap total next, total-cons delivery (g.from line.after)) in
      let count : suc (length (g.from line.after)) ≡ length (g.from o.mark) = sym (ap length next) in
      let lines : added o.lines 1 ≡ o.lines + 1 = added_is o.lines 1 (omega (arith, part.lines, bounds.lines, count)) in
      let moved : added o.moved line.quantity ≡ o.moved + line.quantity = added_is o.moved line.quantity (omega (arith, bounds.figures, pieces)) in
      let entry = LineOf g.item line.period line.quantity (figure_at o.anew o.moved g.opening + line.quantity) in
      let r = record_due o left (Moving line) in
      let said : content r ≡ entry =
      line_said o.anew o.moved line.quantity left.opening g.opening g.item left.item.0 line.period rest.item rest.opening
      (omega (arith, bounds.figures, pieces)) in
      let grown = part_line g o.mark line.after o.lines o.moved o.anew h.part delivery part next side in
      let grown_there : IsPart g line.after (added o.lines 1) (added o.moved line.quantity) o.anew (h.part ++ entry ∷ []) =
      subst (λ (m : ℕ). IsPart g line.after m (added o.moved line.quantity) o.anew (h.part ++ entry ∷ [])) (sym lines)
      (subst (λ (m : ℕ). IsPart g line.after (o.lines + 1) m o.anew (h.part ++ entry ∷ [])) (sym moved) grown) in
      further_in_block goods o sent place r entry line.after (added o.lines 1) (added o.moved line.quantity) o.anew h small at refl said grown_there

  after_reset : due o.anew left ≡ Restarting → ShowsSent goods (stepped_by o Restarting) (sent ++ record_due o left Restarting ∷ [])
  after_reset what =
      let facts = reset_is_due o.anew left.reset left.line what in
      let part = subst (λ (b : Bool). IsPart g o.mark o.lines o.moved b h.part) facts.0 (h.within is_open place at) in
      let next = reset_is_next g.from o.mark left.reset left.line rest.line facts.1 in
      let entry = ResetOf g.item (g.opening + o.moved) in
      let r = record_due o left Restarting in
      let old : content r ≡ ResetOf left.item.0 (figure_said false o.moved left.opening) =
      ap (λ (b : Bool). ResetOf left.item.0 (figure_said b o.moved left.opening)) facts.0 in
      let said : content r ≡ entry = old ∙ reset_said o.moved left.opening g.opening g.item left.item.0 rest.item rest.opening
      (omega (arith, bounds.figures, part.pieces)) in
      let grown = part_reset g o.mark o.lines o.moved next.0 h.part part (sym rest.reset ∙ next.1) next.2 in
      further_in_block goods o sent place r entry o.mark o.lines 0 true h small at refl said grown

  after_end : due o.anew left ≡ Ending → ShowsSent goods (stepped_by o Ending) (sent ++ record_due o left Ending ∷ [])
  after_end what =
      let facts = end_is_due o.anew left.reset left.line what in
      let none : g.from o.mark ≡ [] = subst (IsNextLine g.from o.mark) facts.0 rest.line in
      let entry = EndOf g.item o.lines (figure_at o.anew o.moved g.opening) in
      let r = record_due o left Ending in
      let said : content r ≡ entry = end_said o.anew o.moved left.opening g.opening g.item left.item.0 o.lines rest.item rest.opening
      (omega (arith, bounds.figures, part.pieces)) in
      let whole = part_end g o.mark o.lines o.moved o.anew h.part part none (ap (reset_at o.anew) (sym rest.reset) ∙ facts.1) in
      let inside = slice_get_within o.queue o.head place at in
      let head : min (o.head + 1) (length o.queue) ≡ suc o.head = omega (arith, inside) in
      let text = contents_more sent r (blocks goods (take o.head o.queue)) h.part entry h.text said
      ∙ block_more goods o.queue o.head place h.part entry at whole in
      record {
        numbers = numbers_more 1 sent r h.numbers (omega (arith, h.next));
        next = next_more o.next sent r h.next small.number;
        later = h.later;
        places = h.places;
        head = omega arith;
        part = [];
        text = text ∙ ap (λ (n : ℕ). blocks goods (take n o.queue) ++ []) (sym head);
        within = λ _ other _. part_fresh (goods other);
        between = λ _ _. (refl, record { mark = refl; lines = refl; moved = refl; anew = refl });
        after = λ closed. absurd (both_ways o.closed is_open closed);
      }

-- ---- the closing record

given_if : (b : Bool) (c r : Record) → cond b None (Some c) ≡ Some r → (b ≡ false) × (r ≡ c)
given_if true c r e = absurd (cc)
given_if false c r e = (refl, cc)

close_is_given : (closed : Bool) (head size : ℕ) (c r : Record) → cond (closed || nat_lt head size) None (Some c) ≡ Some r
    → (closed ≡ false) × (size ≤ head) × (r ≡ c)
close_is_given closed head size c r e =
    let given = given_if (closed || nat_lt head size) c r e in
    let parts = or_parts closed (nat_lt head size) given.0 in
    (parts.0, ltb-false head size parts.1, given.1)

after_close : (goods : ℕ → Goods) (o : OutFigures) (sent : List Record) → ShowsSent goods o sent → IsBounded goods o → slice_get o.queue o.head ≡ None
    → o.closed ≡ false → o.size ≤ o.head
    → ShowsSent goods (stepped o None) (sent ++ Close o.next ∷ [])
after_close goods o sent h small none is_open full =
    let past = none_there o.queue o.head none in
    let sizes = sizes_are o.size o.queue h.later h.places in
    let all : o.head ≡ length o.queue = omega (arith, h.head) in
    let r : Record = Close o.next in
    let grown : contents (sent ++ r ∷ []) ≡ blocks goods (take o.head o.queue) ++ (h.part ++ Closing ∷ []) =
    contents_more sent r (blocks goods (take o.head o.queue)) h.part Closing h.text refl in
    record {
      numbers = numbers_more 1 sent r h.numbers (omega (arith, h.next));
      next = next_more o.next sent r h.next small.number;
      later = h.later;
      places = h.places;
      head = h.head;
      part = Closing ∷ [];
      text = grown ∙ ap (λ (z : List Entry). blocks goods (take o.head o.queue) ++ (z ++ Closing ∷ [])) (h.between is_open all).0;
      within = λ closed. absurd (false≢true (sym closed));
      between = λ closed. absurd (false≢true (sym closed));
      after = λ _. (all, (omega arith), refl);
    }

-- ---- all steps

after_due : (goods : ℕ → Goods) (o : OutFigures) (sent : List Record) (place : ℕ) (left : Remainder) (what : Due)
    → ShowsSent goods o sent → IsBounded goods o → slice_get o.queue o.head ≡ Some place → IsRemainder (goods place) o.mark left → due o.anew left ≡ what
    → ShowsSent goods (stepped_by o what) (sent ++ record_due o left what ∷ [])
after_due goods o sent place left (Moving line) h small at rest e = after_line goods o sent place left h small at rest line e
after_due goods o sent place left Restarting h small at rest e = after_reset goods o sent place left h small at rest e
after_due goods o sent place left Ending h small at rest e = after_end goods o sent place left h small at rest e

pub steps_show : StepsShow
steps_show goods o sent None r h small left is =
    let given = close_is_given o.closed o.head o.size (Close o.next) r is in
    subst (λ (z : Record). ShowsSent goods (stepped o None) (sent ++ z ∷ [])) (sym given.2) (after_close goods o sent h small left given.0 given.1)
steps_show goods o sent (Some rest) r h small left is =
    let given : record_due o rest (due o.anew rest) ≡ r = cc in
    subst (λ (z : Record). ShowsSent goods (stepped o (Some rest)) (sent ++ z ∷ [])) given
    (after_due goods o sent left.0 rest (due o.anew rest) h small left.1 left.2 refl)

-- ---- what is given

due_may_be_sent : (goods : ℕ → Goods) (o : OutFigures) (left : Remainder) (what : Due) → IsQueued goods o left.item.0
    → MaySend goods o (content (record_due o left what))
due_may_be_sent goods o left (Moving line) h = h
due_may_be_sent goods o left Restarting h = h
due_may_be_sent goods o left Ending h = h

may_be_sent : (goods : ℕ → Goods) (o : OutFigures) (left : Option Remainder) (r : Record) → IsWhatIsLeft goods o left → next_record o left ≡ Some r
    → MaySend goods o (content r)
may_be_sent goods o None r left is =
    let given = close_is_given o.closed o.head o.size (Close o.next) r is in
    subst (λ (z : Record). MaySend goods o (content z)) (sym given.2) tt
may_be_sent goods o (Some rest) r left is =
    let given : record_due o rest (due o.anew rest) ≡ r = cc in
    let queued : IsQueued goods o rest.item.0 = record { place = left.0; there = contains_there o.queue o.head left.0 left.1; is = sym left.2.item } in
    subst (λ (z : Record). MaySend goods o (content z)) given (due_may_be_sent goods o rest (due o.anew rest) queued)

same_places : (goods : ℕ → Goods) (o p : OutFigures) (loads : List Load) → o.size ≡ p.size → o.queue ≡ p.queue → Agrees goods o loads → Agrees goods p loads
same_places goods o p loads e d h =
    record { size = h.size ∙ e; queued = λ place there. h.queued place (subst (λ (z : List ℕ). Contains z place) (sym d) there) }

kept_by : (o : OutFigures) (what : Due) → ((stepped_by o what).size ≡ o.size) × ((stepped_by o what).queue ≡ o.queue)
kept_by o (Moving line) = (refl, refl)
kept_by o Restarting = (refl, refl)
kept_by o Ending = (refl, refl)

pub steps_keep_places : StepsKeepPlaces
steps_keep_places o None = (refl, refl)
steps_keep_places o (Some left) = kept_by o (due o.anew left)

agrees_after : (goods : ℕ → Goods) (o : OutFigures) (left : Option Remainder) (loads : List Load) → Agrees goods o loads → Agrees goods (stepped o left) loads
agrees_after goods o left loads h =
    let same = steps_keep_places o left in
    same_places goods o (stepped o left) loads (sym same.0) (sym same.1) h

pub given_continues : GivenContinues
given_continues goods o sent left r h small rest is loads agrees = (
  shown_begin goods (stepped o left) (sent ++ r ∷ []) (steps_show goods o sent left r h small rest is) loads (agrees_after goods o left loads agrees),
  may_be_sent goods o left r rest is,
)
