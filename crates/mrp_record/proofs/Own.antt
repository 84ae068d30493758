-- Records of a lane: an item's own ones in a list, and in the blocks of loads.
use Rattle.std.proofs.Common.{◌≡◌, ℕ, ◌+◌, ◌==◌, Bool, true, false, Some, None, List, [], ◌∷◌, ◌++◌, refl, ◌∙◌, ap, length}
use Rattle.std.specs.List.{list_any}
use Rattle.std.proofs.lemmas.Bool.{eq-eqb, false≢true, or_from, or_parts}
use Rattle.mrp_record.specs.Entries.{Entry, LineOf, EndOf, ResetOf, Closing, Delivery, is_of, is_closing, entries_of}
use Rattle.mrp_record.specs.Text.{Load, running, early, late, body, block, last_figure, total}

-- each record is of the item
abbrev pub AllOf : ℕ → List Entry → Type 0
AllOf item [] = Unit {0}
AllOf item (e ∷ es) = ((other : ℕ) → is_of other e ≡ (item == other)) × AllOf item es

pub AllOf-append : (item : ℕ) (xs ys : List Entry) → AllOf item xs → AllOf item ys → AllOf item (xs ++ ys)
AllOf-append item [] ys h g = g
AllOf-append item (x ∷ xs) ys h g = (h.0, AllOf-append item xs ys h.1 g)

pub AllOf-front : (item : ℕ) (xs ys : List Entry) → AllOf item (xs ++ ys) → AllOf item xs
AllOf-front item [] ys h = tt
AllOf-front item (x ∷ xs) ys h = (h.0, AllOf-front item xs ys h.1)

pub AllOf-running : (item figure : ℕ) (lines : List Delivery) → AllOf item (running item figure lines)
AllOf-running item figure [] = tt
AllOf-running item figure (line ∷ lines) = ((λ other. refl), AllOf-running item (figure + line.quantity) lines)

pub AllOf-block : (load : Load) → AllOf load.item (block load)
AllOf-block load =
    AllOf-append load.item (body load.item load.opening load.reset load.lines)
    (EndOf load.item (length load.lines) (last_figure load.opening load.reset load.lines) ∷ [])
    (elim load.reset as (λ reset. AllOf load.item (body load.item load.opening reset load.lines)) [
      | None ↦ AllOf-running load.item load.opening load.lines
      | Some from ↦
          AllOf-append load.item (running load.item load.opening (early from load.lines))
          (ResetOf load.item (load.opening + total (early from load.lines)) ∷ running load.item 0 (late from load.lines))
          (AllOf-running load.item load.opening (early from load.lines))
          ((λ other. refl), AllOf-running load.item 0 (late from load.lines))
    ])
    ((λ other. refl), tt)

pub own_kept : (item : ℕ) (es : List Entry) → AllOf item es → entries_of item es ≡ es
own_kept item [] h = refl
own_kept item (e ∷ es) h =
    let own : is_of item e ≡ true = h.0 item ∙ eq-eqb item item refl in
    let rest : entries_of item es ≡ es = own_kept item es h.1 in
    rw own (ap (λ (z : List Entry). e ∷ z) rest)

pub others_left : (item other : ℕ) (es : List Entry) → AllOf item es → (item == other) ≡ false → entries_of other es ≡ []
others_left item other [] h ne = refl
others_left item other (e ∷ es) h ne =
    let apart : is_of other e ≡ false = h.0 other ∙ ne in
    rw apart (others_left item other es h.1 ne)

pub none_closing : (item : ℕ) (es : List Entry) → AllOf item es → list_any is_closing es ≡ false
none_closing item [] h = refl
none_closing item (LineOf i p q c ∷ es) h = none_closing item es h.1
none_closing item (EndOf i n c ∷ es) h = none_closing item es h.1
none_closing item (ResetOf i c ∷ es) h = none_closing item es h.1
none_closing item (Closing ∷ es) h = absurd (false≢true (h.0 item ∙ eq-eqb item item refl))

pub list_any-append : {X : Type 0} (p : X → Bool) (xs ys : List X) → list_any p xs ≡ false → list_any p ys ≡ false → list_any p (xs ++ ys) ≡ false
list_any-append p [] ys h g = g
list_any-append p (x ∷ xs) ys h g =
    let parts = or_parts (p x) (list_any p xs) h in
    or_from (p x) (list_any p (xs ++ ys)) parts.0 (list_any-append p xs ys parts.1 g)

pub list_any-front : {X : Type 0} (p : X → Bool) (xs ys : List X) → list_any p (xs ++ ys) ≡ false → list_any p xs ≡ false
list_any-front p [] ys h = refl
list_any-front p (x ∷ xs) ys h =
    let parts = or_parts (p x) (list_any p (xs ++ ys)) h in
    or_from (p x) (list_any p xs) parts.0 (list_any-front p xs ys parts.1)
