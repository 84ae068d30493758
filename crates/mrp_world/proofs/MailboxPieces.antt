-- The world: the pieces of the records that wait in one of its mailboxes.
use Rattle.std.proofs.Common.{◌≡◌, ℕ, ◌+◌, ◌<◌, ◌≤◌, List, [], ◌∷◌, ◌++◌, length, get_or, take, drop, sym, ap, subst, ◌∙◌, arith}
use Rattle.std.specs.List.{sum_by}
use Rattle.std.proofs.lemmas.List.{take_more, take-append-drop, map-append}
use Rattle.std.proofs.lemmas.List.Elements.{filter-append}
use Rattle.std.proofs.lemmas.List.Sums.{sum_by-append}
use Rattle.mrp_record.specs.declared.record.Record.{Record}
use Rattle.mrp_record.specs.Entries.{content, contents, entries_of, is_of, moved, quantity_of}

moved_parts : (item : ℕ) (xs ys : List Record) → moved item (contents (xs ++ ys)) ≡ moved item (contents xs) + moved item (contents ys)
moved_parts item xs ys =
    ap (moved item) (map-append content xs ys)
    ∙ ap (sum_by quantity_of) (filter-append (is_of item) (contents xs) (contents ys))
    ∙ sum_by-append quantity_of (entries_of item (contents xs)) (entries_of item (contents ys))

pub pieces_more : (item : ℕ) (records : List Record) (at : ℕ) (d : Record) → at < length records
    → moved item (contents (take (at + 1) records)) ≡ moved item (contents (take at records)) + moved item (contents (get_or records at d ∷ []))
pieces_more item records at d within =
    ap (λ (xs : List Record). moved item (contents xs)) (take_more records at d within) ∙ moved_parts item (take at records) (get_or records at d ∷ [])

pub pieces_within : (item : ℕ) (records : List Record) (n : ℕ) → moved item (contents (take n records)) ≤ moved item (contents records)
pieces_within item records n =
    omega (arith, moved_parts item (take n records) (drop n records), ap (λ (xs : List Record). moved item (contents xs)) (take-append-drop n records))

pub pieces_so_far : (item : ℕ) (inside held : List Record) (at : ℕ) (r : Record) (pieces more : ℕ) → inside ≡ held → at < length inside → r ≡ get_or inside at r
    → pieces ≡ moved item (contents (take at held)) → more ≡ moved item (contents (r ∷ [])) → pieces + more ≡ moved item (contents (take (at + 1) held))
pieces_so_far item inside held at r pieces more same within is so_far here =
    let next = subst (λ (xs : List Record). at < length xs → r ≡ get_or xs at r
    → moved item (contents (take (at + 1) xs)) ≡ moved item (contents (take at xs)) + moved item (contents (r ∷ []))) same
    (λ h e. pieces_more item inside at r h ∙ ap (λ (z : Record). moved item (contents (take at inside)) + moved item (contents (z ∷ []))) (sym e)) in
    let grown : moved item (contents (take (at + 1) held)) ≡ moved item (contents (take at held)) + moved item (contents (r ∷ [])) =
    next (subst (λ (xs : List Record). at < length xs) same within) (subst (λ (xs : List Record). r ≡ get_or xs at r) same is) in
    omega (arith, grown, so_far, here)
