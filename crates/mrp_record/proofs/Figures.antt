-- Records of a lane: over a list of them the cumulative figure of an item is its opening figure
-- and what its lines have moved.
use Rattle.std.proofs.Common.{◌≡◌, ℕ, ◌+◌, ◌≤◌, Some, None, List, [], ◌∷◌, ◌++◌, refl, sym, ◌∙◌, ap, subst, length, append_assoc, arith}
use Rattle.std.specs.List.{Contains, fold, sum_by}
use Rattle.std.proofs.lemmas.List.Sums.{sum_by-cons, sum_by-append}
use Rattle.mrp_record.specs.declared.record.Record.{Record}
use Rattle.mrp_record.specs.Entries.{Entry, LineOf, EndOf, ResetOf, Closing, Delivery, contents, entries_of, quantity_of, closed_of, figure_after, moved}
use Rattle.mrp_record.specs.Laws.{AreLoads, CumIsOpeningAndMoved}
use Rattle.mrp_record.specs.Text.{Load, total, running, early, late, body, block, last_figure, IsBeginning}
use Rattle.mrp_record.proofs.Beginnings.{own_block}
use Rattle.mrp_record.proofs.Running.{block_delivers, moved_is_delivered}

-- each reset closes the figure in force
abbrev pub ClosesRight : ℕ → List Entry → Type 0
ClosesRight figure [] = Unit {0}
ClosesRight figure (LineOf item period quantity cumulative ∷ es) = ClosesRight (figure + quantity) es
ClosesRight figure (EndOf item lines cumulative ∷ es) = ClosesRight figure es
ClosesRight figure (ResetOf item closed ∷ es) = (closed ≡ figure) × ClosesRight 0 es
ClosesRight figure (Closing ∷ es) = ClosesRight figure es

pub ClosesRight-front : (figure : ℕ) (xs ys : List Entry) → ClosesRight figure (xs ++ ys) → ClosesRight figure xs
ClosesRight-front figure [] ys h = tt
ClosesRight-front figure (LineOf i p q c ∷ xs) ys h = ClosesRight-front (figure + q) xs ys h
ClosesRight-front figure (EndOf i n c ∷ xs) ys h = ClosesRight-front figure xs ys h
ClosesRight-front figure (ResetOf i c ∷ xs) ys h = (h.0, ClosesRight-front 0 xs ys h.1)
ClosesRight-front figure (Closing ∷ xs) ys h = ClosesRight-front figure xs ys h

pub cum_is_moved : (figure : ℕ) (es : List Entry) → ClosesRight figure es → fold figure_after figure es + sum_by closed_of es ≡ figure + sum_by quantity_of es
cum_is_moved figure [] h = refl
cum_is_moved figure (LineOf i p q c ∷ es) h =
    omega (arith, cum_is_moved (figure + q) es h, sum_by-cons quantity_of (LineOf i p q c) es, sum_by-cons closed_of (LineOf i p q c) es)
cum_is_moved figure (EndOf i n c ∷ es) h =
    omega (arith, cum_is_moved figure es h, sum_by-cons quantity_of (EndOf i n c) es, sum_by-cons closed_of (EndOf i n c) es)
cum_is_moved figure (ResetOf i c ∷ es) h =
    omega (arith, h.0, cum_is_moved 0 es h.1, sum_by-cons quantity_of (ResetOf i c) es, sum_by-cons closed_of (ResetOf i c) es)
cum_is_moved figure (Closing ∷ es) h =
    omega (arith, cum_is_moved figure es h, sum_by-cons quantity_of Closing es, sum_by-cons closed_of Closing es)

running_closes : (item figure reached : ℕ) (lines : List Delivery) (rest : List Entry) → reached ≡ figure + total lines → ClosesRight reached rest
    → ClosesRight figure (running item figure lines ++ rest)
running_closes item figure reached [] rest e h = let same : reached ≡ figure = omega arith in subst (λ (f : ℕ). ClosesRight f rest) same h
running_closes item figure reached (line ∷ lines) rest e h =
    running_closes item (figure + line.quantity) reached lines rest (omega (arith, sum_by-cons (λ (l : Delivery). l.quantity) line lines)) h

pub block_closes : (load : Load) → ClosesRight load.opening (block load)
block_closes load =
    elim load.reset as (λ reset. ClosesRight load.opening (body load.item load.opening reset load.lines
    ++ EndOf load.item (length load.lines) (last_figure load.opening reset load.lines) ∷ [])) [
      | None ↦ running_closes load.item load.opening (load.opening + total load.lines) load.lines
          (EndOf load.item (length load.lines) (load.opening + total load.lines) ∷ []) refl tt
      | Some from ↦
          let before = early from load.lines in
          let after = late from load.lines in
          let last = EndOf load.item (length load.lines) (total after) ∷ [] in
          let anew : ClosesRight 0 (running load.item 0 after ++ last) = running_closes load.item 0 (total after) after last (omega arith) tt in
          let all = running_closes load.item load.opening (load.opening + total before) before
          (ResetOf load.item (load.opening + total before) ∷ (running load.item 0 after ++ last))
          refl
          (refl, anew) in
          subst (ClosesRight load.opening)
          (sym (append_assoc (running load.item load.opening before) (ResetOf load.item (load.opening + total before) ∷ running load.item 0 after) last))
          all
    ]

pub cum_is_opening_and_moved : CumIsOpeningAndMoved
cum_is_opening_and_moved loads once records h load there =
    let own = entries_of load.item (contents records) in
    let all = own_block loads once load there (contents records) h.rest h.text in
    cum_is_moved load.opening own
    (ClosesRight-front load.opening own (entries_of load.item h.rest) (subst (ClosesRight load.opening) (sym all) (block_closes load)))

-- what has been moved is at most what the load has
pub moved_within : (loads : List Load) → AreLoads loads → (records : List Record) → IsBeginning loads records → (load : Load) → Contains loads load
    → moved load.item (contents records) ≤ total load.lines
moved_within loads once records h load there =
    let own = entries_of load.item (contents records) in
    let rest = entries_of load.item h.rest in
    let all : own ++ rest ≡ block load = own_block loads once load there (contents records) h.rest h.text in
    let sums : sum_by quantity_of own + sum_by quantity_of rest ≡ sum_by quantity_of (block load) =
    sym (sum_by-append quantity_of own rest) ∙ ap (sum_by quantity_of) all in
    let whole : sum_by quantity_of (block load) ≡ total load.lines = moved_is_delivered (block load) ∙ ap total (block_delivers load) in
    omega (arith, sums, whole)
