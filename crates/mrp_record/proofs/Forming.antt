-- Records of a lane: a legal beginning, of small loads, is in form, and no figure in it is above 10^15.
use Rattle.std.proofs.Common.{◌≡◌, ℕ, ◌+◌, ◌≤◌, ◌==◌, Bool, true, false, cond, Some, None, Option, List, [], ◌∷◌, ◌++◌, inl, inr, refl, sym, ◌∙◌, ap, subst}
use Rattle.std.proofs.Common.{length, take, drop, get_or, map, length-append, arith}
use Rattle.std.specs.Prelude.{nat_lt, not, ◌&&◌, IsSomeAnd}
use Rattle.std.specs.List.{All, Contains, find, flat_map, fold, list_any, sum_by, count_by}
use Rattle.std.specs.List.Sorted.{IsPermutation}
use Rattle.std.proofs.lemmas.Bool.{cases_Bool, eq-eqb, eqb-true, eqb-false, ne_eqb, and_left, and_right, not_from_true, or_right, or_left}
use Rattle.std.proofs.lemmas.List.{append-nil, length-map, take-append-drop, drop_more}
use Rattle.std.proofs.lemmas.List.Elements.{filter-append, All-contains, All-contains_itself, All-map, All-weaker}
use Rattle.std.proofs.lemmas.List.Sums.{sum_by-append, count_by-le-length, length-filter}
use Rattle.std.proofs.lemmas.List.Sorted.{IsPermutation-sym}
use Rattle.mrp_qty.specs.declared.quantity.TheConstants.{MOST}
use Rattle.mrp_record.specs.declared.record.Record.{Record}
use Rattle.mrp_record.specs.Entries.{Entry, LineOf, EndOf, ResetOf, Closing, number_of, content, contents, is_of, is_end, is_closing, figure_after, closed_of}
use Rattle.mrp_record.specs.Entries.{entries_of, is_ended, is_closed, in_force, cum}
use Rattle.mrp_record.specs.Blocks.{is_line, is_reset, next_after, is_open, line_count}
use Rattle.mrp_record.specs.Form.{FormItem, LaneForm, item_on, is_other_open, LineFits, EndFits, ResetFits, GoesOn, EntryFits}
use Rattle.mrp_record.specs.Laws.{AreLoads, IsSmall, AreSmall, form_item, loads_form, BeginningsAreInForm, HasSmallFigures, FiguresAreSmall, CumsAreSmall}
use Rattle.mrp_record.specs.Text.{Load, body, block, last_figure, text_of, IsBeginning}
use Rattle.mrp_record.proofs.Beginnings.{number_at, contents_parts, fronts_are_beginnings, beginnings_are_no_longer}
use Rattle.mrp_record.proofs.BlockForm.{block_in_form}
use Rattle.mrp_record.proofs.Figures.{cum_is_opening_and_moved, moved_within}
use Rattle.mrp_record.proofs.Loads.{In, In-append, In-from_contains, Contains-from_in, In-permutation, load_count, count_own, at_most_one, count_permuted}
use Rattle.mrp_record.proofs.Loads.{item_found, no_block, one_block}
use Rattle.mrp_record.proofs.Own.{AllOf, AllOf-block, AllOf-front, own_kept, others_left, none_closing, list_any-append}
use Rattle.mrp_record.proofs.Standing.{IsWithin, stands}
use Rattle.mrp_record.proofs.Tallies.{tally, start, OwnForm, OwnGoesOn, own_at, figure_is, closed_is, lines_is, next_is, anew_is, ended_is}

-- ---- whole blocks

blocks_unclosed : (loads : List Load) → is_closed (flat_map block loads) ≡ false
blocks_unclosed [] = refl
blocks_unclosed (load ∷ loads) =
    list_any-append is_closing (block load) (flat_map block loads) (none_closing load.item (block load) (AllOf-block load)) (blocks_unclosed loads)

has_end : (xs ys : List Entry) (item lines cumulative : ℕ) → list_any is_end (xs ++ EndOf item lines cumulative ∷ ys) ≡ true
has_end [] ys item lines cumulative = refl
has_end (x ∷ xs) ys item lines cumulative = or_right (is_end x) (list_any is_end (xs ++ EndOf item lines cumulative ∷ ys)) (has_end xs ys item lines cumulative)

block_ended : (load : Load) → list_any is_end (block load) ≡ true
block_ended load =
    has_end (body load.item load.opening load.reset load.lines) [] load.item (length load.lines) (last_figure load.opening load.reset load.lines)

any_before : (xs ys : List Entry) → list_any is_end xs ≡ true → list_any is_end (xs ++ ys) ≡ true
any_before [] ys h = absurd (cc)
any_before (x ∷ xs) ys h =
    elim (cases_Bool (is_end x)) [
      | inl here ↦ or_left (is_end x) (list_any is_end (xs ++ ys)) here
      | inr other ↦
          let later : list_any is_end xs ≡ true = rw other at h in
          or_right (is_end x) (list_any is_end (xs ++ ys)) (any_before xs ys later)
    ]

abbrev opens : List Entry → Bool
opens own = nat_lt 0 (length own) && not (list_any is_end own)

blocks_not_open : (item : ℕ) (loads : List Load) → opens (entries_of item (flat_map block loads)) ≡ false
blocks_not_open item [] = refl
blocks_not_open item (load ∷ loads) =
    let rest = entries_of item (flat_map block loads) in
    let parts : entries_of item (flat_map block (load ∷ loads)) ≡ entries_of item (block load) ++ rest =
    filter-append (is_of item) (block load) (flat_map block loads) in
    elim (cases_Bool (load.item == item)) [
      | inl own ↦
          let kept : entries_of load.item (block load) ≡ block load = own_kept load.item (block load) (AllOf-block load) in
          let mine : entries_of item (block load) ≡ block load = subst (λ (i : ℕ). entries_of i (block load) ≡ block load) (eqb-true load.item item own) kept in
          let all : entries_of item (flat_map block (load ∷ loads)) ≡ block load ++ rest = parts ∙ ap (λ (z : List Entry). z ++ rest) mine in
          ap opens all
          ∙ and_right (nat_lt 0 (length (block load ++ rest))) (not (list_any is_end (block load ++ rest)))
          (not_from_true (list_any is_end (block load ++ rest)) (any_before (block load) rest (block_ended load)))
      | inr apart ↦
          let theirs : entries_of item (block load) ≡ [] = others_left load.item item (block load) (AllOf-block load) apart in
          ap opens (parts ∙ ap (λ (z : List Entry). z ++ rest) theirs) ∙ blocks_not_open item loads
    ]

-- ---- a record of a block fits after whole blocks and the records before it

pub entry_fits : (form : LaneForm) (i : FormItem) (before own : List Entry) (e : Entry) → item_on form i.item ≡ Some i → entries_of i.item before ≡ own
    → is_other_open form i.item before ≡ false → ((other : ℕ) → is_of other e ≡ (i.item == other)) → OwnGoesOn form i (tally (start i.opening) own) e
    → EntryFits form before e
entry_fits form i before own (LineOf item p q c) found mine alone is h =
    let t = start i.opening in
    let same : i.item ≡ item = eqb-true i.item item (sym (is item) ∙ eq-eqb item item refl) in
    let here : item_on form item ≡ Some i = subst (λ (n : ℕ). item_on form n ≡ Some i) same found in
    let goes : GoesOn form i before = record { unended = ap (list_any is_end) mine ∙ sym (ended_is t own) ∙ h.unended; alone = alone } in
    let fits : LineFits form i before p q c = record {
      inside = h.inside;
      rises = λ r. omega (arith, h.rises r, ap (fold next_after 0) mine, next_is t own);
      some = h.some;
      figure = omega (arith, h.figure, ap (fold figure_after i.opening) mine, figure_is t own);
      small = omega (arith, h.small, ap (sum_by closed_of) mine, closed_is t own);
      side = ap (list_any is_reset) mine ∙ sym (anew_is t own) ∙ h.side;
    } in
    subst (λ (o : Option FormItem). IsSomeAnd o (λ i. GoesOn form i before × LineFits form i before p q c)) (sym here) (goes, fits)
entry_fits form i before own (EndOf item n c) found mine alone is h =
    let t = start i.opening in
    let same : i.item ≡ item = eqb-true i.item item (sym (is item) ∙ eq-eqb item item refl) in
    let here : item_on form item ≡ Some i = subst (λ (n : ℕ). item_on form n ≡ Some i) same found in
    let goes : GoesOn form i before = record { unended = ap (list_any is_end) mine ∙ sym (ended_is t own) ∙ h.unended; alone = alone } in
    let fits : EndFits i before n c = record {
      count = omega (arith, h.count, ap (count_by is_line) mine, lines_is t own);
      figure = omega (arith, h.figure, ap (fold figure_after i.opening) mine, figure_is t own);
      side = λ e. ap (list_any is_reset) mine ∙ sym (anew_is t own) ∙ h.side e;
    } in
    subst (λ (o : Option FormItem). IsSomeAnd o (λ i. GoesOn form i before × EndFits i before n c)) (sym here) (goes, fits)
entry_fits form i before own (ResetOf item c) found mine alone is h =
    let t = start i.opening in
    let same : i.item ≡ item = eqb-true i.item item (sym (is item) ∙ eq-eqb item item refl) in
    let here : item_on form item ≡ Some i = subst (λ (n : ℕ). item_on form n ≡ Some i) same found in
    let goes : GoesOn form i before = record { unended = ap (list_any is_end) mine ∙ sym (ended_is t own) ∙ h.unended; alone = alone } in
    let fits : ResetFits i before c = record {
      awaited = h.awaited;
      first = ap (list_any is_reset) mine ∙ sym (anew_is t own) ∙ h.first;
      figure = omega (arith, h.figure, ap (fold figure_after i.opening) mine, figure_is t own);
    } in
    subst (λ (o : Option FormItem). IsSomeAnd o (λ i. GoesOn form i before × ResetFits i before c)) (sym here) (goes, fits)
entry_fits form i before own Closing found mine alone is h = absurd h

none_of_them : {X : Type 0} (p : X → Bool) (xs : List X) → ((x : X) → p x ≡ false) → list_any p xs ≡ false
none_of_them p [] h = refl
none_of_them p (x ∷ xs) h = list_any-append p (x ∷ []) xs (or_both (p x) (h x)) (none_of_them p xs h)
  where
    or_both : (b : Bool) → b ≡ false → list_any (λ (c : Bool). c) (b ∷ []) ≡ false
    or_both b e = rw e refl

-- what stands before a record of a block
record IsPlaced (loads : List Load) (before : List Entry) (w_load : Load) (done : List Load) (part : List Entry) : Type 0 where
  among : In w_load loads
  few : load_count w_load.item loads ≤ 1
  none : load_count w_load.item done ≡ 0
  own : AllOf w_load.item part
  is : before ≡ flat_map block done ++ part

placed_own : (loads : List Load) (before : List Entry) (load : Load) (done : List Load) (part : List Entry) → IsPlaced loads before load done part
    → entries_of load.item before ≡ part
placed_own loads before load done part h =
    let earlier : entries_of load.item (flat_map block done) ≡ [] = no_block load.item done h.none in
    ap (entries_of load.item) h.is
    ∙ filter-append (is_of load.item) (flat_map block done) part
    ∙ ap (λ (z : List Entry). z ++ entries_of load.item part) earlier
    ∙ own_kept load.item part h.own

placed_alone : (rising : Bool) (horizon : ℕ) (loads : List Load) (before : List Entry) (load : Load) (done : List Load) (part : List Entry)
    → IsPlaced loads before load done part
    → is_other_open (loads_form rising horizon loads) load.item before ≡ false
placed_alone rising horizon loads before load done part h =
    none_of_them (λ (other : FormItem). not (other.item == load.item) && is_open other.item before) (map form_item loads)
    (λ other. elim (cases_Bool (other.item == load.item)) [
      | inl same ↦ and_left (not (other.item == load.item)) (is_open other.item before) (not_from_true (other.item == load.item) same)
      | inr apart ↦
          let back : (load.item == other.item) ≡ false = ne_eqb load.item other.item (λ e. both_apart other.item load.item apart (sym e)) in
          let theirs : entries_of other.item part ≡ [] = others_left load.item other.item part h.own back in
          let all : entries_of other.item before ≡ entries_of other.item (flat_map block done) =
          ap (entries_of other.item) h.is
          ∙ filter-append (is_of other.item) (flat_map block done) part
          ∙ ap (λ (z : List Entry). entries_of other.item (flat_map block done) ++ z) theirs
          ∙ append-nil (entries_of other.item (flat_map block done)) in
          and_right (not (other.item == load.item)) (is_open other.item before) (ap opens all ∙ blocks_not_open other.item done)
    ])
  where
    both_apart : (a b : ℕ) → (a == b) ≡ false → a ≡ b → ⊥
    both_apart a b ne e = eqb-false a b ne e

placed : (loads : List Load) → AreLoads loads → (order : List Load) → IsPermutation loads order → (entries rest : List Entry)
    → (w : IsWithin order entries rest)
    → IsPlaced loads entries w.load w.done w.part
placed loads once order permuted entries rest w =
    let few = at_most_one w.load.item loads once in
    let here : In w.load order = subst (In w.load) (sym w.order_is) (In-append w.load w.done (w.load ∷ w.todo) (inl refl)) in
    let counts : load_count w.load.item order ≡ load_count w.load.item w.done + load_count w.load.item (w.load ∷ w.todo) =
    ap (load_count w.load.item) w.order_is ∙ sum_by-append (λ (l : Load). cond (l.item == w.load.item) 1 0) w.done (w.load ∷ w.todo) in
    record {
      among = In-permutation w.load order loads (IsPermutation-sym loads order permuted) here;
      few = few;
      none = omega (arith, few, counts, count_permuted w.load.item loads order permuted, count_own w.load.item w.load w.todo refl);
      own = AllOf-front w.load.item w.part (w.next ∷ w.more) (subst (AllOf w.load.item) w.block_is (AllOf-block w.load));
      is = w.is;
    }

next_of_item : (item : ℕ) (part more : List Entry) (e : Entry) → AllOf item (part ++ e ∷ more) → (other : ℕ) → is_of other e ≡ (item == other)
next_of_item item [] more e h = h.0
next_of_item item (x ∷ part) more e h = next_of_item item part more e h.1

-- ---- each record of a beginning continues those before it

record EntryGoesOn (form : LaneForm) (before : List Entry) (e : Entry) : Type 0 where
  unclosed : is_closed before ≡ false
  fits : EntryFits form before e

within_goes_on : (rising : Bool) (horizon : ℕ) (loads : List Load) → AreLoads loads → All (IsSmall rising horizon) loads → (order : List Load)
    → IsPermutation loads order
    → (before rest : List Entry) (e : Entry) (w : IsWithin order before (e ∷ rest)) → EntryGoesOn (loads_form rising horizon loads) before e
within_goes_on rising horizon loads once small order permuted before rest e w =
    let form = loads_form rising horizon loads in
    let at = placed loads once order permuted before (e ∷ rest) w in
    let next : w.next ≡ e = cc (w.rest_is) in
    let block_is : block w.load ≡ w.part ++ e ∷ w.more = w.block_is ∙ ap (λ (z : Entry). w.part ++ z ∷ w.more) next in
    let fit = All-contains (IsSmall rising horizon) loads w.load small (Contains-from_in w.load loads at.among) in
    let goes = own_at form (form_item w.load) (start w.load.opening) w.part w.more e
    (subst (OwnForm form (form_item w.load) (start w.load.opening)) block_is (block_in_form rising horizon (map form_item loads) w.load fit)) in
    record {
      unclosed = ap is_closed w.is ∙ list_any-append is_closing (flat_map block w.done) w.part (blocks_unclosed w.done)
          (none_closing w.load.item w.part at.own);
      fits =
          entry_fits form (form_item w.load) before w.part e (item_found w.load loads at.among at.few) (placed_own loads before w.load w.done w.part at)
          (placed_alone rising horizon loads before w.load w.done w.part at)
          (next_of_item w.load.item w.part w.more e (subst (AllOf w.load.item) block_is (AllOf-block w.load)))
          goes;
    }

closing_goes_on : (rising : Bool) (horizon : ℕ) (loads : List Load) → AreLoads loads → (order : List Load) → IsPermutation loads order
    → (before : List Entry) → before ≡ flat_map block order → EntryGoesOn (loads_form rising horizon loads) before Closing
closing_goes_on rising horizon loads once order permuted before is =
    let ended : (load : Load) → Contains loads load → is_ended load.item before ≡ true =
    λ load there.
    let among : In load order = In-permutation load loads order permuted (In-from_contains load loads there) in
    let few = at_most_one load.item loads once in
    let whole = one_block load order among (omega (arith, few, count_permuted load.item loads order permuted)) in
    ap (λ (z : List Entry). list_any is_end (entries_of load.item z)) is ∙ ap (list_any is_end) whole ∙ block_ended load in
    record {
      unclosed = ap is_closed is ∙ blocks_unclosed order;
      fits =
          All-map (λ (i : FormItem). is_ended i.item before ≡ true) form_item loads
          (All-weaker (Contains loads) (λ (load : Load). is_ended load.item before ≡ true) ended loads (All-contains_itself loads));
    }

goes_on : (rising : Bool) (horizon : ℕ) (loads : List Load) → AreLoads loads → All (IsSmall rising horizon) loads → (order : List Load)
    → IsPermutation loads order
    → (before rest : List Entry) (e : Entry) → before ++ e ∷ rest ≡ text_of order → EntryGoesOn (loads_form rising horizon loads) before e
goes_on rising horizon loads once small order permuted before rest e split = elim (stands order before (e ∷ rest) split) [
  | inl w ↦ within_goes_on rising horizon loads once small order permuted before rest e w
  | inr g ↦ elim g [
    | inl c ↦
        let closing : e ≡ Closing = cc (c.rest_is) in
        subst (EntryGoesOn (loads_form rising horizon loads) before) (sym closing) (closing_goes_on rising horizon loads once order permuted before c.is)
    | inr a ↦ absurd (cc (a.rest_is))
  ]
]

pub beginnings_are_in_form : BeginningsAreInForm
beginnings_are_in_form rising horizon loads once small records h before after r is =
    let h' : IsBeginning loads (before ++ r ∷ after) = subst (IsBeginning loads) is h in
    let split : contents before ++ (content r ∷ (contents after ++ h'.rest)) ≡ text_of h'.text.order =
    sym (contents_parts before (r ∷ after) h'.rest) ∙ h'.text.is in
    let goes = goes_on rising horizon loads once small.0 h'.text.order h'.text.once (contents before) (contents after ++ h'.rest) (content r) split in
    let number = number_at 1 before after r h'.numbered in
    record {
      number = omega (arith, number);
      small = omega (arith, number, length-append before (r ∷ after), beginnings_are_no_longer loads (before ++ r ∷ after) h', small.1);
      unclosed = goes.unclosed;
      fits = goes.fits;
    }

-- ---- no figure is above 10^15

pub cums_are_small : CumsAreSmall
cums_are_small rising horizon loads once small records h load there =
    let fit = All-contains (IsSmall rising horizon) loads load small.0 there in
    omega (arith, cum_is_opening_and_moved loads once records h load there, moved_within loads once records h load there, fit.figures)

-- what stands in a list at some place, with what is before and after it
all_from_splits : {X : Type 0} (P : X → Type 0) (xs : List X) → ((before after : List X) (x : X) → xs ≡ before ++ x ∷ after → P x) → All P xs
all_from_splits P xs h k d l =
    let split : xs ≡ take k xs ++ get_or xs k d ∷ drop (k + 1) xs = sym (take-append-drop k xs) ∙ ap (λ (z : List _). take k xs ++ z) (drop_more xs k d l) in
    h (take k xs) (drop (k + 1) xs) (get_or xs k d) split

-- an item of the lane is that of a load
record IsLoaded (loads : List Load) (i : FormItem) : Type 0 where
  load : Load
  there : Contains loads load
  is : i ≡ form_item load

loaded : (loads all : List Load) (item : ℕ) (i : FormItem) → ((load : Load) → In load loads → In load all)
    → find (λ (j : FormItem). j.item == item) (map form_item loads) ≡ Some i → IsLoaded all i
loaded [] all item i among found = absurd (cc)
loaded (load ∷ loads) all item i among found =
    elim (cases_Bool (load.item == item)) [
      | inl here ↦
          let first : Some (form_item load) ≡ Some i = rw here at found in
          record { load = load; there = Contains-from_in load all (among load (inl refl)); is = cc }
      | inr apart ↦
          let later : find (λ (j : FormItem). j.item == item) (map form_item loads) ≡ Some i = rw apart at found in
          loaded loads all item i (λ other there. among other (inr there)) later
    ]

in_force_small : (rising : Bool) (horizon : ℕ) (loads : List Load) → AreLoads loads → AreSmall rising horizon loads → (before : List Record)
    → IsBeginning loads before → (i : FormItem) → IsLoaded loads i
    → in_force i.opening i.item (contents before) ≤ MOST
in_force_small rising horizon loads once small before h i l =
    let all : cum i.opening i.item (contents before) ≤ MOST =
    subst (λ (j : FormItem). cum j.opening j.item (contents before) ≤ MOST) (sym l.is) (cums_are_small rising horizon loads once small before h l.load l.there)
    in
    omega (arith, all)

count_few : (item : ℕ) (es : List Entry) → line_count item es ≤ length es
count_few item es =
    omega (arith, count_by-le-length is_line (entries_of item es), length-filter (is_of item) es, count_by-le-length (is_of item) es)

figures_fit : (form : LaneForm) (before : List Entry) (e : Entry)
    → ((i : FormItem) (item : ℕ) → item_on form item ≡ Some i → in_force i.opening i.item before ≤ MOST) → length before ≤ MOST
    → EntryFits form before e → HasSmallFigures e
figures_fit form before (LineOf item p q c) figures few fits = line (item_on form item) fits
  where
    line : (o : Option FormItem) → IsSomeAnd o (λ i. GoesOn form i before × LineFits form i before p q c) → (q ≤ MOST) × (c ≤ MOST)
    line None h = absurd h
    line (Some i) h = let f : LineFits form i before p q c = h.1 in (omega (arith, f.small, f.figure), omega (arith, f.small))
figures_fit form before (EndOf item n c) figures few fits = end (item_on form item) (λ i e. figures i item e) fits
  where
    end : (o : Option FormItem) → ((i : FormItem) → o ≡ Some i → in_force i.opening i.item before ≤ MOST)
        → IsSomeAnd o (λ i. GoesOn form i before × EndFits i before n c) → (n ≤ MOST) × (c ≤ MOST)
    end None g h = absurd h
    end (Some i) g h = let f : EndFits i before n c = h.1 in (omega (arith, f.count, count_few i.item before), omega (arith, f.figure, g i refl))
figures_fit form before (ResetOf item c) figures few fits = anew (item_on form item) (λ i e. figures i item e) fits
  where
    anew : (o : Option FormItem) → ((i : FormItem) → o ≡ Some i → in_force i.opening i.item before ≤ MOST)
        → IsSomeAnd o (λ i. GoesOn form i before × ResetFits i before c) → c ≤ MOST
    anew None g h = absurd h
    anew (Some i) g h = let f : ResetFits i before c = h.1 in omega (arith, f.figure, g i refl)
figures_fit form before Closing figures few fits = tt

pub figures_are_small : FiguresAreSmall
figures_are_small rising horizon loads once small records h =
    all_from_splits (λ (r : Record). (number_of r ≤ MOST) × HasSmallFigures (content r)) records
    (λ before after r is.
    let goes = beginnings_are_in_form rising horizon loads once small records h before after r is in
    let begun : IsBeginning loads before = fronts_are_beginnings loads before (r ∷ after) (subst (IsBeginning loads) is h) in
    let few : length (contents before) ≤ MOST = omega (arith, length-map before content, beginnings_are_no_longer loads before begun, small.1) in (
      goes.small,
      figures_fit (loads_form rising horizon loads) (contents before) (content r)
          (λ i item found. in_force_small rising horizon loads once small before begun i (loaded loads loads item i (λ load there. there) found))
          few
          goes.fits,
    ))
