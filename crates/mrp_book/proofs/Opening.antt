-- The book: a new one shows the empty list.
use Rattle.std.proofs.Common.{◌≡◌, ℕ, ◌+◌, ◌<◌, ◌≤◌, ◌==◌, Bool, false, List, [], ◌∷◌, ◌++◌, refl, sym, ◌∙◌, ap, subst, length, map, take, get_or, zero, suc}
use Rattle.std.proofs.Common.{arith, None}
use Rattle.std.specs.List.{All, AllByRecursion, IsDistinct, list_any}
use Rattle.std.proofs.lemmas.Bool.{or_from}
use Rattle.std.proofs.lemmas.List.{map-append, take_more}
use Rattle.std.proofs.lemmas.List.Elements.{All-nil, All-cons, All-push, All-get_or, All-from_recursion}
use Rattle.std.proofs.lemmas.List.{take_all}
use Rattle.mrp_record.specs.Laws.{is_same_form_item}
use Rattle.mrp_qty.specs.declared.quantity.TheConstants.{MOST}
use Rattle.mrp_master_data.specs.declared.numbers.ItemNo.{ItemNo}
use Rattle.mrp_master_data.specs.contracts.numbers.ItemNoPartialEq.TheImpl.{eq-value}
use Rattle.mrp_master_data.proofs.Mapped.{list_any_keys}
use Rattle.mrp_master_data.proofs.Keys.{same_test}
use Rattle.mrp_record.specs.Form.{FormItem, LaneForm, IsInForm}
use Rattle.mrp_record.proofs.Fronts.{nothing_after}
use Rattle.mrp_book.specs.declared.item.BookItem.{BookItem}
use Rattle.mrp_book.specs.declared.item.ItemFigure.{ItemFigure}
use Rattle.mrp_book.specs.After.{opened, IsBook, IsFigureWithin}
use Rattle.mrp_net.specs.declared.lane.LaneKind.{LaneKind}
use Rattle.mrp_net.specs.LaneLaws.{is_schedule}
use Rattle.mrp_book.specs.Figures.{Figures, figure_of, figures, book_form, book_form_item, is_same_book_item, BookShows}

-- no item stands among those before it
pub is_new : (xs : List BookItem) (k : ℕ) (d : BookItem) → IsDistinct is_same_book_item xs → k < length xs
    → list_any (λ j. j.item.0 == (get_or xs k d).item.0) (take k xs) ≡ false
unfolding IsDistinct
is_new [] k d once l = absurd (omega arith)
is_new (x ∷ xs) zero d once l = refl
is_new (x ∷ xs) (suc k) d once l =
    let x' = get_or xs k d in
    let apart : (x.item.0 == x'.item.0) ≡ false = All-get_or (λ (y : BookItem). is_same_book_item x y ≡ false) xs k d (omega arith)
    (All-from_recursion (λ (y : BookItem). is_same_book_item x y ≡ false) xs once.0) in
    or_from (x.item.0 == x'.item.0) (list_any (λ j. j.item.0 == x'.item.0) (take k xs)) apart (is_new xs k d once.1 (omega arith))

pub items_once : (items : List BookItem) → IsDistinct is_same_book_item items → IsDistinct is_same_form_item (map book_form_item items)
unfolding IsDistinct
items_once [] h = h
items_once (i ∷ items) h = (by items h.0, items_once items h.1)
  where
    by : (rest : List BookItem) → AllByRecursion (λ y. is_same_book_item i y ≡ false) rest
        → AllByRecursion (λ y. is_same_form_item (book_form_item i) y ≡ false) (map book_form_item rest)
    by [] h = h
    by (x ∷ rest) h = (h.0, by rest h.1)

pub figures_opened : (items : List BookItem) → map (figure_of []) (map book_form_item items) ≡ map opened items
figures_opened [] = refl
figures_opened (i ∷ items) = ap (λ (z : List ItemFigure). opened i ∷ z) (figures_opened items)

pub names_opened : (items : List BookItem) → map (λ g. g.item) (map opened items) ≡ map (λ i. i.item) items
names_opened [] = refl
names_opened (i ∷ items) = ap (λ (z : List ItemNo). i.item ∷ z) (names_opened items)

pub within_opened : (items : List BookItem) → All (λ i. i.opening ≤ MOST) items → All (IsFigureWithin 1) (map opened items)
within_opened [] h = All-nil (IsFigureWithin 1)
within_opened (i ∷ items) h =
    All-cons (IsFigureWithin 1) (opened i) (map opened items) (record { figure = omega (arith, h 0 i (omega arith)); lines = omega arith })
    (within_opened items (λ k d l. h (suc k) d (omega arith)))

pub empty_in_form : (form : LaneForm) → IsInForm form []
empty_in_form form before after r e = absurd (nothing_after before after r (sym e))

-- the names and the figures of the items taken so far
pub record AreOpened (k : ℕ) (items : List BookItem) (names : List ItemNo) (figures : List ItemFigure) : Type 0 where
  pub names_are : names ≡ map (λ i. i.item) (take k items)
  pub figures_are : figures ≡ map opened (take k items)
  pub small : All (λ i. i.opening ≤ MOST) (take k items)

pub opened_none : (items : List BookItem) (names : List ItemNo) (figures : List ItemFigure) → names ≡ [] → figures ≡ [] → AreOpened 0 items names figures
opened_none items names figures n f = record { names_are = n; figures_are = f; small = All-nil (λ (i : BookItem). i.opening ≤ MOST) }

-- an item more isn't among the names
pub item_is_new : (k : ℕ) (items : List BookItem) (names : List ItemNo) (figures : List ItemFigure) (x : BookItem) → AreOpened k items names figures
    → IsDistinct is_same_book_item items → k < length items → x ≡ get_or items k x → list_any (eq-value.it x.item) names ≡ false
item_is_new k items names figures x h once l is =
    let new : list_any (λ (j : BookItem). j.item.0 == x.item.0) (take k items) ≡ false =
    ap (λ (z : BookItem). list_any (λ j. j.item.0 == z.item.0) (take k items)) is ∙ is_new items k x once l in
    let test : list_any (eq-value.it x.item) (map (λ (i : BookItem). i.item) (take k items))
    ≡ list_any (λ (j : BookItem). j.item.0 == x.item.0) (take k items) =
    list_any_keys (λ (i : BookItem). i.item) _ (λ (j : BookItem). j.item.0 == x.item.0) (λ j. same_test x.item.0 j.item.0) (take k items) in
    ap (list_any (eq-value.it x.item)) h.names_are ∙ test ∙ new

pub opened_more : (k : ℕ) (items : List BookItem) (names names' : List ItemNo) (figures figures' : List ItemFigure) (x : BookItem) (g : ItemFigure)
    → AreOpened k items names figures
    → k < length items → x ≡ get_or items k x → names' ≡ names ++ x.item ∷ [] → figures' ≡ figures ++ g ∷ [] → g ≡ opened x → g.figure ≤ MOST
    → AreOpened (k + 1) items names' figures'
opened_more k items names names' figures figures' x g h l is n f o small =
    let more : take (k + 1) items ≡ take k items ++ x ∷ [] = take_more items k x l ∙ ap (λ (z : BookItem). take k items ++ z ∷ []) (sym is) in
    let opening : x.opening ≤ MOST = omega (arith, small, ap (λ (z : ItemFigure). z.figure) o) in
    record {
      names_are = n ∙ ap (λ (z : List ItemNo). z ++ x.item ∷ []) h.names_are
          ∙ sym (ap (map (λ (i : BookItem). i.item)) more ∙ map-append (λ (i : BookItem). i.item) (take k items) (x ∷ []));
      figures_are = f ∙ ap (λ (z : ItemFigure). figures ++ z ∷ []) o ∙ ap (λ (z : List ItemFigure). z ++ opened x ∷ []) h.figures_are
          ∙ sym (ap (map opened) more ∙ map-append opened (take k items) (x ∷ []));
      small = subst (λ (z : List BookItem). All (λ i. i.opening ≤ MOST) z) (sym more)
          (All-push (λ (i : BookItem). i.opening ≤ MOST) (take k items) x h.small opening);
    }

-- all of them
whole : (k : ℕ) (items : List BookItem) (names : List ItemNo) (figures : List ItemFigure) → AreOpened k items names figures → length items ≤ k
    → (names ≡ map (λ i. i.item) items) × (figures ≡ map opened items) × All (λ i. i.opening ≤ MOST) items
whole k items names figures h l =
    let all : take k items ≡ items = take_all k items l in (
      h.names_are ∙ ap (map (λ (i : BookItem). i.item)) all,
      h.figures_are
          ∙ ap (map opened) all,
      subst (λ (z : List BookItem). All (λ i. i.opening ≤ MOST) z) all h.small,
    )

pub opened_book : (k : ℕ) (items : List BookItem) (names : List ItemNo) (figures : List ItemFigure) → AreOpened k items names figures → length items ≤ k
    → IsBook 1 names figures
opened_book k items names figures h l =
    let all = whole k items names figures h l in
    record {
      small = omega arith;
      names_are = all.0 ∙ sym (names_opened items) ∙ sym (ap (map (λ (g : ItemFigure). g.item)) all.1);
      within = subst (All (IsFigureWithin 1)) (sym all.1) (within_opened items all.2);
    }

openings_small : (items : List BookItem) → All (λ i. i.opening ≤ MOST) items → All (λ i. i.opening ≤ MOST) (map book_form_item items)
openings_small [] h = All-nil (λ (i : FormItem). i.opening ≤ MOST)
openings_small (i ∷ items) h =
    All-cons (λ (i : FormItem). i.opening ≤ MOST) (book_form_item i) (map book_form_item items) (h 0 i (omega arith))
    (openings_small items (λ k d l. h (suc k) d (omega arith)))

pub opened_shows : (k : ℕ) (items : List BookItem) (names : List ItemNo) (gs : List ItemFigure) (kind : LaneKind) (horizon : ℕ) (rising : Bool)
    → AreOpened k items names gs → length items ≤ k
    → IsDistinct is_same_book_item items → rising ≡ is_schedule kind
    → BookShows (book_form kind horizon items) (record { rising = rising; horizon = horizon; next = 1; closed = false; begun = None; items = gs }) []
opened_shows k items names gs kind horizon rising h l once is =
    let all = whole k items names gs h l in
    let form = book_form kind horizon items in
    let known : gs ≡ map (figure_of []) (map book_form_item items) = all.1 ∙ sym (figures_opened items) in
    record {
      lane = record { once = items_once items once; openings = openings_small items all.2 };
      in_form = empty_in_form form;
      is = by gs known rising is;
    }
  where
    by : (hs : List ItemFigure) → hs ≡ map (figure_of []) (map book_form_item items) → (b : Bool) → b ≡ is_schedule kind
        → (record { rising = b; horizon = horizon; next = 1; closed = false; begun = None; items = hs }) ≡ figures (book_form kind horizon items) []
    by hs e b f =
        let W : Bool → List ItemFigure → Figures = λ c gs. record { rising = c; horizon = horizon; next = 1; closed = false; begun = None; items = gs } in
        ap (λ (c : Bool). W c hs) f ∙ ap (λ (gs : List ItemFigure). W (is_schedule kind) gs) e
