-- The book: what a record that is booked or refused says of the lists that the book shows.
use Rattle.std.proofs.Common.{◌≡◌, ℕ, ◌<◌, ◌==◌, length, Some, None, Option, List, [], ◌∷◌, ◌++◌, refl, sym, ◌∙◌, ap}
use Rattle.std.specs.Prelude.{option_map, position, slice_index_or, Result, Ok, Err, OnOk, IfErr}
use Rattle.mrp_record.specs.declared.record.Record.{Record}
use Rattle.mrp_record.specs.Entries.{contents}
use Rattle.mrp_record.specs.Form.{FormItem, LaneForm, item_on, IsInForm}
use Rattle.mrp_book.specs.declared.fault.BookFault.{BookFault}
use Rattle.mrp_book.specs.After.{after, Books}
use Rattle.mrp_book.specs.declared.item.ItemFigure.{ItemFigure}
use Rattle.mrp_book.specs.Faults.{find_item, first_fault}
use Rattle.mrp_book.specs.Figures.{Figures, figure_of, figures, BookShows}
use Rattle.mrp_book.proofs.Advancing.{figures_after}
use Rattle.mrp_book.proofs.Deciding.{continues, find_figure, no_fault}
use Rattle.mrp_book.proofs.Following.{in_form_push, in_form_last}
use Rattle.mrp_book.proofs.Places.{found_figure, found_nowhere, shown_at}

pub booked : (old new : Figures) (r : Record) → first_fault old r ≡ None → new ≡ after old r
    → (form : LaneForm) (records : List Record) → BookShows form old records → BookShows form new (records ++ r ∷ [])
booked old new r free is form records s =
    let none : first_fault (figures form records) r ≡ None = ap (λ (f : Figures). first_fault f r) (sym s.is) ∙ free in
    let c = continues form records s.in_form r none in
    record {
      lane = s.lane;
      in_form = in_form_push form records r s.in_form c;
      is = is ∙ ap (λ (f : Figures). after f r) s.is ∙ sym (figures_after form records r s.lane.once c.fits);
    }

pub refused : (old : Figures) (r : Record) (f : BookFault) → first_fault old r ≡ Some f
    → (form : LaneForm) (records : List Record) → BookShows form old records
    → (first_fault (figures form records) r ≡ Some f) × (IsInForm form (records ++ r ∷ []) → ⊥)
refused old r f e form records s =
    let fault : first_fault (figures form records) r ≡ Some f = ap (λ (g : Figures). first_fault g r) (sym s.is) ∙ e in
    (fault, λ h. let none = no_fault form records s.in_form r (in_form_last form records r h) in differ f (sym fault ∙ none))
  where
    differ : (f : BookFault) → Some f ≡ None → ⊥
    differ f e = cc (e)

-- what a book knows of an item is what each shown list gives
pub shown : {A : Type 0} (f : ItemFigure → A) (form : LaneForm) (records : List Record) (book : Figures) (item : ℕ) (o : Option ItemFigure)
    → find_item book.items item ≡ o → BookShows form book records
    → option_map f o ≡ option_map (λ i. f (figure_of (contents records) i)) (item_on form item)
shown {A} f form records book item o e s =
    let all : o ≡ option_map (figure_of (contents records)) (item_on form item) =
    sym e ∙ ap (λ (b : Figures). find_item b.items item) s.is ∙ find_figure (contents records) form.items item in
    ap (option_map f) all ∙ twice (item_on form item)
  where
    twice : (o : Option FormItem) → option_map f (option_map (figure_of (contents records)) o) ≡ option_map (λ i. f (figure_of (contents records) i)) o
    twice None = refl
    twice (Some i) = refl

pub shown_none : {A : Type 0} (f : ItemFigure → A) (form : LaneForm) (records : List Record) (book : Figures) (item : ℕ)
    → None ≡ position (λ g. g.item.0 == item) book.items → BookShows form book records
    → None ≡ option_map (λ i. f (figure_of (contents records) i)) (item_on form item)
shown_none f form records book item e s = shown f form records book item None (found_nowhere (λ (g : ItemFigure). g.item.0 == item) book.items (sym e)) s

pub shown_some : {A : Type 0} (f : ItemFigure → A) (form : LaneForm) (records : List Record) (mine book : Figures) (item k : ℕ) (g : ItemFigure) → mine ≡ book
    → Some k ≡ position (λ g. g.item.0 == item) book.items
    → k < length book.items → g ≡ slice_index_or mine.items k g → BookShows form book records
    → Some (f g) ≡ option_map (λ i. f (figure_of (contents records) i)) (item_on form item)
shown_some f form records mine book item k g same e within is s =
    shown f form records book item (Some g) (found_figure book.items item k g (sym e) (shown_at mine book k g same within is)) s

pub books_booked : (old new : Figures) (r : Record) (result : Result (Unit {0}) BookFault) → Books old new r result
    → OnOk result ((form : LaneForm) (records : List Record) → BookShows form old records → BookShows form new (records ++ r ∷ []))
books_booked old new r (Ok u) h = booked old new r h.0 h.1
books_booked old new r (Err f) h = tt

pub books_refused : (old new : Figures) (r : Record) (result : Result (Unit {0}) BookFault) → Books old new r result
    → IfErr result (λ fault. (form : LaneForm) (records : List Record) → BookShows form old records
    → (first_fault (figures form records) r ≡ Some fault) × (IsInForm form (records ++ r ∷ []) → ⊥))
books_refused old new r (Ok u) h = tt
books_refused old new r (Err f) h = refused old r f h.0
