-- The book: the first test of a record over its figures is the first of the faults that the record has over the list.
use Rattle.std.proofs.Common.{◌≡◌, ℕ, ◌+◌, ◌==◌, Bool, true, false, cond, not, ◌||◌, ◌&&◌, Some, None, Option, List, [], ◌∷◌, ◌++◌, inl, inr, refl, sym, ◌∙◌}
use Rattle.std.proofs.Common.{ap, length, map, arith}
use Rattle.std.specs.Prelude.{nat_lt, nat_le, is_some, option_map, unwrap_or, Result, Ok, Err, IfErr}
use Rattle.std.specs.List.{list_all, list_any}
use Rattle.std.proofs.lemmas.Bool.{cases_lt, le-ltb, lt-ltb, le-leb, lt-leb}
use Rattle.mrp_qty.specs.declared.quantity.TheConstants.{MOST}
use Rattle.mrp_master_data.specs.declared.numbers.ItemNo.{ItemNo}
use Rattle.mrp_record.specs.declared.record.Record.{Record}
use Rattle.mrp_record.specs.declared.record.Record.TheVariants.{Line, ItemEnd, Reset, Close}
use Rattle.mrp_record.specs.Entries.{Entry, contents, is_ended, is_closed, in_force, closed_by}
use Rattle.mrp_record.specs.Blocks.{line_count, next_period, was_reset}
use Rattle.mrp_record.specs.Form.{FormItem, LaneForm, item_on, is_other_open, is_anew, IsInForm}
use Rattle.mrp_record.proofs.FormItems.{item_is}
use Rattle.mrp_book.specs.declared.fault.BookFault.{BookFault}
use Rattle.mrp_book.specs.declared.fault.BookFault.TheVariants as fault
use Rattle.mrp_book.specs.declared.item.ItemFigure.{ItemFigure}
use Rattle.mrp_book.specs.After.{Books}
use Rattle.mrp_book.specs.Faults.{Test, first_of, number_tests, tests_of_item, find_item, is_other_begun, line_tests, end_tests, reset_tests, first_fault}
use Rattle.mrp_book.specs.Figures.{Figures, figures, figure_of, begun, BookShows}
use Rattle.mrp_book.specs.Laws.{FaultsAreFirst}
use Rattle.mrp_book.specs.Meanings.{opening_of, reset_of, first_had}
use Rattle.mrp_book.proofs.Deciding.{find_figure}
use Rattle.mrp_book.proofs.Following.{begun_agrees}

-- ---- one test more

asked : (a b : Bool) (f : BookFault) (x y : Option BookFault) → a ≡ b → x ≡ y → cond a (Some f) x ≡ cond b (Some f) y
asked a b f x y e g = ap (λ (c : Bool). cond c (Some f) x) e ∙ ap (λ (o : Option BookFault). cond b (Some f) o) g

-- a fault that the record hasn't
skipped : (b : Bool) (f : BookFault) (x y : Option BookFault) → b ≡ false → x ≡ y → x ≡ cond b (Some f) y
skipped b f x y e g = g ∙ ap (λ (c : Bool). cond c (Some f) y) (sym e)

-- ---- tests that say the same

before_next : (a n : ℕ) → nat_lt a (n + 1) ≡ nat_le a n
before_next a n = elim (cases_lt n a) [
  | inl over ↦ le-ltb a (n + 1) (omega arith) ∙ sym (lt-leb a n over)
  | inr within ↦ lt-ltb a (n + 1) (omega arith) ∙ sym (le-leb a n within)
]

not_below : (a b : ℕ) → nat_le a b ≡ not (nat_lt b a)
not_below a b = elim (cases_lt b a) [
  | inl below ↦ lt-leb a b below ∙ sym (ap not (lt-ltb b a below))
  | inr above ↦ le-leb a b above ∙ sym (ap not (le-ltb b a above))
]

wrong_side : (w a : Bool) → cond w (not a) a ≡ ((w && not a) || (a && not w))
wrong_side true true = refl
wrong_side true false = refl
wrong_side false true = refl
wrong_side false false = refl

or_false : (b : Bool) → b ≡ (b || false)
or_false true = refl
or_false false = refl

or_grouped : (a b c : Bool) → (a || (b || c)) ≡ (a || b || c)
or_grouped true b c = refl
or_grouped false b c = refl

some_unended : (es : List Entry) (items : List FormItem) → not (list_all (λ g. g.ended) (map (figure_of es) items))
    ≡ list_any (λ i. not (is_ended i.item es)) items
some_unended es [] = refl
some_unended es (i ∷ items) = by (is_ended i.item es) (some_unended es items)
  where
    by : (b : Bool) → not (list_all (λ g. g.ended) (map (figure_of es) items)) ≡ list_any (λ i. not (is_ended i.item es)) items
        → not (b && list_all (λ g. g.ended) (map (figure_of es) items)) ≡ (not b || list_any (λ i. not (is_ended i.item es)) items)
    by true e = e
    by false e = refl

-- ---- an item of the lane

record IsKnown (form : LaneForm) (es : List Entry) (item : ℕ) (i : FormItem) : Type 0 where
  found : item_on form item ≡ Some i
  same : i.item ≡ item
  opening : opening_of form item ≡ i.opening
  reset : reset_of form item ≡ i.reset
  turn : is_other_begun (begun es) item ≡ is_other_open form item es

known : (form : LaneForm) (records : List Record) → IsInForm form records → (item : ℕ) (i : FormItem) → item_on form item ≡ Some i
    → IsKnown form (contents records) item i
known form records h item i found = record {
  found = found;
  same = item_is form.items item i found;
  opening = ap (λ (o : Option FormItem). unwrap_or (option_map (λ (j : FormItem). j.opening) o) 0) found;
  reset = ap (λ (o : Option FormItem). unwrap_or (option_map (λ (j : FormItem). j.reset) o) None) found;
  turn = begun_agrees form records h item;
}

on_lane : (form : LaneForm) (es : List Entry) (item : ℕ) (i : FormItem) → IsKnown form es item i → not (is_some (item_on form item)) ≡ false
on_lane form es item i k = ap (λ (o : Option FormItem). not (is_some o)) k.found

in_turn : (form : LaneForm) (es : List Entry) (item : ℕ) (i : FormItem) → IsKnown form es item i
    → (is_ended i.item es || is_other_begun (begun es) item) ≡ (is_ended item es || is_other_open form item es)
in_turn form es item i k =
    ap (λ (n : ℕ). is_ended n es || is_other_begun (begun es) item) k.same ∙ ap (λ (b : Bool). is_ended item es || b) k.turn

force : (form : LaneForm) (es : List Entry) (item : ℕ) (i : FormItem) → IsKnown form es item i
    → in_force i.opening i.item es ≡ in_force (opening_of form item) item es
force form es item i k =
    ap (λ (n : ℕ). in_force i.opening n es) k.same ∙ ap (λ (n : ℕ). in_force n item es) (sym k.opening)

-- the tests that each record of the item has before its own
item_asked : (form : LaneForm) (records : List Record) (number n : ℕ) (i : FormItem) → IsKnown form (contents records) n i → (x y : Option BookFault) → x ≡ y
    → cond (nat_lt number (length records + 1)) (Some fault.Repeated) (cond (nat_lt (length records + 1) number) (Some fault.Gap)
    (cond (is_closed (contents records)) (Some fault.AfterClose)
    (cond (is_ended i.item (contents records) || is_other_begun (begun (contents records)) n) (Some fault.AfterItemEnd) x)))
    ≡ cond (nat_le number (length records)) (Some fault.Repeated) (cond (nat_lt (length records + 1) number) (Some fault.Gap)
    (cond (is_closed (contents records)) (Some fault.AfterClose) (cond (not (is_some (item_on form n))) (Some fault.NotOnLane)
    (cond (is_ended n (contents records) || is_other_open form n (contents records)) (Some fault.AfterItemEnd) y))))
item_asked form records number n i k x y same =
    let es = contents records in
    asked _ _ fault.Repeated _ _ (before_next number (length records))
    (asked _ _ fault.Gap _ _ refl
    (asked _ _ fault.AfterClose _ _ refl
    (skipped _ fault.NotOnLane _ _ (on_lane form es n i k)
    (asked _ _ fault.AfterItemEnd _ _ (in_turn form es n i k) same))))

-- ---- records of each kind

line_first : (form : LaneForm) (records : List Record) (number : ℕ) (item : ItemNo) (p q c : ℕ) (i : FormItem) → IsKnown form (contents records) item.0 i
    → first_of (number_tests (figures form records) number ++ tests_of_item (Some (figure_of (contents records) i)) (begun (contents records)) item.0
    (line_tests form.rising form.horizon number p q c))
    ≡ first_had form records (Line number item p q c)
line_first form records number item p q c i k =
    let es = contents records in
    let n = item.0 in
    let period : (nat_le form.horizon p || (form.rising && nat_lt p (next_period i.item es)))
    ≡ (not (nat_lt p form.horizon) || (form.rising && nat_lt p (next_period n es))) =
    ap (λ (m : ℕ). nat_le form.horizon p || (form.rising && nat_lt p (next_period m es))) k.same
    ∙ ap (λ (b : Bool). b || (form.rising && nat_lt p (next_period n es))) (not_below form.horizon p) in
    let cum : not (c == in_force i.opening i.item es + q) ≡ not (c == in_force (opening_of form n) n es + q) =
    ap (λ (m : ℕ). not (c == m + q)) (force form es n i k) in
    let large : (nat_lt MOST number || nat_lt MOST (c + closed_by i.item es)) ≡ (nat_lt MOST number || nat_lt MOST (c + closed_by n es)) =
    ap (λ (m : ℕ). nat_lt MOST number || nat_lt MOST (c + closed_by m es)) k.same in
    let side : cond (was_reset i.item es) (not (is_anew i.reset p)) (is_anew i.reset p)
    ≡ ((was_reset n es && not (is_anew (reset_of form n) p)) || (is_anew (reset_of form n) p && not (was_reset n es))) =
    ap (λ (m : ℕ). cond (was_reset m es) (not (is_anew i.reset p)) (is_anew i.reset p)) k.same
    ∙ ap (λ (o : Option ℕ). cond (was_reset n es) (not (is_anew o p)) (is_anew o p)) (sym k.reset)
    ∙ wrong_side (was_reset n es) (is_anew (reset_of form n) p) in
    item_asked form records number n i k _ _
    (asked _ _ fault.PeriodWrong _ _ period
    (asked _ _ fault.QuantityZero _ _ refl
    (asked _ _ fault.CumWrong _ _ cum
    (asked _ _ fault.TooLarge _ _ large
    (asked _ _ fault.ResetWrong _ _ side refl)))))

end_first : (form : LaneForm) (records : List Record) (number : ℕ) (item : ItemNo) (m c : ℕ) (i : FormItem) → IsKnown form (contents records) item.0 i
    → first_of (number_tests (figures form records) number ++ tests_of_item (Some (figure_of (contents records) i)) (begun (contents records)) item.0
    (end_tests number m c))
    ≡ first_had form records (ItemEnd number item m c)
end_first form records number item m c i k =
    let es = contents records in
    let n = item.0 in
    let end : (not (m == line_count i.item es) || not (c == in_force i.opening i.item es))
    ≡ (not (m == line_count n es) || not (c == in_force (opening_of form n) n es)) =
    ap (λ (j : ℕ). not (m == line_count j es) || not (c == in_force i.opening i.item es)) k.same
    ∙ ap (λ (j : ℕ). not (m == line_count n es) || not (c == j)) (force form es n i k) in
    let missing : (is_some i.reset && not (was_reset i.item es)) ≡ (is_some (reset_of form n) && not (was_reset n es)) =
    ap (λ (j : ℕ). is_some i.reset && not (was_reset j es)) k.same ∙ ap (λ (o : Option ℕ). is_some o && not (was_reset n es)) (sym k.reset) in
    item_asked form records number n i k _ _
    (asked _ _ fault.TooLarge _ _ (or_false (nat_lt MOST number))
    (asked _ _ fault.EndWrong _ _ end
    (asked _ _ fault.ResetWrong _ _ missing refl)))

reset_first : (form : LaneForm) (records : List Record) (number : ℕ) (item : ItemNo) (c : ℕ) (i : FormItem) → IsKnown form (contents records) item.0 i
    → first_of (number_tests (figures form records) number ++ tests_of_item (Some (figure_of (contents records) i)) (begun (contents records)) item.0
    (reset_tests number c))
    ≡ first_had form records (Reset number item c)
reset_first form records number item c i k =
    let es = contents records in
    let n = item.0 in
    let wrong : (not (is_some i.reset) || (was_reset i.item es || not (c == in_force i.opening i.item es)))
    ≡ (not (is_some (reset_of form n)) || was_reset n es || not (c == in_force (opening_of form n) n es)) =
    ap (λ (o : Option ℕ). not (is_some o) || (was_reset i.item es || not (c == in_force i.opening i.item es))) (sym k.reset)
    ∙ ap (λ (j : ℕ). not (is_some (reset_of form n)) || (was_reset j es || not (c == in_force i.opening i.item es))) k.same
    ∙ ap (λ (j : ℕ). not (is_some (reset_of form n)) || (was_reset n es || not (c == j))) (force form es n i k)
    ∙ or_grouped (not (is_some (reset_of form n))) (was_reset n es) (not (c == in_force (opening_of form n) n es)) in
    item_asked form records number n i k _ _
    (asked _ _ fault.TooLarge _ _ (or_false (nat_lt MOST number))
    (asked _ _ fault.ResetWrong _ _ wrong refl))

close_first : (form : LaneForm) (records : List Record) (number : ℕ) → first_fault (figures form records) (Close number) ≡ first_had form records (Close number)
close_first form records number =
    let es = contents records in
    asked _ _ fault.Repeated _ _ (before_next number (length records))
    (asked _ _ fault.Gap _ _ refl
    (asked _ _ fault.AfterClose _ _ refl
    (asked _ _ fault.TooLarge _ _ (or_false (nat_lt MOST number))
    (asked _ _ fault.CloseEarly _ _ (some_unended es form.items) refl))))

-- a record of an item that isn't on the lane: of the own faults of such a record only this one is answered
off_lane : (number n : ℕ) (closed : Bool) (o : Option FormItem) (rest : Option BookFault) → o ≡ None
    → first_of (record { holds = nat_lt number (n + 1); fault = fault.Repeated } ∷ record { holds = nat_lt (n + 1) number; fault = fault.Gap }
    ∷ record { holds = closed; fault = fault.AfterClose } ∷ record { holds = true; fault = fault.NotOnLane } ∷ [])
    ≡ cond (nat_le number n) (Some fault.Repeated) (cond (nat_lt (n + 1) number) (Some fault.Gap)
    (cond closed (Some fault.AfterClose) (cond (not (is_some o)) (Some fault.NotOnLane) rest)))
off_lane number n closed o rest none =
    asked _ _ fault.Repeated _ _ (before_next number n)
    (asked _ _ fault.Gap _ _ refl
    (asked _ _ fault.AfterClose _ _ refl (sym (ap (λ (z : Option FormItem). cond (not (is_some z)) (Some fault.NotOnLane) rest) none))))

-- ---- all records

-- the tests of a record of an item, by what the lane knows of the item
with_known : (form : LaneForm) (records : List Record) (number item : ℕ) (tests : ItemFigure → List Test) (o : Option FormItem) → item_on form item ≡ o
    → first_of (number_tests (figures form records) number ++ tests_of_item (find_item (map (figure_of (contents records)) form.items) item)
    (begun (contents records)) item tests)
    ≡ first_of (number_tests (figures form records) number ++ tests_of_item (option_map (figure_of (contents records)) o) (begun (contents records)) item tests)
with_known form records number item tests o e =
    let es = contents records in
    ap (λ (g : Option ItemFigure). first_of (number_tests (figures form records) number ++ tests_of_item g (begun es) item tests))
    (find_figure es form.items item ∙ ap (option_map (figure_of es)) e)

pub faults_are_first : FaultsAreFirst
faults_are_first form records h (Line number item p q c) = by (item_on form item.0) refl
  where
    by : (o : Option FormItem) → item_on form item.0 ≡ o → first_fault (figures form records) (Line number item p q c)
        ≡ first_had form records (Line number item p q c)
    by None e =
        with_known form records number item.0 (line_tests form.rising form.horizon number p q c) None e
        ∙ off_lane number (length records) (is_closed (contents records)) (item_on form item.0) _ e
    by (Some i) e =
        with_known form records number item.0 (line_tests form.rising form.horizon number p q c) (Some i) e
        ∙ line_first form records number item p q c i (known form records h item.0 i e)
faults_are_first form records h (ItemEnd number item m c) = by (item_on form item.0) refl
  where
    by : (o : Option FormItem) → item_on form item.0 ≡ o → first_fault (figures form records) (ItemEnd number item m c)
        ≡ first_had form records (ItemEnd number item m c)
    by None e =
        with_known form records number item.0 (end_tests number m c) None e
        ∙ off_lane number (length records) (is_closed (contents records)) (item_on form item.0) _ e
    by (Some i) e =
        with_known form records number item.0 (end_tests number m c) (Some i) e
        ∙ end_first form records number item m c i (known form records h item.0 i e)
faults_are_first form records h (Reset number item c) = by (item_on form item.0) refl
  where
    by : (o : Option FormItem) → item_on form item.0 ≡ o → first_fault (figures form records) (Reset number item c)
        ≡ first_had form records (Reset number item c)
    by None e =
        with_known form records number item.0 (reset_tests number c) None e
        ∙ off_lane number (length records) (is_closed (contents records)) (item_on form item.0) _ e
    by (Some i) e =
        with_known form records number item.0 (reset_tests number c) (Some i) e
        ∙ reset_first form records number item c i (known form records h item.0 i e)
faults_are_first form records h (Close number) = close_first form records number

-- the fault that a book answers is the first that the record has, over each list that the book shows
pub books_first : (old new : Figures) (r : Record) (result : Result (Unit {0}) BookFault) → Books old new r result
    → IfErr result (λ f. (form : LaneForm) (records : List Record) → BookShows form old records → first_had form records r ≡ Some f)
books_first old new r (Ok u) h = tt
books_first old new r (Err f) h =
    λ form records s. sym (faults_are_first form records s.in_form r) ∙ ap (λ (g : Figures). first_fault g r) (sym s.is) ∙ h.0
