-- CSV output: what csv's writer adds, and rows one after the other.
use Rattle.std.proofs.Common.{◌≡◌, ℕ, zero, suc, ◌+◌, ◌<◌, ◌≤◌, List, [], ◌∷◌, ◌++◌, Option, Some, length, take, drop, get_or, subst, sym, ap, ◌∙◌, arith}
use Rattle.std.proofs.Common.{append-nil}
use Rattle.std.proofs.lemmas.List.{flat_map_more, take_more}
use Rattle.std.proofs.Math.Seq.{take-add}
use Rattle.std.specs.List.{flat_map, range_with_len}
use Rattle.std.specs.Io.KnownBytes.{Appends}
use Rattle.csv.proofs.WriteFacts.{appends-more}
use Rattle.csv.specs.Machine.{line_feed}
use Rattle.csv.specs.Writing.{comma, fields_text, is_blank, row_text}
use Rattle.csv.specs.declared.writer.QuoteStyle.TheVariants as style
use Rattle.csv.specs.declared.writer.WriterBuilder.{WriterBuilder}
use Rattle.std.proofs.Common.{Vec, Global, Result, IfOk}
use Rattle.std.proofs.lemmas.Result.{IfOk-weaker}
use Rattle.std.proofs.lemmas.Option.{get_or_from_slice_get}
use Rattle.mrp_master_data.specs.Table.{Table}
use Rattle.std.proofs.lemmas.List.FromFn.{map-range_with_len_more}
use Rattle.mrp_net.specs.Names.{IsNamed}
use Rattle.mrp_csv_out.specs.Rows.{row}
use Rattle.mrp_csv_out.specs.Writing.{joined, plain_writer}
use Rattle.mrp_cal.specs.Calendar.{CalendarTerms, first_day}
use Rattle.mrp_cal.specs.Days.{day_text}
use Rattle.mrp_csv_out.specs.Dates.{period_date}
use Rattle.mrp_csv_out.specs.DateLists.{first_dates}
use Rattle.mrp_csv_out.specs.Names.{plant_of, item_of}

-- fields after the first, with a comma before each
fields_joined : (first : List ℕ) (rest : List (List ℕ)) → first ++ fields_text plain_writer rest ≡ joined (first ∷ rest)
unfolding fields_text
fields_joined first [] = append-nil first
fields_joined first (next ∷ rest) = ap (λ t. first ++ comma ∷ t) (fields_joined next rest)

-- what csv's writer writes of a row of two fields and more
pub row_plain : (fields : List (List ℕ)) → 2 ≤ length fields → row_text plain_writer fields ≡ row fields
unfolding row is_blank
row_plain [] few = absurd (omega arith)
row_plain (first ∷ []) few = absurd (omega arith)
row_plain (first ∷ next ∷ rest) few = ap (λ t. t ++ line_feed ∷ []) (fields_joined first (next ∷ rest))

-- a writer that quotes nothing adds a row
pub row_added : (setup : WriterBuilder) (old new : List ℕ) (fields : List (List ℕ)) → setup ≡ plain_writer → 2 ≤ length fields
    → ((setup.style ≡ style.NonNumeric → ⊥) → Appends (Some old) (Some new) (row_text setup fields)) → new ≡ old ++ row fields
row_added setup old new fields same many said =
    let P : WriterBuilder → Type 0 = λ s. (s.style ≡ style.NonNumeric → ⊥) → Appends (Some old) (Some new) (row_text s fields) in
    let added : new ≡ old ++ row_text plain_writer fields = subst P same said (λ e. cc) in
    added ∙ ap (λ t. old ++ t) (row_plain fields many)

-- the numbers from a on, and one more
pub range-more : (a n : ℕ) → range_with_len a (suc n) ≡ range_with_len a n ++ (a + n) ∷ []
range-more a zero = let e : a ≡ a + 0 = omega arith in ap (λ k. k ∷ []) e
range-more a (suc n) =
    let e : a + 1 + n ≡ a + suc n = omega arith in
    ap (λ xs. a ∷ xs) (range-more (a + 1) n ∙ ap (λ k. range_with_len (a + 1) n ++ k ∷ []) e)

-- the rows so far, and those of the next number
pub rows-more : (f : ℕ → List ℕ) (before now after : List ℕ) (n : ℕ) → now ≡ before ++ flat_map f (range_with_len 0 n) → after ≡ now ++ f n
    → after ≡ before ++ flat_map f (range_with_len 0 (n + 1))
rows-more f before now after n so_far more =
    let zero_more : 0 + n ≡ n = omega arith in
    let one : n + 1 ≡ suc n = omega arith in
    let range : range_with_len 0 (n + 1) ≡ range_with_len 0 n ++ n ∷ [] =
    ap (range_with_len 0) one ∙ range-more 0 n ∙ ap (λ k. range_with_len 0 n ++ k ∷ []) zero_more in
    more ∙ ap (λ xs. xs ++ f n) so_far ∙ flat_map_more f before (range_with_len 0 n) n ∙ ap (λ xs. before ++ flat_map f xs) (sym range)

-- the same from any number on
pub rows-more_from : (f : ℕ → List ℕ) (before now after : List ℕ) (a n next : ℕ) → a + n ≡ next → now ≡ before ++ flat_map f (range_with_len a n)
    → after ≡ now ++ f next
    → after ≡ before ++ flat_map f (range_with_len a (n + 1))
rows-more_from f before now after a n next here so_far more =
    let one : n + 1 ≡ suc n = omega arith in
    let range : range_with_len a (n + 1) ≡ range_with_len a n ++ next ∷ [] =
    ap (range_with_len a) one ∙ range-more a n ∙ ap (λ k. range_with_len a n ++ k ∷ []) here in
    more ∙ ap (λ xs. xs ++ f next) so_far ∙ flat_map_more f before (range_with_len a n) next ∙ ap (λ xs. before ++ flat_map f xs) (sym range)

-- the rows of the first elements of a list, and that of the next
pub rows_of-more : {A : Type 0} (f : A → List ℕ) (xs : List A) (d : A) (before now after : List ℕ) (i : ℕ) → i < length xs
    → now ≡ before ++ flat_map f (take i xs) → after ≡ now ++ f (get_or xs i d) → after ≡ before ++ flat_map f (take (i + 1) xs)
rows_of-more f xs d before now after i lt so_far more =
    more ∙ ap (λ ys. ys ++ f (get_or xs i d)) so_far ∙ flat_map_more f before (take i xs) (get_or xs i d)
    ∙ ap (λ ys. before ++ flat_map f ys) (sym (take_more xs i d lt))

-- a front was written, and the next bytes after it
pub front-more : (a b c : Option (List ℕ)) (bytes : List ℕ) (sent taken : ℕ) → Appends a b (take sent bytes)
    → Appends b c (take taken (drop sent bytes)) → Appends a c (take (sent + taken) bytes)
front-more a b c bytes sent taken first next =
    let P : List ℕ → Type 0 = λ t. Appends a c t in
    subst P (sym (take-add sent taken bytes)) (appends-more a b c _ _ first next)

-- one more date
pub dates-more : (calendar : CalendarTerms) (dates more : List (List ℕ)) (date : List ℕ) (n : ℕ) → dates ≡ first_dates calendar n
    → more ≡ dates ++ date ∷ [] → date ≡ day_text (first_day calendar n) → more ≡ first_dates calendar (n + 1)
unfolding period_date
dates-more calendar dates more date n so_far adds here =
    adds ∙ ap (λ xs. xs ++ date ∷ []) so_far ∙ ap (λ d. first_dates calendar n ++ d ∷ []) here
    ∙ sym (map-range_with_len_more (λ t. day_text (first_day calendar t)) 0 n n (omega arith))

-- the names of a pair
pub plant_is : (N : Table) (x : ℕ) (plant item : List ℕ) → IsNamed N x plant item → plant_of N x ≡ plant
plant_is N x plant item named = get_or_from_slice_get N.plants _ plant [] named.at_plant

pub item_is : (N : Table) (x : ℕ) (plant item : List ℕ) → IsNamed N x plant item → item_of N x ≡ item
item_is N x plant item named = get_or_from_slice_get N.items _ item [] named.of_item

-- the rows of all, where none was written before
whole_text : (before now text : List ℕ) → before ≡ [] → now ≡ before ++ text → now ≡ text
whole_text before now text none so_far = so_far ∙ ap (λ xs. xs ++ text) none

pub all_rows : {E : Type 0} (r : Result (Vec ℕ Global) E) (before now text : List ℕ) → IfOk r (λ v. v.items ≡ now) → now ≡ before ++ text → before ≡ []
    → IfOk r (λ v. v.items ≡ text)
all_rows r before now text whole so_far none = IfOk-weaker r _ _ (λ v e. e ∙ whole_text before now text none so_far) whole

-- the same after the names of the columns
pub headed_rows : {E : Type 0} (r : Result (Vec ℕ Global) E) (first before now names text : List ℕ) → IfOk r (λ v. v.items ≡ now) → now ≡ before ++ text
    → before ≡ first ++ names → first ≡ [] → IfOk r (λ v. v.items ≡ names ++ text)
headed_rows r first before now names text whole so_far headed none =
    let at_first : before ≡ names = headed ∙ ap (λ xs. xs ++ names) none in
    IfOk-weaker r _ _ (λ v e. e ∙ so_far ∙ ap (λ xs. xs ++ text) at_first) whole
