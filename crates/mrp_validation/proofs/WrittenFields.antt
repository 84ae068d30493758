-- A valid row written out: what its fields spell, and the names of what it names.
use Rattle.std.proofs.Common.{◌≡◌, ℕ, ◌==◌, ◌&&◌, Bool, true, false, if◌then◌else◌, get_or, List, [], ◌∷◌, length, codes, Option, Some, None, option_map}
use Rattle.std.proofs.Common.{position, unwrap_or, Result, Ok, Err, ok_or, refl, ap, sym, ◌∙◌, subst, arith}
use Rattle.std.specs.List.{list_all}
use Rattle.std.specs.Str.{bytes_eq, is_utf8}
use Rattle.std.proofs.lemmas.Bool.{and_parts, eqb-true}
use Rattle.std.proofs.lemmas.Option.{get_or_from_slice_get}
use Rattle.std.proofs.lemmas.Slice.Eq.{bytes_eq-Decides}
use Rattle.std.specs.Prelude.{decimal}
use Rattle.csv.specs.Records.{field_at}
use Rattle.mrp_master_data.specs.Spelling.{is_name}
use Rattle.mrp_master_data.specs.Parsing.{spelled_number, number_within}
use Rattle.mrp_master_data.proofs.Decimals.{number-spelled}
use Rattle.mrp_master_data.proofs.Ranges.{number_is}
use Rattle.mrp_master_data.specs.Names.{found_pair, pair_named, pair_of_item, plant_no}
use Rattle.mrp_master_data.specs.Table.{item_at, plant_at, Table}
use Rattle.mrp_validation.specs.declared.fault.TableFaultKind.{TableFaultKind}
use Rattle.mrp_validation.specs.declared.fault.TableFaultKind.TheVariants as fault
use Rattle.mrp_validation.specs.declared.kind.Kind.{Kind}
use Rattle.mrp_validation.specs.declared.kind.Kind.TheVariants as kind
use Rattle.mrp_validation.specs.Grammar.{field, is_empty, is_empty_from, is_free, kind_of, name_field, ranged, row_kind, used}
use Rattle.mrp_validation.specs.Reading.{kind_of_row}
use Rattle.mrp_master_data.specs.Said.{item_name, pair_item, pair_plant, plant_name}
use Rattle.mrp_validation.proofs.KeepingLists.{position_there}
use Rattle.mrp_validation.proofs.KeepingSteps.{after_check, after_some, same_Ok}

-- ---- the kind's word

abbrev pub word_of : Kind → List ℕ
word_of kind.Run = codes "run"
word_of kind.Plant = codes "plant"
word_of kind.Pair = codes "pair"
word_of kind.Bill = codes "bill"
word_of kind.Demand = codes "demand"
word_of kind.Receipt = codes "receipt"
word_of kind.Ship = codes "ship"
word_of kind.Cum = codes "cum"
word_of kind.Reset = codes "reset"
word_of kind.Firm = codes "firm"
word_of kind.Policy = codes "policy"
word_of kind.Usage = codes "usage"
word_of kind.Vendor = codes "vendor"
word_of kind.Day = codes "day"
word_of kind.End = codes "end"

chosen : (w : List ℕ) (named : Kind) (rest : Option Kind) (k : Kind) → (if bytes_eq w (word_of named) then Some named else rest) ≡ Some k
    → (rest ≡ Some k → w ≡ word_of k) → w ≡ word_of k
chosen w named rest k is more = by (bytes_eq w (word_of named)) refl is
  where
    by : (b : Bool) → bytes_eq w (word_of named) ≡ b → (if b then Some named else rest) ≡ Some k → w ≡ word_of k
    by true e is =
        let same : named ≡ k = cc in
        (bytes_eq-Decides w (word_of named)).0 e ∙ ap word_of same
    by false e is = more is

word_is : (w : List ℕ) (k : Kind) → kind_of w ≡ Some k → w ≡ word_of k
word_is w k is =
    chosen w kind.Demand _ k is (λ e1. chosen w kind.Receipt _ k e1
    (λ e2. chosen w kind.Ship _ k e2 (λ e3. chosen w kind.Bill _ k e3 (λ e4. chosen w kind.Pair _ k e4
    (λ e5. chosen w kind.Firm _ k e5 (λ e6. chosen w kind.Policy _ k e6 (λ e7. chosen w kind.Usage _ k e7 (λ e8. chosen w kind.Cum _ k e8
    (λ e9. chosen w kind.Reset _ k e9 (λ e10. chosen w kind.Vendor _ k e10 (λ e11. chosen w kind.Day _ k e11 (λ e12. chosen w kind.Plant _ k e12
    (λ e13. chosen w kind.Run _ k e13 (λ e14. chosen w kind.End None k e14 (λ e15. absurd (cc))))))))))))))))

-- ---- a row has eight fields

eight : (row : List (List ℕ)) → length row ≡ 8
    → row ≡ field row 0 ∷ field row 1 ∷ field row 2 ∷ field row 3 ∷ field row 4 ∷ field row 5 ∷ field row 6 ∷ field row 7 ∷ []
unfolding field_at
eight (a ∷ b ∷ c ∷ d ∷ e ∷ f ∷ g ∷ h ∷ []) is = refl
eight (a ∷ b ∷ c ∷ d ∷ e ∷ f ∷ g ∷ h ∷ i ∷ rest) is = absurd (omega (arith, is))
eight (a ∷ b ∷ c ∷ d ∷ e ∷ f ∷ g ∷ []) is = absurd (omega (arith, is))
eight (a ∷ b ∷ c ∷ d ∷ e ∷ f ∷ []) is = absurd (omega (arith, is))
eight (a ∷ b ∷ c ∷ d ∷ e ∷ []) is = absurd (omega (arith, is))
eight (a ∷ b ∷ c ∷ d ∷ []) is = absurd (omega (arith, is))
eight (a ∷ b ∷ c ∷ []) is = absurd (omega (arith, is))
eight (a ∷ b ∷ []) is = absurd (omega (arith, is))
eight (a ∷ []) is = absurd (omega (arith, is))
eight [] is = absurd (omega (arith, is))

-- eight fields that are equal one by one
pub fields_same : (a b c d e f g h a' b' c' d' e' f' g' h' : List ℕ) → a ≡ a' → b ≡ b' → c ≡ c' → d ≡ d' → e ≡ e' → f ≡ f' → g ≡ g' → h ≡ h'
    → ◌≡◌ {A = List (List ℕ)} (a ∷ b ∷ c ∷ d ∷ e ∷ f ∷ g ∷ h ∷ []) (a' ∷ b' ∷ c' ∷ d' ∷ e' ∷ f' ∷ g' ∷ h' ∷ [])
fields_same a b c d e f g h a' b' c' d' e' f' g' h' ea eb ec ed ee ef eg eh = cc

same_length : (n m : ℕ) → (n == m) ≡ true → n ≡ m
same_length n m e = eqb-true n m e

pub empty : (text : List ℕ) → is_empty text ≡ true → text ≡ []
empty [] e = refl
empty (c ∷ cs) e = absurd (let n = eqb-true (length (c ∷ cs)) 0 e in omega (arith, n))

-- each field is used or empty
pub record AreFree (row : List (List ℕ)) (n : ℕ) : Type 0 where
  pub one : is_free row n 1 ≡ true
  pub two : is_free row n 2 ≡ true
  pub three : is_free row n 3 ≡ true
  pub four : is_free row n 4 ≡ true
  pub five : is_free row n 5 ≡ true
  pub six : is_free row n 6 ≡ true
  pub seven : is_free row n 7 ≡ true

and_seven : (a b c d e f g : Bool) → (a && b && c && d && e && f && g) ≡ true → (a ≡ true) × (b ≡ true) × (c ≡ true) × (d ≡ true) × (e ≡ true) × (f ≡ true)
    × (g ≡ true)
and_seven true true true true true true true is = (refl, refl, refl, refl, refl, refl, refl)
and_seven true true true true true true false is = absurd (cc)
and_seven true true true true true false g is = absurd (cc)
and_seven true true true true false f g is = absurd (cc)
and_seven true true true false e f g is = absurd (cc)
and_seven true true false d e f g is = absurd (cc)
and_seven true false c d e f g is = absurd (cc)
and_seven false b c d e f g is = absurd (cc)

are_free : (row : List (List ℕ)) (n : ℕ) → is_empty_from row n ≡ true → AreFree row n
are_free row n is =
    let p = and_seven (is_free row n 1) (is_free row n 2) (is_free row n 3) (is_free row n 4) (is_free row n 5) (is_free row n 6) (is_free row n 7) is in
    record { one = p.0; two = p.1; three = p.2; four = p.3; five = p.4; six = p.5; seven = p.6 }

-- a row of that kind
pub record IsOfKind (row : List (List ℕ)) (k : Kind) : Type 0 where
  pub size : length row ≡ 8
  pub word : field row 0 ≡ word_of k
  pub free : AreFree row (used k)

pub of_kind : (row : List (List ℕ)) (k : Kind) → kind_of_row row ≡ Ok k → IsOfKind row k
unfolding kind_of_row row_kind
of_kind row k e =
    let a = after_check (list_all is_utf8 row) _ _ k e in
    let b = after_check (length row == 8) _ _ k a.1 in
    let c = after_some (kind_of (field row 0)) _ _ k b.1 in
    by c.0 (is_empty_from row (used c.0)) refl c.2 (word_is (field row 0) c.0 c.1) (same_length (length row) 8 b.0)
  where
    by : (l : Kind) (b : Bool) → is_empty_from row (used l) ≡ b → ◌≡◌ {A = Result Kind TableFaultKind} (if b then Ok l else Err fault.FieldCount) (Ok k)
        → field row 0 ≡ word_of l → length row ≡ 8 → IsOfKind row k
    by l true free e word size = subst (IsOfKind row) (same_Ok l k e) (record { size = size; word = word; free = are_free row (used l) free })
    by l false free e word size = absurd (cc)

-- the fields of a row of a kind, by how many it uses
pub two_used : (row : List (List ℕ)) (word b : List ℕ) → length row ≡ 8 → field row 0 ≡ word → AreFree row 2 → field row 1 ≡ b
    → row ≡ word ∷ b ∷ [] ∷ [] ∷ [] ∷ [] ∷ [] ∷ [] ∷ []
two_used row word b size ew free eb =
    eight row size ∙ fields_same _ _ _ _ _ _ _ _ word b [] [] [] [] [] [] ew eb (empty _ free.two) (empty _ free.three) (empty _ free.four) (empty _ free.five)
    (empty _ free.six) (empty _ free.seven)

pub three_used : (row : List (List ℕ)) (word b c : List ℕ) → length row ≡ 8 → field row 0 ≡ word → AreFree row 3 → field row 1 ≡ b → field row 2 ≡ c
    → row ≡ word ∷ b ∷ c ∷ [] ∷ [] ∷ [] ∷ [] ∷ [] ∷ []
three_used row word b c size ew free eb ec =
    eight row size ∙ fields_same _ _ _ _ _ _ _ _ word b c [] [] [] [] [] ew eb ec (empty _ free.three) (empty _ free.four) (empty _ free.five)
    (empty _ free.six) (empty _ free.seven)

pub four_used : (row : List (List ℕ)) (word b c d : List ℕ) → length row ≡ 8 → field row 0 ≡ word → AreFree row 4 → field row 1 ≡ b → field row 2 ≡ c
    → field row 3 ≡ d
    → row ≡ word ∷ b ∷ c ∷ d ∷ [] ∷ [] ∷ [] ∷ [] ∷ []
four_used row word b c d size ew free eb ec ed =
    eight row size ∙ fields_same _ _ _ _ _ _ _ _ word b c d [] [] [] [] ew eb ec ed (empty _ free.four) (empty _ free.five) (empty _ free.six)
    (empty _ free.seven)

pub five_used : (row : List (List ℕ)) (word b c d e : List ℕ) → length row ≡ 8 → field row 0 ≡ word → AreFree row 5 → field row 1 ≡ b → field row 2 ≡ c
    → field row 3 ≡ d → field row 4 ≡ e
    → row ≡ word ∷ b ∷ c ∷ d ∷ e ∷ [] ∷ [] ∷ [] ∷ []
five_used row word b c d e size ew free eb ec ed ee =
    eight row size ∙ fields_same _ _ _ _ _ _ _ _ word b c d e [] [] [] ew eb ec ed ee (empty _ free.five) (empty _ free.six) (empty _ free.seven)

pub six_used : (row : List (List ℕ)) (word b c d e f : List ℕ) → length row ≡ 8 → field row 0 ≡ word → AreFree row 6 → field row 1 ≡ b → field row 2 ≡ c
    → field row 3 ≡ d → field row 4 ≡ e → field row 5 ≡ f
    → row ≡ word ∷ b ∷ c ∷ d ∷ e ∷ f ∷ [] ∷ [] ∷ []
six_used row word b c d e f size ew free eb ec ed ee ef =
    eight row size ∙ fields_same _ _ _ _ _ _ _ _ word b c d e f [] [] ew eb ec ed ee ef (empty _ free.six) (empty _ free.seven)

pub seven_used : (row : List (List ℕ)) (word b c d e f g : List ℕ) → length row ≡ 8 → field row 0 ≡ word → AreFree row 7 → field row 1 ≡ b → field row 2 ≡ c
    → field row 3 ≡ d → field row 4 ≡ e → field row 5 ≡ f → field row 6 ≡ g
    → row ≡ word ∷ b ∷ c ∷ d ∷ e ∷ f ∷ g ∷ [] ∷ []
seven_used row word b c d e f g size ew free eb ec ed ee ef eg =
    eight row size ∙ fields_same _ _ _ _ _ _ _ _ word b c d e f g [] ew eb ec ed ee ef eg (empty _ free.seven)

pub all_used : (row : List (List ℕ)) (word b c d e f g h : List ℕ) → length row ≡ 8 → field row 0 ≡ word → field row 1 ≡ b → field row 2 ≡ c → field row 3 ≡ d
    → field row 4 ≡ e → field row 5 ≡ f
    → field row 6 ≡ g → field row 7 ≡ h → row ≡ word ∷ b ∷ c ∷ d ∷ e ∷ f ∷ g ∷ h ∷ []
all_used row word b c d e f g h size ew eb ec ed ee ef eg eh = eight row size ∙ fields_same _ _ _ _ _ _ _ _ word b c d e f g h ew eb ec ed ee ef eg eh

-- ---- names and numbers

pub name_text : (text name : List ℕ) → name_field text ≡ Ok name → text ≡ name
name_text text name e = by (is_name text) e
  where
    by : (b : Bool) → ◌≡◌ {A = Result (List ℕ) TableFaultKind} (if b then Ok text else Err fault.BadName) (Ok name) → text ≡ name
    by true e = same_Ok text name e
    by false e = absurd (cc)

pub ranged_text : (text : List ℕ) (low high n : ℕ) → ranged text low high ≡ Ok n → text ≡ decimal n
ranged_text text low high n e = by (number_within text low high) refl e
  where
    by : (o : Option ℕ) → number_within text low high ≡ o → ◌≡◌ {A = Result ℕ TableFaultKind} (ok_or o fault.BadNumber) (Ok n) → text ≡ decimal n
    by (Some m) is e = number_is text low high n (is ∙ ap (λ x. Some x) (same_Ok m n e))
    by None is e = absurd (cc)

pub number_is_text : (text : List ℕ) (n : ℕ) → spelled_number text ≡ Some n → text ≡ decimal n
number_is_text text n is = (number-spelled text n is).0

-- ---- the names of what was found by its name

pub named_at : (names : List (List ℕ)) (name : List ℕ) (i : ℕ) → position (bytes_eq name) names ≡ Some i → name ≡ get_or names i []
named_at names name i is =
    let there = position_there (bytes_eq name) names i is in
    (bytes_eq-Decides name there.0).0 there.3 ∙ sym (get_or_from_slice_get names i there.0 [] there.2)

pub plant_found : (N : Table) (name : List ℕ) (p : ℕ) → plant_no N name ≡ Some p → name ≡ plant_name N p
plant_found N name p is = named_at N.plants name p is

-- the plant and the item of a pair that was found
record Stands (N : Table) (p i x : ℕ) : Type 0 where
  plant : plant_at N x ≡ p
  item : item_at N x ≡ i

stands : (N : Table) (p i x : ℕ) → found_pair N p i ≡ Some x → Stands N p i x
stands N p i x is =
    let there = position_there (λ q. (q.plant.0 == p) && (q.item.0 == i)) N.pairs x is in
    let parts = and_parts (there.0.plant.0 == p) (there.0.item.0 == i) there.3 in
    record {
      plant = ap (λ o. unwrap_or (option_map (λ p. p.plant.0) o) 0) there.2 ∙ eqb-true there.0.plant.0 p parts.0;
      item = ap (λ o. unwrap_or (option_map (λ p. p.item.0) o) 0) there.2 ∙ eqb-true there.0.item.0 i parts.1;
    }

pub record IsNamed (N : Table) (at of : List ℕ) (x : ℕ) : Type 0 where
  pub plant : at ≡ pair_plant N x
  pub item : of ≡ pair_item N x

pub pair_found : (N : Table) (plant item : List ℕ) (x : ℕ) → pair_named N (plant_no N plant) item ≡ Some x → IsNamed N plant item x
pair_found N plant item x is = at (plant_no N plant) refl is
  where
    by : (p : ℕ) (o : Option ℕ) → plant_no N plant ≡ Some p → position (bytes_eq item) N.items ≡ o → pair_of_item N p o ≡ Some x → IsNamed N plant item x
    by p None ep ei e = absurd (cc)
    by p (Some i) ep ei e =
        let s = stands N p i x e in
        record {
          plant = plant_found N plant p ep ∙ ap (plant_name N) (sym s.plant);
          item = named_at N.items item i ei ∙ ap (item_name N) (sym s.item);
        }

    at : (o : Option ℕ) → plant_no N plant ≡ o → pair_named N o item ≡ Some x → IsNamed N plant item x
    at None ep e = absurd (cc)
    at (Some p) ep e = by p (position (bytes_eq item) N.items) ep refl e
