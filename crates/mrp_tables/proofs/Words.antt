-- The reader of tables: by its keys, names are equal where their keys are.
use Rattle.std.proofs.Common.{◌≡◌, ◌<◌, ◌≤◌, ℕ, Bool, true, false, nat_le, ◌==◌, ◌&&◌, eq-eqb, if◌then◌else◌, Option, Some, None, zero, suc, ◌+◌, ◌*◌, List, []}
use Rattle.std.proofs.Common.{◌∷◌, ◌++◌, length, take, drop, get_or, refl, ap, sym, ◌∙◌, subst, arith, Fits, w8}
use Rattle.std.specs.List.{All}
use Rattle.std.proofs.lemmas.List.Elements.{All-cons, All-head, All-tail, All-take, All-drop}
use Rattle.std.proofs.lemmas.List.{take-append-drop, take_all, drop_all, drop-drop}
use Rattle.std.proofs.lemmas.Bool.{and_parts}
use Rattle.std.proofs.lemmas.Bool.Decides.{nat_tests}
use Rattle.std.proofs.lemmas.Slice.Eq.{bytes_eq-Decides}
use Rattle.std.specs.Cmp.Lexicographic.{nat_list_eq_equiv}
use Rattle.std.specs.List.{list_all}
use Rattle.std.specs.Str.{bytes_eq}
use Rattle.mrp_master_data.specs.Spelling.{is_name_byte}
use Rattle.mrp_master_data.specs.Table.{IsName}
use Rattle.mrp_tables.specs.contracts.name_key.NameKeyPartialEq.TheImpl.{eq-value as same_name}
use Rattle.mrp_tables.specs.declared.name_key.NameKey.{NameKey}
use Rattle.mrp_tables.specs.Keys.{key_of, word_of}

abbrev pub IsByte : ℕ → Type 0
IsByte b = b < 256

-- bytes of which the words are equal
pub word_same : (s t : List ℕ) → All IsByte s → All IsByte t → word_of s ≡ word_of t → s ≡ t
unfolding word_of
word_same [] [] hs ht e = refl
word_same [] (c ∷ cs) hs ht e = absurd (omega (arith, e))
word_same (b ∷ bs) [] hs ht e = absurd (omega (arith, e))
word_same (b ∷ bs) (c ∷ cs) hs ht e =
    let lb = All-head IsByte b bs hs in
    let lc = All-head IsByte c cs ht in
    let rest : word_of bs ≡ word_of cs = omega (arith, e, lb, lc) in
    let head : b ≡ c = omega (arith, e, rest) in
    let tail = word_same bs cs (All-tail IsByte b bs hs) (All-tail IsByte c cs ht) rest in
    λ i. head i ∷ tail i

-- the largest word of so many bytes
most : ℕ → ℕ
most zero = 0
most (suc n) = most n * 512 + 256

word_within : (n : ℕ) (bs : List ℕ) → All IsByte bs → length bs ≤ n → word_of bs ≤ most n
unfolding word_of most
word_within zero [] h le = omega arith
word_within zero (b ∷ bs) h le = absurd (omega (arith, le))
word_within (suc n) [] h le = omega arith
word_within (suc n) (b ∷ bs) h le =
    let below = word_within n bs (All-tail IsByte b bs h) (omega (arith, le)) in
    omega (arith, below, All-head IsByte b bs h)

-- the word of up to six bytes leaves room for one more
pub word_room : (bs : List ℕ) → All IsByte bs → length bs ≤ 6 → word_of bs ≤ 9024825867763968
unfolding most
word_room bs h le = word_within 6 bs h le

-- the word of a byte more in front
pub word_more : (bytes : List ℕ) (i : ℕ) (d : ℕ) → i < length bytes → word_of (drop i bytes) ≡ word_of (drop (suc i) bytes) * 512 + get_or bytes i d + 1
unfolding word_of
word_more [] i d lt = absurd (omega (arith, lt))
word_more (b ∷ bs) zero d lt = refl
word_more (b ∷ bs) (suc i) d lt = word_more bs i d (omega (arith, lt))

-- what a slice of bytes holds
pub all_bytes : (bytes : List ℕ) → ((i : ℕ) → Fits w8 (get_or bytes i 0)) → All IsByte bytes
all_bytes [] fits k d lt = absurd (omega (arith, lt))
all_bytes (b ∷ bs) fits zero d lt = omega (arith, fits 0)
all_bytes (b ∷ bs) fits (suc k) d lt = all_bytes bs (λ i. fits (suc i)) k d (omega (arith, lt))

-- a text is its parts
parts_of : (s : List ℕ) → take 7 s ++ (take 7 (drop 7 s) ++ drop 14 s) ≡ s
parts_of s =
    ap (λ (r : List ℕ). take 7 s ++ (take 7 (drop 7 s) ++ r)) (sym (drop-drop 7 7 s))
    ∙ ap (λ (r : List ℕ). take 7 s ++ r) (take-append-drop 7 (drop 7 s))
    ∙ take-append-drop 7 s

pub key_same : (s t : List ℕ) → All IsByte s → All IsByte t → key_of s ≡ key_of t → s ≡ t
key_same s t hs ht e =
    let first = word_same (take 7 s) (take 7 t) (All-take IsByte 7 s hs) (All-take IsByte 7 t ht) (ap (λ (k : NameKey). k.first) e) in
    let second = word_same (take 7 (drop 7 s)) (take 7 (drop 7 t)) (All-take IsByte 7 (drop 7 s) (All-drop IsByte 7 s hs))
    (All-take IsByte 7 (drop 7 t) (All-drop IsByte 7 t ht))
    (ap (λ (k : NameKey). k.second) e) in
    let third = word_same (drop 14 s) (drop 14 t) (All-drop IsByte 14 s hs) (All-drop IsByte 14 t ht) (ap (λ (k : NameKey). k.third) e) in
    sym (parts_of s) ∙ (λ i. first i ++ (second i ++ third i)) ∙ parts_of t

-- the key of a text of one word
pub key_short : (s : List ℕ) → length s ≤ 7 → key_of s ≡ record { first = word_of s; second = 0; third = 0 }
unfolding word_of
key_short s few =
    let first : take 7 s ≡ s = take_all 7 s few in
    let second : take 7 (drop 7 s) ≡ [] = ap (take 7) (drop_all 7 s few) in
    let third : drop 14 s ≡ [] = drop_all 14 s (omega (arith, few)) in
    λ i. record { first = word_of (first i); second = word_of (second i); third = word_of (third i) }

pub short_key_is : (s : List ℕ) (word : ℕ) → length s ≤ 7 → word ≡ word_of s
    → (Some (let k : NameKey = record { first = word; second = 0; third = 0 } in k)) ≡ (if nat_le (length s) 20 then Some (key_of s) else None)
short_key_is s word few is = rw (within (length s) few) (ap (λ (k : NameKey). Some k) ((λ i. record { first = is i; second = 0; third = 0 })
    ∙ sym (key_short s few)))
  where
    within : (n : ℕ) → n ≤ 7 → nat_le n 20 ≡ true
    within n le = grind (arith, nat_tests)

-- ---- names

small_byte : (b : ℕ) → is_name_byte b ≡ true → b < 256
small_byte b e = grind (arith, nat_tests)

small_bytes : (text : List ℕ) → list_all is_name_byte text ≡ true → All IsByte text
small_bytes [] e = λ k d lt. absurd (omega (arith, lt))
small_bytes (b ∷ bs) e = let parts = and_parts (is_name_byte b) (list_all is_name_byte bs) e
    in All-cons IsByte b bs (small_byte b parts.0) (small_bytes bs parts.1)

pub name_bytes : (text : List ℕ) → IsName text → All IsByte text
name_bytes text named = small_bytes text (and_parts _ (list_all is_name_byte text) named).1

pub name_short : (text : List ℕ) → IsName text → nat_le (length text) 20 ≡ true
name_short text named = (and_parts (nat_le 1 (length text)) _ (and_parts _ (list_all is_name_byte text) named).0).1

-- a test of two keys is one of their names
equal : (a b : ℕ) → (a == b) ≡ true → a ≡ b
equal a b e = grind (arith, nat_tests)

keys_equal : (k l : NameKey) → same_name.it k l ≡ true → k ≡ l
keys_equal k l e =
    let outer = and_parts (k.first == l.first) ((k.second == l.second) && (k.third == l.third)) e in
    let inner = and_parts (k.second == l.second) (k.third == l.third) outer.1 in
    let first = equal k.first l.first outer.0 in
    let second = equal k.second l.second inner.0 in
    let third = equal k.third l.third inner.1 in
    λ i. record { first = first i; second = second i; third = third i }

keys_alike : (k : NameKey) → same_name.it k k ≡ true
keys_alike k = rw (eq-eqb k.first k.first refl, eq-eqb k.second k.second refl, eq-eqb k.third k.third refl) refl

pub key_test : (s t : List ℕ) → All IsByte s → All IsByte t → same_name.it (key_of s) (key_of t) ≡ bytes_eq s t
key_test s t hs ht = by (bytes_eq s t) refl (same_name.it (key_of s) (key_of t)) refl
  where
    by : (b : Bool) → bytes_eq s t ≡ b → (c : Bool) → same_name.it (key_of s) (key_of t) ≡ c → same_name.it (key_of s) (key_of t) ≡ bytes_eq s t
    by true e true f = f ∙ sym e
    by false e false f = f ∙ sym e
    by true e false f =
        let same : s ≡ t = (bytes_eq-Decides s t).0 e in
        let alike : same_name.it (key_of s) (key_of t) ≡ true = subst (λ (u : List ℕ). same_name.it (key_of s) (key_of u) ≡ true) same (keys_alike (key_of s))
        in
        alike ∙ sym e
    by false e true f =
        let same : s ≡ t = key_same s t hs ht (keys_equal (key_of s) (key_of t) f) in
        f ∙ sym (ap (bytes_eq s) (sym same) ∙ nat_list_eq_equiv.refl s)

-- what the key of a text is, and where there is none
pub key_is : (text : List ℕ) (key : NameKey) → Some key ≡ (if nat_le (length text) 20 then Some (key_of text) else None) → key ≡ key_of text
key_is text key e = by (nat_le (length text) 20) e
  where
    by : (b : Bool) → Some key ≡ (if b then Some (key_of text) else None) → key ≡ key_of text
    by true e = cc
    by false e = absurd (cc)

pub has_no_key : (text : List ℕ) → ◌≡◌ {A = Option NameKey} None (if nat_le (length text) 20 then Some (key_of text) else None) → 20 < length text
has_no_key text e = by (nat_le (length text) 20) refl e
  where
    by : (b : Bool) → nat_le (length text) 20 ≡ b → ◌≡◌ {A = Option NameKey} None (if b then Some (key_of text) else None) → 20 < length text
    by true t e = absurd (cc)
    by false t e = grind (arith, nat_tests)
