-- Master data: texts cut at their first colon, for spelled supplies and lot rules.
use Rattle.std.proofs.Common.{◌≡◌, ◌<◌, ◌^◌, ℕ, Bool, true, false, List, [], ◌∷◌, ◌++◌, length, Option, Some, None, refl, sym, ap, ◌∙◌, arith}
use Rattle.std.specs.Char.{is_ascii_digit}
use Rattle.std.specs.Fmt.{decimal}
use Rattle.std.specs.List.{All, join_with_byte, list_all, slice_split}
use Rattle.std.proofs.lemmas.Bool.{and_parts, ne_eqb}
use Rattle.std.proofs.lemmas.List.Elements.{All-cons, All-nil}
use Rattle.std.proofs.lemmas.List.Splits.{join_with_byte-slice_split, length-slice_split, slice_split_at, slice_split_none}
use Rattle.mrp_master_data.specs.Parsing.{cut, is_colon}
use Rattle.mrp_master_data.proofs.Decimals.{decimal_digits}
use Rattle.mrp_master_data.proofs.Shares.{fields_after, fields_alone}

joined : (x : List ℕ) (fs : List (List ℕ)) → 0 < length fs → join_with_byte 58 (x ∷ fs) ≡ x ++ (58 ∷ join_with_byte 58 fs)
joined x [] some = absurd (omega arith)
joined x (y ∷ fs) some = refl

-- a text that is cut is both parts with a colon between them
pub cut_text : (text : List ℕ) (p : List ℕ × List ℕ) → cut text ≡ Some p → text ≡ p.0 ++ (58 ∷ p.1)
cut_text text p e =
    sym (join_with_byte-slice_split 58 text) ∙ ap (join_with_byte 58) (fields_after text p e)
    ∙ joined p.0 (slice_split is_colon p.1) (omega (arith, length-slice_split is_colon p.1))
    ∙ ap (λ l. p.0 ++ (58 ∷ l)) (join_with_byte-slice_split 58 p.1)

-- a text without a colon
abbrev pub IsPlain : List ℕ → Type 0
IsPlain text = All (λ b. is_colon b ≡ false) text

pub plain : (p : ℕ → Bool) → p 58 ≡ false → (text : List ℕ) → list_all p text ≡ true → IsPlain text
plain p colon [] e = All-nil (λ b. is_colon b ≡ false)
plain p colon (b ∷ bs) e =
    let parts = and_parts (p b) (list_all p bs) e in
    let other : is_colon b ≡ false = ne_eqb b 58 (λ is. let passes = sym parts.0 ∙ ap p is ∙ colon in absurd (cc)) in
    All-cons (λ b. is_colon b ≡ false) b bs other (plain p colon bs parts.1)

pub plain_number : (n : ℕ) → n < 2 ^ 64 → IsPlain (decimal n)
plain_number n fits = plain is_ascii_digit refl (decimal n) (decimal_digits n fits)

first_same : (x y : List ℕ) (xs ys : List (List ℕ)) → x ∷ xs ≡ y ∷ ys → (x ≡ y) × (xs ≡ ys)
first_same x y xs ys e = (cc, cc)

-- two texts with a colon between them are cut there, where the first has none
pub cut_at : (xs ys : List ℕ) → IsPlain xs → cut (xs ++ (58 ∷ ys)) ≡ Some (xs, ys)
cut_at xs ys h = by (cut (xs ++ (58 ∷ ys))) refl
  where
    fields : slice_split is_colon (xs ++ (58 ∷ ys)) ≡ xs ∷ slice_split is_colon ys
    fields = slice_split_at is_colon xs 58 ys h refl

    by : (o : Option (List ℕ × List ℕ)) → cut (xs ++ (58 ∷ ys)) ≡ o → o ≡ Some (xs, ys)
    by None c =
        let one = ap length (sym (fields_alone (xs ++ (58 ∷ ys)) c) ∙ fields) in
        let some = length-slice_split is_colon ys in
        absurd (omega (arith, one, some))
    by (Some p) c =
        let parts = first_same p.0 xs (slice_split is_colon p.1) (slice_split is_colon ys) (sym (fields_after (xs ++ (58 ∷ ys)) p c) ∙ fields) in
        let rest : p.1 ≡ ys = sym (join_with_byte-slice_split 58 p.1) ∙ ap (join_with_byte 58) parts.1 ∙ join_with_byte-slice_split 58 ys in
        ap (λ x. Some (x, p.1)) parts.0 ∙ ap (λ y. Some (xs, y)) rest

-- and a text without one isn't cut
pub cut_none : (text : List ℕ) → IsPlain text → cut text ≡ None
cut_none text h = by (cut text) refl
  where
    by : (o : Option (List ℕ × List ℕ)) → cut text ≡ o → o ≡ None
    by None c = refl
    by (Some p) c =
        let one = ap length (sym (slice_split_none is_colon text h) ∙ fields_after text p c) in
        let some = length-slice_split is_colon p.1 in
        absurd (omega (arith, one, some))
