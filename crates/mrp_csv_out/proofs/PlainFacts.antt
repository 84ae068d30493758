-- CSV output: names, numbers, dates and words need no quotes in a row, since none of their bytes comes before the dash.
use Rattle.std.proofs.Common.{◌≡◌, ◌≤◌, ◌<◌, ◌+◌, ◌/◌, ◌%◌, ◌&&◌, ℕ, zero, suc, Bool, true, false, List, [], ◌∷◌, length, get_or, decimal, All}
use Rattle.std.proofs.Common.{cond, eqb, ltb, refl, sym, subst, arith, ⊎_elim}
use Rattle.std.specs.List.{list_all, range_with_len}
use Rattle.std.proofs.lemmas.Bool.{cases_lt, ne_eqb}
use Rattle.std.proofs.lemmas.Bool.Decides.{nat_tests}
use Rattle.std.proofs.lemmas.List.{get_or_past}
use Rattle.std.proofs.lemmas.List.Elements.{All-get_or, All-map}
use Rattle.std.specs.Fmt.{digit_glyph, digits, digits_onto}
use Rattle.csv.specs.Writing.{default_writer, needs_byte}
use Rattle.mrp_cal.specs.Calendar.{CalendarTerms, first_day}
use Rattle.mrp_cal.specs.Days.{date_text}
use Rattle.mrp_cal.specs.Days.{date_at as day_parts}
use Rattle.mrp_master_data.specs.Spelling.{is_name_byte}
use Rattle.mrp_master_data.specs.Table.{IsName, IsTable, Table}
use Rattle.mrp_csv_out.specs.Dates.{dates_of, period_date}
use Rattle.mrp_csv_out.specs.DateLists.{date_in}
use Rattle.mrp_csv_out.specs.Sheets.{IsPlain}

pub both_true : (a b : Bool) → (a && b) ≡ true → (a ≡ true) × (b ≡ true)
both_true true b e = (refl, e)
both_true false b e = absurd (cc)

plain_byte : (b : ℕ) → 45 ≤ b → needs_byte default_writer b ≡ false
plain_byte b low = rw (ne_eqb b 44 (λ e. omega arith), ne_eqb b 34 (λ e. omega arith), ne_eqb b 13 (λ e. omega arith), ne_eqb b 10 (λ e. omega arith)) refl

plain_more : (b : ℕ) (rest : List ℕ) → 45 ≤ b → IsPlain rest → IsPlain (b ∷ rest)
plain_more b rest low h = rw (plain_byte b low) h

-- names
name_byte : (b : ℕ) → is_name_byte b ≡ true → 45 ≤ b
name_byte b e = grind (arith, nat_tests)

name_bytes : (text : List ℕ) → list_all is_name_byte text ≡ true → IsPlain text
name_bytes [] e = refl
name_bytes (b ∷ rest) e =
    let p = both_true (is_name_byte b) (list_all is_name_byte rest) e in
    plain_more b rest (name_byte b p.0) (name_bytes rest p.1)

pub name_plain : (text : List ℕ) → IsName text → IsPlain text
name_plain text e = name_bytes text (both_true _ (list_all is_name_byte text) e).1

-- a field of a list of them, or none
plain_at : (fields : List (List ℕ)) (i : ℕ) → All IsPlain fields → IsPlain (get_or fields i [])
plain_at fields i h =
    ⊎_elim
    (λ (there : i < length fields). All-get_or IsPlain fields i [] there h)
    (λ (past : length fields ≤ i). subst IsPlain (sym (get_or_past fields i [] past)) refl)
    (cases_lt i (length fields))

pub plant_plain : (N : Table) → IsTable N → (i : ℕ) → IsPlain (get_or N.plants i [])
plant_plain N is i = plain_at N.plants i (λ k d lt. name_plain (get_or N.plants k d) (is.read.plants k d lt))

pub item_plain : (N : Table) → IsTable N → (i : ℕ) → IsPlain (get_or N.items i [])
item_plain N is i = plain_at N.items i (λ k d lt. name_plain (get_or N.items k d) (is.read.items k d lt))

-- numbers
glyph_low : (d : ℕ) (small : Bool) → 45 ≤ cond small (48 + d) (87 + d)
glyph_low d true = omega arith
glyph_low d false = omega arith

either_plain : (b : Bool) (xs ys : List ℕ) → IsPlain xs → IsPlain ys → IsPlain (cond b xs ys)
either_plain true xs ys p q = p
either_plain false xs ys p q = q

digits_plain : (k n : ℕ) (rest : List ℕ) → IsPlain rest → IsPlain (digits_onto k 10 false n rest)
digits_plain zero n rest h = h
digits_plain (suc k) n rest h =
    let more = plain_more (digit_glyph false (n % 10)) rest (glyph_low (n % 10) (ltb (n % 10) 10)) h in
    either_plain (eqb (n / 10) 0) _ _ more (digits_plain k (n / 10) _ more)

pub number_plain : (n : ℕ) → IsPlain (decimal n)
unfolding digits
number_plain n = digits_plain 64 n [] refl

-- dates
record HasPlain (field : List ℕ) : Type 0 where
  plain : IsPlain field

byte : {b : ℕ} {rest : List ℕ} → 45 ≤ b → HasPlain rest → HasPlain (b ∷ rest)
byte {b = b} {rest = rest} low h = record { plain = plain_more b rest low h.plain }

end : HasPlain []
end = record { plain = refl }

date_has : (year month day : ℕ) → HasPlain (date_text year month day)
date_has year month day =
    byte (omega arith) (byte (omega arith) (byte (omega arith) (byte (omega arith) (byte (omega arith)
    (byte (omega arith) (byte (omega arith) (byte (omega arith) (byte (omega arith) (byte (omega arith) end)))))))))

date_plain : (year month day : ℕ) → IsPlain (date_text year month day)
date_plain year month day = (date_has year month day).plain

period_plain : (calendar : CalendarTerms) (t : ℕ) → IsPlain (period_date calendar t)
unfolding period_date
period_plain calendar t = let p = day_parts (first_day calendar t) in date_plain p.year p.month p.day

pub dates_plain : (calendar : CalendarTerms) (t : ℕ) → IsPlain (date_in (dates_of calendar) t)
dates_plain calendar t = plain_at (dates_of calendar) t (All-map IsPlain (period_date calendar) (range_with_len 0 calendar.periods)
    (λ k d lt. period_plain calendar (get_or (range_with_len 0 calendar.periods) k d)))
