-- Reading a table in pieces: a text that is cut behind a line feed, and has no quote above it, is read apart.
use Rattle.std.proofs.Common.{◌≡◌, ◌⊎◌, inl, inr, ℕ, zero, suc, ◌+◌, ◌<◌, ◌==◌, ◌||◌, Bool, true, false, List, [], ◌∷◌, ◌++◌, length, Option, Some}
use Rattle.std.proofs.Common.{None, refl, ap, sym, ◌∙◌, subst}
use Rattle.std.proofs.Common.{arith, true≢false}
use Rattle.std.proofs.lemmas.Bool.Decides.{nat_tests}
use Rattle.std.specs.List.{list_any}
use Rattle.csv.specs.Machine.{Read, next_record}
use Rattle.csv.specs.Reading.{default_config, records, records_from}
use Rattle.csv.specs.declared.parser.State.{State}
use Rattle.csv.specs.declared.parser.State.TheVariants as st
use Rattle.mrp_validation.proofs.Records.{none_left, one_left}
use Rattle.mrp_tables.specs.Pieces.{closes, is_quote}

-- no quote, and a line feed at the end
abbrev IsCut : List ℕ → Type 0
IsCut xs = (list_any is_quote xs ≡ false) × (closes true xs ≡ true)

-- no byte is pending
abbrev IsStart : State → Type 0
IsStart s = (s ≡ st.StartRecord) ⊎ (s ≡ st.AfterCr)

-- the next record ends within a, whatever stands behind it
record Ends (s : State) (fs : List (List ℕ)) (f a b : List ℕ) : Type 0 where
  pub r : Read
  pub alone : next_record default_config s fs f a ≡ Some r
  pub joined : next_record default_config s fs f (a ++ b) ≡ Some (r.0, r.1, r.2 ++ b)
  pub start : IsStart r.1
  pub rest : IsCut r.2
  pub fewer : length r.2 < length a

equal : (a b : ℕ) → (a == b) ≡ true → a ≡ b
equal a b e = grind (arith, nat_tests)

-- neither of two
neither : (x y : Bool) → (x || y) ≡ false → (x ≡ false) × (y ≡ false)
neither true y e = absurd (true≢false e)
neither false y e = (refl, e)

-- a byte that isn't a quote, and those after it
no_quote : (c : ℕ) (cs : List ℕ) → list_any is_quote (c ∷ cs) ≡ false → ((c == 34) ≡ false) × (list_any is_quote cs ≡ false)
no_quote c cs e = neither (c == 34) (list_any is_quote cs) e

-- behind a line feed a text closes too
closes_too : (cs : List ℕ) → closes false cs ≡ true → closes true cs ≡ true
unfolding closes
closes_too [] e = absurd (true≢false (sym e))
closes_too (c ∷ cs) e = e

-- a carriage return stands for the start of a record
after_cr : (fs : List (List ℕ)) (f xs : List ℕ) → next_record default_config st.AfterCr fs f xs ≡ next_record default_config st.StartRecord fs f xs
unfolding next_record
after_cr fs f [] = refl
after_cr fs f (c ∷ cs) = by (c == 10) refl
  where
    by : (b : Bool) → (c == 10) ≡ b → next_record default_config st.AfterCr fs f (c ∷ cs) ≡ next_record default_config st.StartRecord fs f (c ∷ cs)
    by true e = let is = equal c 10 e in rw is refl
    by false e = rw e refl

-- without a quote a field starts as it goes on
starts_field : (c : ℕ) (cs : List ℕ) (fs : List (List ℕ)) (f : List ℕ) → (c == 34) ≡ false
    → next_record default_config st.StartField fs f (c ∷ cs) ≡ next_record default_config st.InField fs f (c ∷ cs)
unfolding next_record
starts_field c cs fs f other = rw other refl

module _ (b : List ℕ) where
  -- what ends in the field that goes on, ends in the one that starts
  starts_ends : (fs : List (List ℕ)) (f a : List ℕ) → list_any is_quote a ≡ false → closes false a ≡ true → Ends st.InField fs f a b
      → Ends st.StartField fs f a b
  unfolding closes
  starts_ends fs f [] quotes closed within = absurd (true≢false (sym closed))
  starts_ends fs f (c ∷ cs) quotes closed within =
      let other = (no_quote c cs quotes).0 in
      record {
        r = within.r;
        alone = starts_field c cs fs f other ∙ within.alone;
        joined = starts_field c (cs ++ b) fs f other ∙ within.joined;
        start = within.start;
        rest = within.rest;
        fewer = within.fewer;
      }

  -- what ends further on, where the first byte ends no record
  ends_later : (s t : State) (fs gs : List (List ℕ)) (f g : List ℕ) (c : ℕ) (cs : List ℕ)
      → ((xs : List ℕ) → next_record default_config s fs f (c ∷ xs) ≡ next_record default_config t gs g xs) → Ends t gs g cs b → Ends s fs f (c ∷ cs) b
  ends_later s t fs gs f g c cs goes within = record {
    r = within.r;
    alone = goes cs ∙ within.alone;
    joined = goes (cs ++ b) ∙ within.joined;
    start = within.start;
    rest = within.rest;
    fewer = omega (arith, within.fewer);
  }

  ends_feed : (fs : List (List ℕ)) (f : List ℕ) (cs : List ℕ) → list_any is_quote cs ≡ false → closes true cs ≡ true → Ends st.InField fs f (10 ∷ cs) b
  unfolding next_record
  ends_feed fs f cs quotes closed = record {
    r = (fs ++ f ∷ [], st.StartRecord, cs);
    alone = refl;
    joined = refl;
    start = inl refl;
    rest = (quotes, closed);
    fewer = omega arith;
  }

  ends_return : (fs : List (List ℕ)) (f : List ℕ) (cs : List ℕ) → list_any is_quote cs ≡ false → closes true cs ≡ true → Ends st.InField fs f (13 ∷ cs) b
  unfolding next_record
  ends_return fs f cs quotes closed = record {
    r = (fs ++ f ∷ [], st.AfterCr, cs);
    alone = refl;
    joined = refl;
    start = inr refl;
    rest = (quotes, closed);
    fewer = omega arith;
  }

  comma_goes : (fs : List (List ℕ)) (f xs : List ℕ)
      → next_record default_config st.InField fs f (44 ∷ xs) ≡ next_record default_config st.StartField (fs ++ f ∷ []) [] xs
  unfolding next_record
  comma_goes fs f xs = refl

  byte_goes : (c : ℕ) (fs : List (List ℕ)) (f xs : List ℕ) → (c == 44) ≡ false → (c == 13) ≡ false → (c == 10) ≡ false
      → next_record default_config st.InField fs f (c ∷ xs) ≡ next_record default_config st.InField fs (f ++ c ∷ []) xs
  unfolding next_record
  byte_goes c fs f xs comma return feed = rw (comma, return, feed) refl

  -- a field that is begun ends within a text that closes
  ends : (fs : List (List ℕ)) (f a : List ℕ) → list_any is_quote a ≡ false → closes false a ≡ true → Ends st.InField fs f a b
  unfolding closes
  ends fs f [] quotes closed = absurd (true≢false (sym closed))
  ends fs f (c ∷ cs) quotes closed = by (ends (fs ++ f ∷ []) [] cs) (ends fs (f ++ c ∷ []) cs) (c == 10) refl (c == 13) refl (c == 44) refl
    where
      Later : List (List ℕ) → List ℕ → Type 0
      Later gs g = list_any is_quote cs ≡ false → closes false cs ≡ true → Ends st.InField gs g cs b

      none : list_any is_quote cs ≡ false
      none = (no_quote c cs quotes).1

      by : Later (fs ++ f ∷ []) [] → Later fs (f ++ c ∷ []) → (x : Bool) → (c == 10) ≡ x → (y : Bool) → (c == 13) ≡ y → (z : Bool) → (c == 44) ≡ z
          → Ends st.InField fs f (c ∷ cs) b
      by field byte true feed y return z comma =
          subst (λ (d : ℕ). Ends st.InField fs f (d ∷ cs) b) (sym (equal c 10 feed)) (ends_feed fs f cs none (ap (λ (x : Bool). closes x cs)
          (sym feed) ∙ closed))
      by field byte false feed true return z comma =
          subst (λ (d : ℕ). Ends st.InField fs f (d ∷ cs) b) (sym (equal c 13 return))
          (ends_return fs f cs none (closes_too cs (ap (λ (x : Bool). closes x cs) (sym feed) ∙ closed)))
      by field byte false feed false return true comma =
          let more = ap (λ (x : Bool). closes x cs) (sym feed) ∙ closed in
          subst (λ (d : ℕ). Ends st.InField fs f (d ∷ cs) b) (sym (equal c 44 comma))
          (ends_later st.InField st.StartField fs (fs ++ f ∷ []) f [] 44 cs (comma_goes fs f)
          (starts_ends (fs ++ f ∷ []) [] cs none more (field none more)))
      by field byte false feed false return false comma =
          let more = ap (λ (x : Bool). closes x cs) (sym feed) ∙ closed in
          ends_later st.InField st.InField fs fs f (f ++ c ∷ []) c cs (λ xs. byte_goes c fs f xs comma return feed) (byte none more)

  -- no record begins within a
  record Skips (a : List ℕ) : Type 0 where
    pub alone : next_record default_config st.StartRecord [] [] a ≡ None
    pub joined : next_record default_config st.StartRecord [] [] (a ++ b) ≡ next_record default_config st.StartRecord [] [] b

  skips_one : (c : ℕ) (xs : List ℕ) → (c ≡ 10) ⊎ (c ≡ 13) → next_record default_config st.StartRecord [] [] (c ∷ xs)
      ≡ next_record default_config st.StartRecord [] [] xs
  unfolding next_record
  skips_one c xs (inl is) = rw is refl
  skips_one c xs (inr is) = rw is refl

  begins_one : (c : ℕ) (xs : List ℕ) → (c == 10) ≡ false → (c == 13) ≡ false → (c == 34) ≡ false
      → next_record default_config st.StartRecord [] [] (c ∷ xs) ≡ next_record default_config st.InField [] [] (c ∷ xs)
  unfolding next_record
  begins_one c xs feed return quote = rw (feed, return, quote) refl

  -- a text that closes has no record, or its first ends within it
  starts : (a : List ℕ) → IsCut a → Skips a ⊎ Ends st.StartRecord [] [] a b
  unfolding next_record closes
  starts [] cut = inl (record { alone = refl; joined = refl })
  starts (c ∷ cs) cut = by (starts cs) (c == 10) refl (c == 13) refl
    where
      none : list_any is_quote cs ≡ false
      none = (no_quote c cs cut.0).1

      skip : (c ≡ 10) ⊎ (c ≡ 13) → Skips cs ⊎ Ends st.StartRecord [] [] cs b → Skips (c ∷ cs) ⊎ Ends st.StartRecord [] [] (c ∷ cs) b
      skip is (inl skips) = inl (record { alone = skips_one c cs is ∙ skips.alone; joined = skips_one c (cs ++ b) is ∙ skips.joined })
      skip is (inr within) = inr (ends_later st.StartRecord st.StartRecord [] [] [] [] c cs (λ xs. skips_one c xs is) within)

      by : (IsCut cs → Skips cs ⊎ Ends st.StartRecord [] [] cs b) → (x : Bool) → (c == 10) ≡ x → (y : Bool) → (c == 13) ≡ y
          → Skips (c ∷ cs) ⊎ Ends st.StartRecord [] [] (c ∷ cs) b
      by more true feed y return = skip (inl (equal c 10 feed)) (more (none, ap (λ (x : Bool). closes x cs) (sym feed) ∙ cut.1))
      by more false feed true return = skip (inr (equal c 13 return)) (more (none, closes_too cs (ap (λ (x : Bool). closes x cs) (sym feed) ∙ cut.1)))
      by more false feed false return =
          let quote = (no_quote c cs cut.0).0 in
          let within = ends [] [] (c ∷ cs) cut.0 cut.1 in
          inr (record {
            r = within.r;
            alone = begins_one c cs feed return quote ∙ within.alone;
            joined = begins_one c (cs ++ b) feed return quote ∙ within.joined;
            start = within.start;
            rest = within.rest;
            fewer = within.fewer;
          })

-- ---- all records

abbrev all : State → List ℕ → List (List (List ℕ))
all s xs = records_from default_config (length xs + 1) s xs

-- where the next record is the same, all are
same_next : (s t : State) (xs ys : List ℕ) (o : Option Read) → next_record default_config s [] [] xs ≡ o → next_record default_config t [] [] ys ≡ o
    → all s xs ≡ all t ys
same_next s t xs ys None e f = none_left default_config s xs e ∙ sym (none_left default_config t ys f)
same_next s t xs ys (Some r) e f = one_left default_config s xs r e ∙ sym (one_left default_config t ys r f)

all_start : (s : State) (xs : List ℕ) → IsStart s → all s xs ≡ all st.StartRecord xs
all_start s xs (inl is) = ap (λ (t : State). all t xs) is
all_start s xs (inr is) =
    ap (λ (t : State). all t xs) is ∙ same_next st.AfterCr st.StartRecord xs xs (next_record default_config st.StartRecord [] [] xs) (after_cr [] [] xs) refl

apart : (n : ℕ) (a b : List ℕ) → length a < n → IsCut a → all st.StartRecord (a ++ b) ≡ all st.StartRecord a ++ all st.StartRecord b
apart zero a b lt cut = absurd (omega (arith, lt))
apart (suc n) a b lt cut = by (apart n) (starts b a cut)
  where
    by : ((xs ys : List ℕ) → length xs < n → IsCut xs → all st.StartRecord (xs ++ ys) ≡ all st.StartRecord xs ++ all st.StartRecord ys)
        → Skips b a ⊎ Ends st.StartRecord [] [] a b → all st.StartRecord (a ++ b) ≡ all st.StartRecord a ++ all st.StartRecord b
    by more (inl skips) =
        same_next st.StartRecord st.StartRecord (a ++ b) b (next_record default_config st.StartRecord [] [] b) skips.joined refl
        ∙ ap (λ (rows : List (List (List ℕ))). rows ++ all st.StartRecord b) (sym (none_left default_config st.StartRecord a skips.alone))
    by more (inr within) =
        let r = within.r in
        one_left default_config st.StartRecord (a ++ b) (r.0, r.1, r.2 ++ b) within.joined
        ∙ ap (λ (rows : List (List (List ℕ))). r.0 ∷ rows) (all_start r.1 (r.2 ++ b) within.start ∙ more r.2 b (omega (arith, lt, within.fewer)) within.rest
        ∙ ap (λ (rows : List (List (List ℕ))). rows ++ all st.StartRecord b) (sym (all_start r.1 r.2 within.start)))
        ∙ ap (λ (rows : List (List (List ℕ))). rows ++ all st.StartRecord b) (sym (one_left default_config st.StartRecord a r within.alone))

-- a text that ends with a line feed, and has no quote, is read apart from what stands behind it
pub parts_are_read_apart : (a b : List ℕ) → list_any is_quote a ≡ false → closes true a ≡ true
    → records default_config (a ++ b) ≡ records default_config a ++ records default_config b
parts_are_read_apart a b quotes closed = apart (length a + 1) a b (omega arith) (quotes, closed)

-- a line feed at the front makes no row
pub line_feeds_are_skipped : (xs : List ℕ) → records default_config (10 ∷ xs) ≡ records default_config xs
line_feeds_are_skipped xs =
    same_next st.StartRecord st.StartRecord (10 ∷ xs) xs (next_record default_config st.StartRecord [] [] xs) (skips_one [] 10 xs (inl refl)) refl
