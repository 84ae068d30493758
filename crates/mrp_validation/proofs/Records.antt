-- For the validation of a text: each of its records but one at the very end eats a byte, so those that are counted are
-- all.
use Rattle.std.proofs.Common.{◌≡◌, ◌⊎◌, inl, inr, ℕ, zero, suc, ◌+◌, ◌<◌, Bool, true, false, if◌then◌else◌, List, [], ◌∷◌, length, Option, Some, None, refl, ap}
use Rattle.std.proofs.Common.{arith, add-one}
use Rattle.csv.specs.Machine.{Read, ends_at_end, field_after, fields_after, is_end, next_record, step}
use Rattle.csv.specs.Reading.{AreRecords, Reached, records_from, records_next}
use Rattle.csv.specs.declared.parser.Config.{Config}
use Rattle.csv.specs.declared.parser.State.{State}
use Rattle.csv.specs.declared.parser.State.TheVariants as st

-- the bytes left are fewer, or the text is at its end
abbrev Eats : List ℕ → Read → Type 0
Eats xs r = (length r.2 < length xs) ⊎ ((r.1 ≡ st.StartRecord) × (r.2 ≡ []))

eats_last : (b : Bool) (fields : List (List ℕ)) (r : Read) → (if b then Some (fields, st.StartRecord, []) else None) ≡ Some r → Eats [] r
eats_last true fields r e = inr (cc, cc)
eats_last false fields r e = absurd (cc)

eats_more : (c : ℕ) (rest : List ℕ) (r : Read) → Eats rest r → Eats (c ∷ rest) r
eats_more c rest r (inl fewer) = inl (omega arith)
eats_more c rest r (inr ends) = inr ends

eats_end : (b : Bool) (c : ℕ) (rest : List ℕ) (fields : List (List ℕ)) (s : State) (next : Option Read) (r : Read)
    → (next ≡ Some r → Eats rest r) → (if b then Some (fields, s, rest) else next) ≡ Some r → Eats (c ∷ rest) r
eats_end true c rest fields s next r more e = let same : rest ≡ r.2 = cc in inl (rw (← same) (omega arith))
eats_end false c rest fields s next r more e = eats_more c rest r (more e)

pub eats : (cfg : Config) (s : State) (fields : List (List ℕ)) (field xs : List ℕ) (r : Read) → next_record cfg s fields field xs ≡ Some r → Eats xs r
unfolding next_record
eats cfg s fields field [] r e = eats_last (ends_at_end s) _ r e
eats cfg s fields field (c ∷ rest) r e =
    eats_end (is_end (step cfg s c).1) c rest _ _ _ r (eats cfg (step cfg s c).0 (fields_after (step cfg s c).1 fields field)
    (field_after (step cfg s c).1 c field) rest r) e

-- at the end of a text there is no record more
at_end : (cfg : Config) (n : ℕ) → records_from cfg n st.StartRecord [] ≡ []
unfolding records_from next_record
at_end cfg zero = refl
at_end cfg (suc n) = refl

next_same : (cfg : Config) (n m : ℕ) (o : Option Read) → ((r : Read) → o ≡ Some r → records_from cfg n r.1 r.2 ≡ records_from cfg m r.1 r.2)
    → records_next (records_from cfg n) o ≡ records_next (records_from cfg m) o
next_same cfg n m None same = refl
next_same cfg n m (Some r) same = ap (λ (rows : List (List (List ℕ))). r.0 ∷ rows) (same r refl)

after_eaten : (cfg : Config) (n m : ℕ) (xs : List ℕ) (r : Read) → (length r.2 < length xs → records_from cfg n r.1 r.2 ≡ records_from cfg m r.1 r.2) → Eats xs r
    → records_from cfg n r.1 r.2 ≡ records_from cfg m r.1 r.2
after_eaten cfg n m xs r same (inl fewer) = same fewer
after_eaten cfg n m xs r same (inr ends) = rw (ends.0, ends.1, at_end cfg n, at_end cfg m) refl

-- any two counts that are more than the bytes give the same records
pub enough : (cfg : Config) (n m : ℕ) (s : State) (xs : List ℕ) → length xs < n → length xs < m → records_from cfg n s xs ≡ records_from cfg m s xs
unfolding records_from
enough cfg zero m s xs a b = absurd (omega arith)
enough cfg (suc n) zero s xs a b = absurd (omega arith)
enough cfg (suc n) (suc m) s xs a b =
    next_same cfg n m (next_record cfg s [] [] xs) (λ r e. after_eaten cfg n m xs r (λ fewer. enough cfg n m r.1 r.2 (omega arith) (omega arith))
    (eats cfg s [] [] xs r e))

-- no record is left
pub none_left : (cfg : Config) (s : State) (xs : List ℕ) → next_record cfg s [] [] xs ≡ None → records_from cfg (length xs + 1) s xs ≡ []
unfolding records_from
none_left cfg s xs e = rw (add-one, e) refl

-- the next record, and those after it
pub one_left : (cfg : Config) (s : State) (xs : List ℕ) (r : Read) → next_record cfg s [] [] xs ≡ Some r
    → records_from cfg (length xs + 1) s xs ≡ r.0 ∷ records_from cfg (length r.2 + 1) r.1 r.2
unfolding records_from
one_left cfg s xs r e =
    rw (add-one (length xs), e) (ap (λ (rows : List (List (List ℕ))). r.0 ∷ rows)
    (after_eaten cfg (length xs) (length r.2 + 1) xs r (λ fewer. enough cfg (length xs) (length r.2 + 1) r.1 r.2 fewer (omega arith))
    (eats cfg s [] [] xs r e)))

-- the records that are counted are all the records of the text
all_next : (cfg : Config) (n : ℕ) (s : State) (xs : List ℕ) (o : Option Read) → next_record cfg s [] [] xs ≡ o
    → ((r : Read) → o ≡ Some r → AreRecords cfg r.1 r.2 (records_from cfg n r.1 r.2))
    → AreRecords cfg s xs (records_next (records_from cfg n) o)
unfolding Reached
all_next cfg n s xs None e more = (s, xs, (refl, refl), e)
all_next cfg n s xs (Some r) e more = let rest = more r refl in (rest.0, rest.1, (r, e, refl, rest.2), rest.3)

all_at_end : (cfg : Config) (n : ℕ) → AreRecords cfg st.StartRecord [] (records_from cfg n st.StartRecord [])
unfolding Reached next_record
all_at_end cfg n = rw (at_end cfg n) (st.StartRecord, [], (refl, refl), refl)

all_after : (cfg : Config) (n : ℕ) (xs : List ℕ) (r : Read) → (length r.2 < length xs → AreRecords cfg r.1 r.2 (records_from cfg n r.1 r.2)) → Eats xs r
    → AreRecords cfg r.1 r.2 (records_from cfg n r.1 r.2)
all_after cfg n xs r more (inl fewer) = more fewer
all_after cfg n xs r more (inr ends) = rw (ends.0, ends.1) (all_at_end cfg n)

pub records_all : (cfg : Config) (n : ℕ) (s : State) (xs : List ℕ) → length xs < n → AreRecords cfg s xs (records_from cfg n s xs)
unfolding records_from
records_all cfg zero s xs lt = absurd (omega arith)
records_all cfg (suc n) s xs lt =
    all_next cfg n s xs (next_record cfg s [] [] xs) refl (λ r e. all_after cfg n xs r (λ fewer. records_all cfg n r.1 r.2 (omega arith))
    (eats cfg s [] [] xs r e))
