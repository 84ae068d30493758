-- Master data: the places of keys, as of pairs by plant and item.
use Rattle.std.proofs.Common.{◌≡◌, ◌<◌, ℕ, get_or, ◌==◌, ◌&&◌, Bool, cond, true, false, ltb, List, [], ◌∷◌, map, length, position, unwrap_or, option_map}
use Rattle.std.proofs.Common.{Option, None, Some, IsSome, IfSome, is_some, ◌↔◌, refl, ◌∙◌, subst, arith, rules}
use Rattle.std.specs.List.{All, position_or_len, list_any}
use Rattle.std.proofs.lemmas.List.{length-map}
use Rattle.std.proofs.lemmas.Bool.Decides.{nat_tests}
use Rattle.std.proofs.lemmas.List.Folds.{list_any_at, list_any_none}
use Rattle.std.proofs.lemmas.List.Quantifiers.{position-Some}
use Rattle.std.proofs.lemmas.List.Sums.{fails_before_first, position_or_len_is}
use Rattle.std.proofs.lemmas.Bool.{lt-ltb}
use Rattle.std.proofs.lemmas.List.Elements.{All-head, All-tail}
use Rattle.mrp_master_data.proofs.Mapped.{list_any_keys}
use Rattle.mrp_master_data.specs.declared.numbers.PairNo.{PairNo}

pub position_or_len_keys : {X K : Type 0} (f : X → K) (p : K → Bool) (q : X → Bool) → ((x : X) → p (f x) ≡ q x) → (xs : List X)
    → position_or_len p (map f xs) ≡ position_or_len q xs
position_or_len_keys f p q same [] = refl
position_or_len_keys f p q same (x ∷ xs) = rw (same x, position_or_len_keys f p q same xs)

-- a look-up among the keys of rows is one among the rows
pub position_keys : {X K : Type 0} (f : X → K) (p : K → Bool) (q : X → Bool) → ((x : X) → p (f x) ≡ q x) → (xs : List X) → position p (map f xs) ≡ position q xs
position_keys f p q same xs = rw (position_or_len_keys f p q same xs, length-map xs f)

pub same_test : (a b : ℕ) → (a == b) ≡ (b == a)
same_test a b = grind (arith, nat_tests)

-- what a look-up of a pair says of its place
pub found_pair : (r : Option PairNo) (o : Option ℕ) (n : ℕ) → option_map (λ x. x.0) r ≡ o → IfSome r (λ x. x.0 < n)
    → (IsSome r ↔ (unwrap_or o n < n)) × IfSome r (λ x. x.0 ≡ unwrap_or o n)
found_pair None o n e h =
    let P : Option ℕ → Type 0 = λ q. (IsSome {T = PairNo} None ↔ (unwrap_or q n < n)) × Unit {0} in
    subst P e ((λ s. search rules, λ s. absurd (omega arith)), tt)
found_pair (Some x) o n e h =
    let P : Option ℕ → Type 0 = λ q. (IsSome (Some x) ↔ (unwrap_or q n < n)) × (x.0 ≡ unwrap_or q n) in
    subst P e ((λ s. h, λ s. refl), refl)

-- where no source lacks its pair, each has one
pub All-from_position : {X : Type 0} (p : X → Bool) (xs : List X) → position p xs ≡ None → All (λ x. p x ≡ false) xs
All-from_position p xs e k d lt = fails_before_first p xs k d (by (ltb (position_or_len p xs) (length xs)) refl e lt)
  where
    by : (b : Bool) → ltb (position_or_len p xs) (length xs) ≡ b → cond b (Some (position_or_len p xs)) None ≡ None → k < length xs → k < position_or_len p xs
    by true t e lt = absurd (cc)
    by false t e lt = grind (arith, nat_tests)

-- the first place at which a test passes
pub position_is : {X : Type 0} (p : X → Bool) (xs : List X) (i : ℕ) (d : X) → i < length xs → ((k : ℕ) → k < i → p (get_or xs k d) ≡ false)
    → p (get_or xs i d) ≡ true → position p xs ≡ Some i
position_is p xs i d lt before here =
    let e : position_or_len p xs ≡ i = position_or_len_is p xs i d (omega arith) before (λ l. here) in
    rw (e, lt-ltb i (length xs) lt) refl

pub swap : (a b c d : ℕ) → ((a == b) && (c == d)) ≡ ((b == a) && (d == c))
swap a b c d = rw (same_test a b, same_test c d) refl

-- whether a test passes, by the first place at which it does
pub any-from_position : {X : Type 0} (p : X → Bool) (xs : List X) (i : ℕ) → position p xs ≡ Some i → list_any p xs ≡ true
any-from_position p [] i e = absurd (cc)
any-from_position p (y ∷ ys) i e =
    let at = position-Some p (y ∷ ys) i y e in
    list_any_at p (y ∷ ys) i y at.0 at.1

pub any-from_no_position : {X : Type 0} (p : X → Bool) (xs : List X) → position p xs ≡ None → list_any p xs ≡ false
any-from_no_position p xs e = list_any_none p xs (All-from_position p xs e)

pub is_some-position : {X : Type 0} (p : X → Bool) (xs : List X) → is_some (position p xs) ≡ list_any p xs
is_some-position p xs = by (position p xs) refl
  where
    by : (o : Option ℕ) → position p xs ≡ o → is_some (position p xs) ≡ list_any p xs
    by None none = rw (none, any-from_no_position p xs none) refl
    by (Some i) at = rw (at, any-from_position p xs i at) refl

pub no_position : {X : Type 0} (p : X → Bool) (xs : List X) → list_any p xs ≡ false → position p xs ≡ None
no_position p xs e = by (position p xs) (is_some-position p xs ∙ e)
  where
    by : (o : Option ℕ) → is_some o ≡ false → o ≡ None
    by None e = refl
    by (Some i) e = absurd (cc)

-- ---- tests that agree on the elements of a list

pub map_within : {X Y : Type 0} (f g : X → Y) (xs : List X) → All (λ x. f x ≡ g x) xs → map f xs ≡ map g xs
map_within f g [] same = refl
map_within f g (x ∷ xs) same =
    let here = All-head (λ x. f x ≡ g x) x xs same in
    let rest = map_within f g xs (All-tail (λ x. f x ≡ g x) x xs same) in
    λ i. here i ∷ rest i

first_within : {X : Type 0} (p q : X → Bool) (xs : List X) → All (λ x. p x ≡ q x) xs → position_or_len p xs ≡ position_or_len q xs
first_within p q [] same = refl
first_within p q (x ∷ xs) same = rw (All-head (λ x. p x ≡ q x) x xs same, first_within p q xs (All-tail (λ x. p x ≡ q x) x xs same)) refl

pub position_within : {X : Type 0} (p q : X → Bool) (xs : List X) → All (λ x. p x ≡ q x) xs → position p xs ≡ position q xs
position_within p q xs same = rw (first_within p q xs same) refl

pub any_within : {X : Type 0} (p q : X → Bool) (xs : List X) → All (λ x. p x ≡ q x) xs → list_any p xs ≡ list_any q xs
any_within p q [] same = refl
any_within p q (x ∷ xs) same = rw (All-head (λ x. p x ≡ q x) x xs same, any_within p q xs (All-tail (λ x. p x ≡ q x) x xs same)) refl

-- a look-up among the keys of rows is one among the rows
pub position_of_keys : {X K : Type 0} (f : X → K) (p : K → Bool) (q : X → Bool) (xs : List X) → All (λ x. p (f x) ≡ q x) xs
    → position p (map f xs) ≡ position q xs
position_of_keys f p q xs same = position_keys f p (λ x. p (f x)) (λ x. refl) xs ∙ position_within (λ x. p (f x)) q xs same

pub any_of_keys : {X K : Type 0} (f : X → K) (p : K → Bool) (q : X → Bool) (xs : List X) → All (λ x. p (f x) ≡ q x) xs → list_any p (map f xs) ≡ list_any q xs
any_of_keys f p q xs same = list_any_keys f p (λ x. p (f x)) (λ x. refl) xs ∙ any_within (λ x. p (f x)) q xs same
