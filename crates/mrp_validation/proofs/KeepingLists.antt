-- For valid rows that a table has more: lists with elements more, and what of them is distinct, ordered, found or kept.
use Rattle.std.proofs.Common.{◌≡◌, ◌≤◌, ◌<◌, ℕ, get_or, ◌+◌, ◌-◌, Bool, true, false, List, [], ◌∷◌, ◌++◌, length, position, slice_get, Option, None, Some, refl}
use Rattle.std.proofs.Common.{ap, sym, ◌∙◌, ⊎_elim, arith}
use Rattle.std.specs.List.{All, list_any, filter}
use Rattle.std.specs.List.Sorted.{IsNonDecreasingBy}
use Rattle.std.specs.Str.{bytes_eq}
use Rattle.std.proofs.lemmas.Bool.{cases_lt}
use Rattle.std.proofs.lemmas.Bool.Decides.{same_from_decides, Decides-like}
use Rattle.std.proofs.lemmas.List.{length-append, get_or_append_left, get_or-append_right, get_or_at, length_push}
use Rattle.std.proofs.lemmas.List.Elements.{All-append, All-head, All-tail, All-weaker}
use Rattle.std.proofs.lemmas.List.Quantifiers.{position-Some}
use Rattle.std.proofs.lemmas.Option.{slice_get-get_or}
use Rattle.std.proofs.lemmas.Slice.Eq.{bytes_eq-Decides}
use Rattle.mrp_master_data.proofs.Keys.{All-from_position, any-from_no_position, position_is}

-- ---- names

pub bytes_flip : (a b : List ℕ) → bytes_eq a b ≡ bytes_eq b a
bytes_flip a b = same_from_decides (bytes_eq a b) (bytes_eq b a) (bytes_eq-Decides a b)
    (Decides-like (bytes_eq b a) (λ e. sym e) (λ e. sym e) (bytes_eq-Decides b a))

pub any_agree : {X : Type 0} (p q : X → Bool) → ((x : X) → p x ≡ q x) → (xs : List X) → list_any p xs ≡ list_any q xs
any_agree p q same [] = refl
any_agree p q same (x ∷ xs) = rw (same x, any_agree p q same xs)

-- ---- places

pub position_there : {X : Type 0} (p : X → Bool) (xs : List X) (i : ℕ) → position p xs ≡ Some i
    → (x : X) × (i < length xs) × (slice_get xs i ≡ Some x) × (p x ≡ true)
position_there p [] i e = absurd (cc)
position_there p (y ∷ ys) i e =
    let at = position-Some p (y ∷ ys) i y e in
    (get_or (y ∷ ys) i y, at.0, slice_get-get_or (y ∷ ys) i y at.0, at.1)

-- where a test passes there is a first place
pub position-from_any : {X : Type 0} (p : X → Bool) (xs : List X) → list_any p xs ≡ true → (i : ℕ) × (position p xs ≡ Some i)
position-from_any p xs e = by (position p xs) refl
  where
    by : (o : Option ℕ) → position p xs ≡ o → (i : ℕ) × (position p xs ≡ Some i)
    by None is = absurd (let e2 = any-from_no_position p xs is in cc)
    by (Some i) is = (i, is)

-- the place of an element that is the first to pass
pub position_last : {X : Type 0} (p : X → Bool) (xs : List X) (y : X) → position p xs ≡ None → p y ≡ true → position p (xs ++ y ∷ []) ≡ Some (length xs)
position_last p xs y absent here =
    let longer : length (xs ++ y ∷ []) ≡ length xs + 1 = length_push xs y in
    position_is p (xs ++ y ∷ []) (length xs) y (omega arith)
    (λ k lt. ap p (get_or_append_left xs (y ∷ []) y k lt) ∙ All-from_position p xs absent k y lt)
    (ap p (get_or_at xs y [] y (length xs) refl) ∙ here)

-- names at one place are one
pub names_at : (xs : List (List ℕ)) (a b : List ℕ) (i : ℕ) → position (bytes_eq a) xs ≡ Some i → position (bytes_eq b) xs ≡ Some i → a ≡ b
names_at xs a b i ea eb =
    let x = position_there (bytes_eq a) xs i ea in
    let y = position_there (bytes_eq b) xs i eb in
    let ex : a ≡ x.0 = (bytes_eq-Decides a x.0).0 x.3 in
    let ey : b ≡ y.0 = (bytes_eq-Decides b y.0).0 y.3 in
    let sx : slice_get xs i ≡ Some x.0 = x.2 in
    let sy : slice_get xs i ≡ Some y.0 = y.2 in
    cc

-- ---- filters

pub filter_nothing : {X : Type 0} (p : X → Bool) (xs : List X) → All (λ x. p x ≡ false) xs → filter p xs ≡ []
filter_nothing p [] h = refl
filter_nothing p (x ∷ xs) h = rw (All-head (λ x. p x ≡ false) x xs h) (filter_nothing p xs (All-tail (λ x. p x ≡ false) x xs h))

pub filter_everything : {X : Type 0} (p : X → Bool) (xs : List X) → All (λ x. p x ≡ true) xs → filter p xs ≡ xs
filter_everything p [] h = refl
filter_everything p (x ∷ xs) h = rw (All-head (λ x. p x ≡ true) x xs h) (ap (λ l. x ∷ l) (filter_everything p xs (All-tail (λ x. p x ≡ true) x xs h)))

-- ---- order

pub ordered_append : {X : Type 0} (f : X → ℕ) (c : ℕ) (xs ys : List X) → IsNonDecreasingBy f xs → All (λ x. f x ≤ c) xs → All (λ y. f y ≡ c) ys
    → IsNonDecreasingBy f (xs ++ ys)
ordered_append f c xs ys up low same i j d le lt = ⊎_elim left right (cases_lt j (length xs))
  where
    low_all : All (λ x. f x ≤ c) (xs ++ ys)
    low_all = All-append (λ x. f x ≤ c) xs ys low (All-weaker (λ y. f y ≡ c) (λ x. f x ≤ c) (λ x e. omega arith) ys same)

    left : j < length xs → f (get_or (xs ++ ys) i d) ≤ f (get_or (xs ++ ys) j d)
    left h =
        let ei = get_or_append_left xs ys d i (omega arith) in
        let ej = get_or_append_left xs ys d j h in
        let u = up i j d le h in
        omega (arith, ap f ei, ap f ej)

    right : length xs ≤ j → f (get_or (xs ++ ys) i d) ≤ f (get_or (xs ++ ys) j d)
    right h =
        let n : length (xs ++ ys) ≡ length xs + length ys = length-append xs ys in
        let ej = get_or-append_right xs ys (length xs) j d refl h in
        let sj : f (get_or ys (j - length xs) d) ≡ c = same (j - length xs) d (omega arith) in
        let u = low_all i d (omega arith) in
        omega (arith, ap f ej)
