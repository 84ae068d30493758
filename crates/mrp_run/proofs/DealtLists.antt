-- The run by threads: before its threads start, the lists of plants and of lane ends as they are dealt, with one
-- element changed, one more at the end, or the last one taken.
use Rattle.std.proofs.Common.{◌≡◌, ◌≢◌, ◌⊎◌, inl, inr, ℕ, ◌-◌, ◌<◌, ◌==◌, Bool, true, false, cond, List, [], ◌∷◌, ◌++◌, length, get_or, set, map, reverse}
use Rattle.std.proofs.Common.{Option, None, Some, Result, Ok, refl, sym, ap, subst, ◌∙◌, arith, length-append, All}
use Rattle.std.specs.List.{filter}
use Rattle.std.specs.Option.{option_to_list, IsSomeAnd}
use Rattle.std.specs.Result.{IfOk}
use Rattle.std.proofs.lemmas.Bool.{cases_Bool, cond-true, eqb-true, eq-eqb, false≢true}
use Rattle.std.proofs.lemmas.List.{map-append, length-map, length-set, length-reverse, reverse-append, reverse-reverse, get_or-set_same, get_or-set_other}
use Rattle.std.proofs.lemmas.List.{get_or-reverse, get_or-map, get_or_append_left, get_or_at, length_push}
use Rattle.std.proofs.lemmas.List.Elements.{All-pop, All-head, All-tail, All-cons, All-nil}
use Rattle.mrp_run.specs.Ends.{EachAt}

-- ---- one element changed

is_or_not : (k at : ℕ) → (k ≡ at) ⊎ (k ≢ at)
is_or_not k at = elim (cases_Bool (k == at)) [
  | inl t ↦ inl (eqb-true k at t)
  | inr f ↦ inr (λ e. false≢true (sym f ∙ eq-eqb k at e))
]

-- at the place the new element fits, and what fitted elsewhere does yet
pub each_set : {X : Type 0} (P Q : ℕ → X → Type 0) (xs : List X) (at : ℕ) (new : X) → at < length xs → Q at new
    → ((k : ℕ) (x : X) → k ≢ at → P k x → Q k x) → EachAt P xs → EachAt Q (set xs at new)
each_set P Q xs at new within here others each k d h =
    let inside : k < length xs = subst (λ (n : ℕ). k < n) (length-set xs at new) h in
    elim (is_or_not k at) [
      | inl e ↦ subst (λ (z : ℕ). Q z (get_or (set xs at new) z d)) (sym e) (subst (Q at) (sym (get_or-set_same xs at new d within)) here)
      | inr other ↦ subst (Q k) (sym (get_or-set_other xs at k new d other)) (others k (get_or xs k d) other (each k d inside))
    ]

-- one element more
pub each_push : {X : Type 0} (P : ℕ → X → Type 0) (xs : List X) (x : X) (n : ℕ) → length xs ≡ n → EachAt P xs → P n x → EachAt P (xs ++ x ∷ [])
each_push P xs x n size each here k d h =
    elim (is_or_not k n) [
      | inl e ↦ subst (λ (z : ℕ). P z (get_or (xs ++ x ∷ []) z d)) (sym e) (subst (P n) (sym (get_or_at xs x [] d n size)) here)
      | inr other ↦
          let inside : k < length xs = omega (arith, h, length_push xs x, other, size) in
          subst (P k) (sym (get_or_append_left xs (x ∷ []) d k inside)) (each k d inside)
    ]

-- what a push that succeeded leaves
pub pushed : {X : Type 0} (now new : List X) (x : X) (ok : Bool) → new ≡ cond ok (now ++ x ∷ []) now → ok ≡ true → new ≡ now ++ x ∷ []
pushed now new x ok is done = is ∙ cond-true ok (now ++ x ∷ []) now done

-- where each was made, each is as it was made
pub each_made : {X E : Type 0} (P : ℕ → X → Type 0) (xs : List X) (made : List (Result X E)) → made ≡ map Ok xs
    → ((k : ℕ) (d : Result X E) → k < length made → IfOk (get_or made k d) (P k)) → EachAt P xs
each_made {X} {E} P xs made is each k d within =
    let at : get_or made k (Ok d) ≡ Ok (get_or xs k d) = ap (λ (z : List (Result X E)). get_or z k (Ok d)) is ∙ get_or-map Ok xs k d (Ok d) within in
    subst (λ (z : Result X E). IfOk z (P k)) at (each k (Ok d) (omega (arith, ap length is, length-map {B = Result X E} xs Ok, within)))

-- from the last to the first
pub each_turned : {X : Type 0} (P : ℕ → X → Type 0) (xs : List X) (n : ℕ) → length xs ≡ n → EachAt (λ k. P (n - 1 - k)) xs → EachAt P (reverse xs)
each_turned P xs n size each k d h =
    let inside : k < length xs = omega (arith, h, length-reverse xs) in
    let back : n - 1 - (length xs - 1 - k) ≡ k = omega (arith, size, inside) in
    subst (P k) (sym (get_or-reverse xs k d inside)) (subst (λ (z : ℕ). P z (get_or xs (length xs - 1 - k) d)) back
    (each (length xs - 1 - k) d (omega (arith, inside))))

-- ---- the last one taken

pub same_last : {X : Type 0} (xs ys : List X) (x y : X) → xs ++ x ∷ [] ≡ ys ++ y ∷ [] → (xs ≡ ys) × (x ≡ y)
same_last {X} xs ys x y e =
    let turned : x ∷ reverse xs ≡ y ∷ reverse ys = sym (reverse-append xs (x ∷ [])) ∙ ap reverse e ∙ reverse-append ys (y ∷ []) in
    let last : x ≡ y = cc in
    let rest : reverse xs ≡ reverse ys = cc in
    (sym (reverse-reverse xs) ∙ ap reverse rest ∙ reverse-reverse ys, last)

-- the names of the ends end with one: it is that of the end that is popped
pub popped : {X Y : Type 0} (f : X → Y) (Q : X → Type 0) (old new : List X) (o : Option X) (ys : List Y) (y : Y) → map f old ≡ ys ++ y ∷ []
    → old ≡ new ++ option_to_list o
    → (o ≡ None → old ≡ []) → All Q old → (map f new ≡ ys) × All Q new × IsSomeAnd o (λ x. (f x ≡ y) × Q x)
popped f Q old new None ys y is parts none all = absurd (omega (arith, ap length is, ap (λ z. length (map f z)) (none refl), length-append ys (y ∷ [])))
popped f Q old new (Some x) ys y is parts none all =
    let last = same_last (map f new) ys (f x) y (sym (map-append f new (x ∷ [])) ∙ ap (map f) (sym parts) ∙ is) in
    let left = All-pop Q old new (Some x) parts all in
    (last.0, left.0, (last.1, left.1))

pub there_is_one : {X : Type 0} (o : Option X) (P : X → Type 0) → IsSomeAnd o P → o ≡ None → ⊥
there_is_one None P h e = h
there_is_one (Some x) P h e = absurd (cc)

-- ---- filters

pub kept_last : {X : Type 0} (p : X → Bool) (x : X) → p x ≡ true → filter p (x ∷ []) ≡ x ∷ []
kept_last p x h = ap (λ (b : Bool). cond b (x ∷ []) []) h

pub dropped_last : {X : Type 0} (p : X → Bool) (x : X) → p x ≡ false → filter p (x ∷ []) ≡ []
dropped_last p x h = ap (λ (b : Bool). cond b (x ∷ []) []) h

-- a test of what a function gives may come before or after the function
pub filter_through : {X Y : Type 0} (f : X → Y) (p : Y → Bool) (xs : List X) → map f (filter (λ x. p (f x)) xs) ≡ filter p (map f xs)
filter_through f p [] = refl
filter_through {X} {Y} f p (x ∷ xs) = elim (cases_Bool (p (f x))) [
  | inl t ↦ rw t (ap (λ (z : List Y). f x ∷ z) (filter_through f p xs))
  | inr e ↦ rw e (filter_through f p xs)
]

pub all_before_map : {X Y : Type 0} (f : X → Y) (P : Y → Type 0) (xs : List X) → All P (map f xs) → All (λ x. P (f x)) xs
all_before_map f P [] h = All-nil (λ x. P (f x))
all_before_map f P (x ∷ xs) h = All-cons (λ x. P (f x)) x xs (All-head P (f x) (map f xs) h) (all_before_map f P xs (All-tail P (f x) (map f xs) h))
