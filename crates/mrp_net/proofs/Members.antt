-- The network: membership in its lists of edges, pairs and lanes, by recursion, through filters,
-- maps, ranges and joined lists.
use Rattle.std.proofs.Common.{◌≡◌, ℕ, zero, suc, ◌+◌, ◌<◌, ◌≤◌, Bool, true, ◌⊎◌, inl, inr, ⊎_elim, List, [], ◌∷◌, ◌++◌, length, map, get_or, refl, sym, ap}
use Rattle.std.proofs.Common.{subst, ◌∙◌, arith, All, Contains}
use Rattle.std.specs.List.{filter, flat_map, list_any, range_with_len}
use Rattle.std.proofs.lemmas.Bool.{cond_both, both_ways, or_cases, true≢false}
use Rattle.std.proofs.lemmas.List.Elements.{All-contains}

abbrev pub In : {X : Type 0} → List X → X → Type 0
In [] x = ⊥
In (y ∷ ys) x = (y ≡ x) ⊎ In ys x

in_at : {X : Type 0} (xs : List X) (x : X) (k : ℕ) → k < length xs → get_or xs k x ≡ x → In xs x
in_at [] x k l e = absurd (omega arith)
in_at (y ∷ ys) x zero l e = inl e
in_at (y ∷ ys) x (suc k) l e = inr (in_at ys x k (omega arith) e)

pub In-from_contains : {X : Type 0} (xs : List X) (x : X) → Contains xs x → In xs x
In-from_contains xs x h = in_at xs x h.0 h.1 h.2

pub Contains-from_in : {X : Type 0} (xs : List X) (x : X) → In xs x → Contains xs x
Contains-from_in [] x h = absurd h
Contains-from_in (y ∷ ys) x h = ⊎_elim (λ e. (0, omega arith, e)) (λ r. let c = Contains-from_in ys x r in (suc c.0, omega arith, c.2)) h

pub In-append_left : {X : Type 0} (xs ys : List X) (x : X) → In xs x → In (xs ++ ys) x
In-append_left [] ys x h = absurd h
In-append_left (y ∷ xs) ys x h = ⊎_elim (λ e. inl e) (λ r. inr (In-append_left xs ys x r)) h

pub In-append_right : {X : Type 0} (xs ys : List X) (x : X) → In ys x → In (xs ++ ys) x
In-append_right [] ys x h = h
In-append_right (y ∷ xs) ys x h = inr (In-append_right xs ys x h)

pub In-append_cases : {X : Type 0} (xs ys : List X) (x : X) → In (xs ++ ys) x → In xs x ⊎ In ys x
In-append_cases [] ys x h = inr h
In-append_cases (y ∷ xs) ys x h =
    ⊎_elim (λ e. inl (inl e)) (λ r. ⊎_elim (λ a. inl (inr a)) (λ b. inr b) (In-append_cases xs ys x r)) h

pub In-filter : {X : Type 0} (p : X → Bool) (xs : List X) (x : X) → In xs x → p x ≡ true → In (filter p xs) x
In-filter p [] x h t = absurd h
In-filter {X} p (y ∷ ys) x h t = cond_both (p y) (y ∷ filter p ys) (filter p ys) (λ (l : List X). In l x)
    (λ _. ⊎_elim (λ e. inl e) (λ r. inr (In-filter p ys x r t)) h)
    (λ f. ⊎_elim (λ e. absurd (both_ways (p y) f (ap p e ∙ t))) (λ r. In-filter p ys x r t) h)

pub filter_only : {X : Type 0} (p : X → Bool) (xs : List X) (x : X) → In (filter p xs) x → In xs x × (p x ≡ true)
filter_only p [] x = λ h. absurd h
filter_only {X} p (y ∷ ys) x = cond_both (p y) (y ∷ filter p ys) (filter p ys) (λ (l : List X). In l x → In (y ∷ ys) x × (p x ≡ true))
    (λ t h. ⊎_elim (λ e. (inl e, ap p (sym e) ∙ t)) (λ r. let c = filter_only p ys x r in (inr c.0, c.1)) h)
    (λ f h. let c = filter_only p ys x h in (inr c.0, c.1))

pub In-map : {X Y : Type 0} (f : X → Y) (xs : List X) (x : X) → In xs x → In (map f xs) (f x)
In-map f [] x h = absurd h
In-map f (y ∷ ys) x h = ⊎_elim (λ e. inl (ap f e)) (λ r. inr (In-map f ys x r)) h

pub map_only : {X Y : Type 0} (f : X → Y) (xs : List X) (y : Y) → In (map f xs) y → (x : X) × In xs x × (f x ≡ y)
map_only f [] y h = absurd h
map_only f (x ∷ xs) y h =
    ⊎_elim (λ e. (x, inl refl, e)) (λ r. let c = map_only f xs y r in (c.0, inr c.1, c.2)) h

pub In-flat_map : {X Y : Type 0} (f : X → List Y) (xs : List X) (x : X) (y : Y) → In xs x → In (f x) y → In (flat_map f xs) y
In-flat_map f [] x y h k = absurd h
In-flat_map {X} f (z ∷ zs) x y h k = ⊎_elim
    (λ e. In-append_left (f z) (flat_map f zs) y (subst (λ (w : X). In (f w) y) (sym e) k))
    (λ r. In-append_right (f z) (flat_map f zs) y (In-flat_map f zs x y r k))
    h

pub flat_map_only : {X Y : Type 0} (f : X → List Y) (xs : List X) (y : Y) → In (flat_map f xs) y → (x : X) × In xs x × In (f x) y
flat_map_only f [] y h = absurd h
flat_map_only f (z ∷ zs) y h = ⊎_elim
    (λ a. (z, inl refl, a))
    (λ b. let c = flat_map_only f zs y b in (c.0, inr c.1, c.2))
    (In-append_cases (f z) (flat_map f zs) y h)

pub In-range : (a n x : ℕ) → a ≤ x → x < a + n → In (range_with_len a n) x
In-range a zero x low high = absurd (omega arith)
In-range a (suc n) x low high =
    let later : a < x → In (range_with_len (a + 1) n) x = λ l. In-range (a + 1) n x (omega arith) (omega arith) in
    ⊎_elim (λ e. inl e) (λ l. inr (later l)) (let cases : (a ≡ x) ⊎ (a < x) = grind arith in cases)

pub range_only : (a n x : ℕ) → In (range_with_len a n) x → (a ≤ x) × (x < a + n)
range_only a zero x h = absurd h
range_only a (suc n) x h =
    ⊎_elim (λ e. (omega arith, omega arith)) (λ r. let c = range_only (a + 1) n x r in (omega arith, omega arith)) h

pub All-in : {X : Type 0} (P : X → Type 0) (xs : List X) (x : X) → All P xs → In xs x → P x
All-in P xs x all h = All-contains P xs x all (Contains-from_in xs x h)

-- a test that passes somewhere
pub any_some : {X : Type 0} (p : X → Bool) (xs : List X) → list_any p xs ≡ true → (x : X) × In xs x × (p x ≡ true)
any_some p [] t = absurd (true≢false (sym t))
any_some p (x ∷ xs) t = ⊎_elim
    (λ here. (x, inl refl, here))
    (λ later. let c = any_some p xs later in (c.0, inr c.1, c.2))
    (or_cases (p x) (list_any p xs) t)
