-- Grouping by a key: the place of a key, among keys of any kind that stand once each, and of which one more came.
use Rattle.std.proofs.Common.{◌≡◌, ℕ, ◌+◌, ◌<◌, Bool, true, false, cond, List, [], ◌∷◌, ◌++◌, length, get_or, position, Option, Some, refl, sym, ap, subst, ◌∙◌}
use Rattle.std.proofs.Common.{arith}
use Rattle.std.specs.Cmp.{IsEquivalence}
use Rattle.std.specs.List.{AllByRecursion, IsDistinct, list_any, position_or_len}
use Rattle.std.proofs.lemmas.Bool.{or_parts, eq-eqb, lt-ltb}
use Rattle.std.proofs.lemmas.Bool.Decides.{nat_tests}
use Rattle.std.proofs.lemmas.List.{length_push}
use Rattle.std.proofs.lemmas.List.Folds.{position_or_len_push}
use Rattle.std.proofs.lemmas.List.Sums.{position_or_len_is}
use Rattle.std.proofs.lemmas.Map.Keys.{apart_from_distinct}

none_passes : {X : Type 0} (p : X → Bool) (xs : List X) → list_any p xs ≡ false → position_or_len p xs ≡ length xs
none_passes p [] h = refl
none_passes p (x ∷ xs) h =
    let parts = or_parts (p x) (list_any p xs) h in
    rw (parts.0, none_passes p xs parts.1) (omega arith)

-- the first place that passes a test, of a list with one more
module _ {X : Type 0} (p : X → Bool) (xs : List X) (x : X) where
  pub last_passes : list_any p xs ≡ false → p x ≡ true → position p (xs ++ x ∷ []) ≡ Some (length xs)
  last_passes none passes =
      let first : position_or_len p (xs ++ x ∷ []) ≡ length xs =
      position_or_len_push p xs x ∙ rw (none_passes p xs none, eq-eqb (length xs) (length xs) refl, passes) (omega arith) in
      rw (first, length_push xs x, lt-ltb (length xs) (length xs + 1) (omega arith)) refl

  pub last_fails : p x ≡ false → position p (xs ++ x ∷ []) ≡ position p xs
  last_fails fails = grind (arith, nat_tests, position_or_len_push p xs x, length_push xs x, fails)

-- a key behind keys that it isn't among has their number as its place, and the others keep theirs
pub place_behind : {K : Type 0} (eq : K → K → Bool) → IsEquivalence eq → (keys : List K) (key other : K) → list_any (eq key) keys ≡ false
    → position (eq other) (keys ++ key ∷ []) ≡ cond (eq key other) (Some (length keys)) (position (eq other) keys)
place_behind {K} eq laws keys key other fresh = by (eq key other) refl
  where
    by : (b : Bool) → eq key other ≡ b → position (eq other) (keys ++ key ∷ []) ≡ cond b (Some (length keys)) (position (eq other) keys)
    by true same =
        let alike : list_any (eq other) keys ≡ list_any (eq key) keys = λ i. list_any (λ k. (sym (laws.congr key other k same)) i) keys in
        last_passes (eq other) keys key (alike ∙ fresh) (laws.symm other key ∙ same)
    by false apart = last_fails (eq other) keys key (laws.symm other key ∙ apart)

-- the same of a list that is known under other names
pub found_behind : {K : Type 0} (eq : K → K → Bool) → IsEquivalence eq → (keys roomy more : List K) (key other : K) (place : ℕ) (found : Option ℕ)
    → list_any (eq key) keys ≡ false
    → found ≡ position (eq other) keys → place ≡ length keys → roomy ≡ keys → more ≡ roomy ++ key ∷ []
    → cond (eq key other) (Some place) found ≡ position (eq other) more
found_behind {K} eq laws keys roomy more key other place found fresh so_far last same grown =
    ap (λ (o : Option ℕ). cond (eq key other) (Some place) o) so_far
    ∙ ap (λ (n : ℕ). cond (eq key other) (Some n) (position (eq other) keys)) last
    ∙ sym (place_behind eq laws keys key other fresh)
    ∙ sym (ap (position (eq other)) (grown ∙ ap (λ (ks : List K). ks ++ key ∷ []) same))

-- a key behind keys that it isn't among: each still stands once
apart_behind : {K : Type 0} (eq : K → K → Bool) (x : K) (keys : List K) (key : K) → AllByRecursion (λ k. eq x k ≡ false) keys → eq x key ≡ false
    → AllByRecursion (λ k. eq x k ≡ false) (keys ++ key ∷ [])
apart_behind eq x [] key h last = (last, tt)
apart_behind eq x (k ∷ keys) key h last = (h.0, apart_behind eq x keys key h.1 last)

once_behind : {K : Type 0} (eq : K → K → Bool) → IsEquivalence eq → (keys : List K) (key : K) → IsDistinct eq keys → list_any (eq key) keys ≡ false
    → IsDistinct eq (keys ++ key ∷ [])
unfolding IsDistinct
once_behind eq laws [] key once fresh = (tt, tt)
once_behind eq laws (x ∷ keys) key once fresh =
    let parts = or_parts (eq key x) (list_any (eq key) keys) fresh in
    (apart_behind eq x keys key once.0 (laws.symm x key ∙ parts.0), once_behind eq laws keys key once.1 parts.1)

-- the same of a list that is known under other names
pub still_once : {K : Type 0} (eq : K → K → Bool) → IsEquivalence eq → (keys roomy more : List K) (key : K) → IsDistinct eq keys
    → list_any (eq key) keys ≡ false
    → roomy ≡ keys → more ≡ roomy ++ key ∷ [] → IsDistinct eq more
still_once {K} eq laws keys roomy more key once fresh same grown =
    subst (IsDistinct eq) (sym (grown ∙ ap (λ (ks : List K). ks ++ key ∷ []) same)) (once_behind eq laws keys key once fresh)

-- a key that stands at a place of keys that stand once each is found there
pub found_there : {K : Type 0} (eq : K → K → Bool) → IsEquivalence eq → (keys : List K) (key known : K) (place : ℕ) → IsDistinct eq keys → place < length keys
    → known ≡ get_or keys place known → eq key known ≡ true → position (eq key) keys ≡ Some place
found_there eq laws keys key known place once within at same =
    let first : position_or_len (eq key) keys ≡ place =
    position_or_len_is (eq key) keys place known (omega arith)
    (λ k before.
    laws.congr key known (get_or keys k known) same ∙ laws.symm known (get_or keys k known) ∙ ap (eq (get_or keys k known)) at
    ∙ apart_from_distinct eq keys k place known once before within)
    (λ _. ap (eq key) (sym at) ∙ same) in
    rw (first, lt-ltb place (length keys) within) refl
