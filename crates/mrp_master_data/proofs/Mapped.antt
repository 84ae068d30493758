-- Master data: tests of the elements that a function makes, for keys and names.
use Rattle.std.proofs.Common.{◌≡◌, Bool, List, [], ◌∷◌, map, refl}
use Rattle.std.specs.List.{list_all, list_any}

pub list_any_keys : {X K : Type 0} (f : X → K) (p : K → Bool) (q : X → Bool) → ((x : X) → p (f x) ≡ q x) → (xs : List X) → list_any p (map f xs) ≡ list_any q xs
list_any_keys f p q same [] = refl
list_any_keys f p q same (x ∷ xs) = rw (same x, list_any_keys f p q same xs)

pub list_all_keys : {X K : Type 0} (f : X → K) (p : K → Bool) (q : X → Bool) → ((x : X) → p (f x) ≡ q x) → (xs : List X) → list_all p (map f xs) ≡ list_all q xs
list_all_keys f p q same [] = refl
list_all_keys f p q same (x ∷ xs) = rw (same x, list_all_keys f p q same xs)
