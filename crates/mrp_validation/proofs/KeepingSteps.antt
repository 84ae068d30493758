-- Validation by a chain of tests: what it says of each where it answers a value, and of its fault where it doesn't,
-- whatever the faults are.
use Rattle.std.proofs.Common.{◌≡◌, Bool, true, false, Option, Some, None, Result, Ok, Err, ok_or, if◌then◌else◌, IfErr, refl}
use Rattle.std.specs.Result.{IsErrAnd}
use Rattle.mrp_validation.specs.Grammar.{◌>>=◌, check}

-- ---- a value

pub after : {A B E : Type 0} (r : Result A E) (f : A → Result B E) (y : B) → (r >>= f) ≡ Ok y → (x : A) × (r ≡ Ok x) × (f x ≡ Ok y)
after (Ok x) f y e = (x, refl, e)
after (Err g) f y e = absurd (cc)

pub after_check : {B E : Type 0} (b : Bool) (g : E) (f : Unit {0} → Result B E) (y : B) → (check b g >>= f) ≡ Ok y → (b ≡ true) × (f tt ≡ Ok y)
after_check true g f y e = (refl, e)
after_check false g f y e = absurd (cc)

pub after_some : {A B E : Type 0} (o : Option A) (g : E) (f : A → Result B E) (y : B) → (ok_or o g >>= f) ≡ Ok y → (x : A) × (o ≡ Some x) × (f x ≡ Ok y)
after_some (Some x) g f y e = (x, refl, e)
after_some None g f y e = absurd (cc)

pub same_Ok : {A E : Type 0} (x y : A) → ◌≡◌ {A = Result A E} (Ok x) (Ok y) → x ≡ y
same_Ok x y e = cc

-- ---- a fault

-- the answer of a step that hands a fault on
pub handed_on : {T E : Type 0} (r : Result T E) (e : E) → IsErrAnd r (λ x. x ≡ e) → r ≡ Err e
handed_on (Ok x) e is = absurd is
handed_on (Err f) e is = rw is refl

module _ {E : Type 0} (P : E → Type 0) where
  -- a step and the steps after it
  pub steps : {A B : Type 0} (r : Result A E) (f : A → Result B E) → IfErr r P → ((x : A) → IfErr (f x) P) → IfErr (r >>= f) P
  steps (Ok x) f h g = g x
  steps (Err e) f h g = h

  pub tested : (b : Bool) (e : E) → P e → IfErr (check b e) P
  tested true e h = tt
  tested false e h = h

  pub found : {A : Type 0} (o : Option A) (e : E) → P e → IfErr (ok_or o e) P
  found (Some x) e h = tt
  found None e h = h

  pub chosen : {A : Type 0} (b : Bool) (x : A) (e : E) → P e → IfErr (if b then Ok x else Err e) P
  chosen true x e h = tt
  chosen false x e h = h
