-- Validation's lists of tests: a test and those after it, and the fault of the first that isn't passed.
use Rattle.std.proofs.Common.{◌≡◌, ℕ, Bool, true, false, cond, if◌then◌else◌, not, List, [], ◌∷◌, ◌++◌, Some, None}
use Rattle.std.proofs.Common.{Result, Ok, Err, refl, sym, ◌∙◌}
use Rattle.std.specs.Result.{result_err}
use Rattle.mrp_master_data.specs.Spelling.{is_name}
use Rattle.mrp_validation.specs.declared.fault.TableFaultKind.{TableFaultKind}
use Rattle.mrp_validation.specs.declared.fault.TableFaultKind.TheVariants as fault
use Rattle.mrp_validation.specs.Grammar.{◌>>=◌, check}
use Rattle.mrp_validation.specs.Tests.{first_failed}
use Rattle.mrp_validation.proofs.KeepingSteps.{same_Ok}

-- ---- a test and those after it

pub find_none : (p : TableFaultKind → Bool) (es fs : List TableFaultKind) → first_failed p es ≡ None → first_failed p (es ++ fs) ≡ first_failed p fs
find_none p [] fs none = refl
find_none p (e ∷ es) fs none = by (p e) none (find_none p es fs)
  where
    by : (b : Bool) → cond (not b) (Some e) (first_failed p es) ≡ None → (first_failed p es ≡ None → first_failed p (es ++ fs) ≡ first_failed p fs)
        → cond (not b) (Some e) (first_failed p (es ++ fs)) ≡ first_failed p fs
    by true none rest = rest none
    by false none rest = absurd (cc)

pub find_some : (p : TableFaultKind → Bool) (es fs : List TableFaultKind) (k : TableFaultKind) → first_failed p es ≡ Some k → first_failed p (es ++ fs) ≡ Some k
find_some p [] fs k some = absurd (cc)
find_some p (e ∷ es) fs k some = by (p e) some (find_some p es fs k)
  where
    by : (b : Bool) → cond (not b) (Some e) (first_failed p es) ≡ Some k → (first_failed p es ≡ Some k → first_failed p (es ++ fs) ≡ Some k)
        → cond (not b) (Some e) (first_failed p (es ++ fs)) ≡ Some k
    by true some rest = rest some
    by false some rest = some

-- some tests, and then those of what follows
pub more : {A B : Type 0} (p : TableFaultKind → Bool) (es fs : List TableFaultKind) (r : Result A TableFaultKind) (f : A → Result B TableFaultKind)
    → result_err r ≡ first_failed p es
    → ((x : A) → r ≡ Ok x → result_err (f x) ≡ first_failed p fs) → result_err (r >>= f) ≡ first_failed p (es ++ fs)
more p es fs (Ok x) f here after = after x refl ∙ sym (find_none p es fs (sym here))
more p es fs (Err k) f here after = sym (find_some p es fs k (sym here))

-- what is only kept
pub kept : {A B : Type 0} (r : Result A TableFaultKind) (g : A → B) → result_err (r >>= λ x. Ok (g x)) ≡ result_err r
kept (Ok x) g = refl
kept (Err k) g = refl

pub kept-in : {A B C : Type 0} (r : Result A TableFaultKind) (f : A → Result B TableFaultKind) (g : A → B → C)
    → result_err (r >>= λ x. f x >>= λ y. Ok (g x y)) ≡ result_err (r >>= f)
kept-in (Ok x) f g = kept (f x) (g x)
kept-in (Err k) f g = refl

pub checked : (b : Bool) (e : TableFaultKind) → result_err (check b e) ≡ cond (not b) (Some e) None
checked true e = refl
checked false e = refl

-- a last test
pub last : {A : Type 0} (b : Bool) (e : TableFaultKind) (x : A) → result_err (check b e >>= λ u. Ok x) ≡ cond (not b) (Some e) None
last true e x = refl
last false e x = refl

-- ---- a name

pub name_same : (text x : List ℕ) → (if is_name text then Ok text else Err fault.BadName) ≡ Ok x → x ≡ text
name_same text x e = by (is_name text) e
  where
    by : (b : Bool) → ◌≡◌ {A = Result (List ℕ) TableFaultKind} (if b then Ok text else Err fault.BadName) (Ok x) → x ≡ text
    by true e = sym (same_Ok text x e)
    by false e = absurd (cc)
