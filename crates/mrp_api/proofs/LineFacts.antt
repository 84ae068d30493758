-- The library: the line of a text function's fault, its pieces, sent one after the other.
use Rattle.std.proofs.Common.{◌≡◌, ℕ, ◌+◌, ◌<◌, List, ◌++◌, Option, length, take, drop, get_or, subst, sym, ap, ◌∙◌, refl, Result, Ok, Err}
use Rattle.std.proofs.lemmas.List.{take-append-drop, drop_more}
use Rattle.std.proofs.lemmas.Grind.{flat_map-append}
use Rattle.std.specs.List.{flat_map}
use Rattle.std.specs.Io.KnownBytes.{Appends}
use Rattle.mrp_csv_out.specs.Sending.{AppendsPrefix, AppendsSome}
use Rattle.mrp_csv_out.proofs.Fronts.{front-after, front-longer, some-front, some-whole, whole-after}
use Rattle.mrp_validation.specs.declared.fault.TableFault.{TableFault}
use Rattle.mrp_validation.specs.declared.fault.TableFaultKind.{TableFaultKind}
use Rattle.mrp_validation.specs.declared.fault.TableFaultKind.TheVariants as kind
use Rattle.mrp_api.specs.Lines.{SendsText, table_line_of, row_line}

-- the pieces so far, the next, and the rest
pieces-rest : {A : Type 0} (f : A → List ℕ) (xs : List A) (d : A) (i : ℕ) → i < length xs
    → flat_map f (take i xs) ++ (f (get_or xs i d) ++ flat_map f (drop (i + 1) xs)) ≡ flat_map f xs
pieces-rest f xs d i lt =
    ap (λ ys. flat_map f (take i xs) ++ flat_map f ys) (sym (drop_more xs i d lt))
    ∙ sym (flat_map-append f (take i xs) (drop i xs)) ∙ ap (flat_map f) (take-append-drop i xs)

-- the pieces before the i-th were sent, and a prefix of that one
pub piece-fails : {A : Type 0} (f : A → List ℕ) (xs : List A) (d : A) (i : ℕ) (a b c : Option (List ℕ)) → i < length xs
    → Appends a b (flat_map f (take i xs)) → AppendsPrefix b c (f (get_or xs i d)) → AppendsPrefix a c (flat_map f xs)
piece-fails f xs d i a b c lt before front =
    let P : List ℕ → Type 0 = λ t. AppendsPrefix a c t in
    subst P (pieces-rest f xs d i lt) (front-after a b c _ _ before (front-longer b c _ _ front))

-- the first part of a text was sent, and what became of the rest
pub sends-after : {U E : Type 0} (a b c : Option (List ℕ)) (text next : List ℕ) (r : Result U E) → Appends a b text
    → SendsText b c r next → SendsText a c r (text ++ next)
sends-after a b c text next (Ok u) whole rest = whole-after a b c text next whole rest
sends-after a b c text next (Err e) whole rest = front-after a b c text next whole rest

-- some of the text was sent
pub sends-some : {U E : Type 0} (a b : Option (List ℕ)) (text : List ℕ) (r : Result U E) → SendsText a b r text → AppendsSome a b text
sends-some a b text (Ok u) sent = some-whole a b text sent
sends-some a b text (Err e) sent = some-front a b text sent

-- every fault of the table but want of memory has a row
pub table_line-row : (fault : TableFault) (k : TableFaultKind) → (k ≡ kind.Memory → ⊥) → table_line_of fault k ≡ row_line fault
table_line-row fault kind.Memory other = absurd (other refl)
table_line-row fault _ other = refl
