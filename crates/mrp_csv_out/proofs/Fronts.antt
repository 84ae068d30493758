-- CSV output: rows that are sent out piece by piece, by prefixes of a text.
use Rattle.std.proofs.Common.{ℕ, ◌+◌, List, ◌++◌, Option, length, length-append, subst, sym, ◌∙◌, arith}
use Rattle.std.proofs.lemmas.List.{take-append-le, take_all}
use Rattle.std.proofs.Math.Seq.{take-append-add}
use Rattle.std.specs.Io.KnownBytes.{Appends}
use Rattle.csv.proofs.WriteFacts.{appends-more}
use Rattle.mrp_csv_out.specs.Sending.{AppendsPrefix, AppendsSome}

-- a whole text is some of it
pub some-whole : (a b : Option (List ℕ)) (text : List ℕ) → Appends a b text → AppendsSome a b text
some-whole a b text whole =
    let P : List ℕ → Type 0 = λ t. Appends a b t in
    (length text, subst P (sym (take_all (length text) text (omega arith))) whole)

-- so is a prefix
pub some-front : (a b : Option (List ℕ)) (text : List ℕ) → AppendsPrefix a b text → AppendsSome a b text
some-front a b text front = (front.0, front.2)

-- and the first part of a longer text
pub some-longer : (a b : Option (List ℕ)) (text rest : List ℕ) → Appends a b text → AppendsSome a b (text ++ rest)
some-longer a b text rest whole =
    let P : List ℕ → Type 0 = λ t. Appends a b t in
    (length text, subst P (sym (take-append-le (length text) text rest (omega arith) ∙ take_all (length text) text (omega arith))) whole)

-- the first part of a text was written, and then the second
pub whole-after : (a b c : Option (List ℕ)) (text next : List ℕ) → Appends a b text → Appends b c next → Appends a c (text ++ next)
whole-after a b c text next = appends-more a b c text next

-- a front after the first part of a text
pub front-after : (a b c : Option (List ℕ)) (text next : List ℕ) → Appends a b text → AppendsPrefix b c next → AppendsPrefix a c (text ++ next)
front-after a b c text next whole front =
    let P : List ℕ → Type 0 = λ t. Appends a c t in (
      length text + front.0,
      omega (arith, front.1, length-append text next),
      subst P (sym (take-append-add text next front.0))
          (appends-more a b c text _ whole front.2),
    )

-- a prefix of the first part of a text
pub front-longer : (a b : Option (List ℕ)) (text rest : List ℕ) → AppendsPrefix a b text → AppendsPrefix a b (text ++ rest)
front-longer a b text rest front =
    let P : List ℕ → Type 0 = λ t. Appends a b t in
    (front.0, omega (arith, front.1, length-append text rest), subst P (sym (take-append-le front.0 text rest (omega (arith, front.1)))) front.2)
