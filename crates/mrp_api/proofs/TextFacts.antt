-- The library: what became of a text that a text function sent, and what its refusals say.
use Rattle.std.proofs.Common.{◌≡◌, ℕ, List, ◌++◌, Option, None, Some, Result, Ok, Err, IfErr, inl, inr, ⊎_elim, subst, sym, refl}
use Rattle.std.specs.Io.KnownBytes.{Appends, Keeps}
use Rattle.mrp_commands.specs.declared.reading.Reading.{Reading}
use Rattle.mrp_master_data.specs.Table.{Table}
use Rattle.mrp_csv_out.specs.Sent.{SendsReport}
use Rattle.mrp_csv_out.specs.declared.fault.ReportFault.{ReportFault}
use Rattle.mrp_csv_out.specs.declared.fault.ReportFault.TheVariants as report
use Rattle.mrp_csv_out.proofs.Fronts.{front-after, front-longer, some-longer}
use Rattle.mrp_api.specs.declared.fault.TextFault.{TextFault}
use Rattle.mrp_api.specs.declared.fault.TextFault.TheVariants as fault
use Rattle.mrp_api.specs.Fault.{IsLate, IsOfReport}
use Rattle.mrp_api.specs.Text.{IsTableOf, Suits, Writes}
use Rattle.mrp_api.specs.Refusals.{Question, RefusesAs, RefusesTable}

-- what was written of a text of one kind was written of a text of each kind that it is of
pub writes-of : {U : Type 0} (a b : Option (List ℕ)) (r : Result U TextFault) (P Q : List ℕ → Type 0)
    → ((text : List ℕ) → P text → Q text) → Writes a b r P → Writes a b r Q
writes-of a b (Ok u) P Q along written = (written.0, along written.0 written.1, written.2)
writes-of a b (Err fault.WriteFault) P Q along written = (written.0, along written.0 written.1, written.2)
writes-of a b (Err fault.Memory) P Q along written =
    ⊎_elim (λ kept. inl kept) (λ front. inr (front.0, along front.0 front.1, front.2)) written
writes-of a b (Err _) P Q along written = written

-- what a fault says of a table that was read, it says of the text
refused-of : (reading : Reading) (known : Option (List ℕ)) (asked : Question) (N : Table) (f : TextFault) → IsTableOf reading.limits known N → Suits reading N
    → RefusesTable asked N f → RefusesAs reading known asked f
refused-of reading known asked N (fault.Table e) is suits said = absurd said
refused-of reading known asked N fault.Memory is suits said = tt
refused-of reading known asked N _ is suits said = (N, is, (suits, said))

pub refuses-of : {U : Type 0} (reading : Reading) (known : Option (List ℕ)) (asked : Question) (N : Table) (r : Result U TextFault)
    → IsTableOf reading.limits known N
    → Suits reading N → IfErr r (RefusesTable asked N) → IfErr r (RefusesAs reading known asked)
refuses-of reading known asked N (Ok u) is suits said = tt
refuses-of reading known asked N (Err f) is suits said = refused-of reading known asked N f is suits said

-- a fault that is met once the input is tested is one of the machine, of which nothing is said
pub late-refuses : {U : Type 0} (asked : Question) (N : Table) (r : Result U TextFault) → IfErr r IsLate → IfErr r (RefusesTable asked N)
late-refuses asked N (Ok u) late = tt
late-refuses asked N (Err fault.WriteFault) late = tt
late-refuses asked N (Err fault.Memory) late = tt
late-refuses asked N (Err _) late = absurd late

-- bytes stay as they are
keeps-all : (a : Option (List ℕ)) → Keeps a a
keeps-all None = tt
keeps-all (Some xs) = refl

-- a text was not sent whole
pub report-fails : (a b : Option (List ℕ)) (text : List ℕ) (f : ReportFault) (e : TextFault) (P : List ℕ → Type 0)
    → P text → SendsReport {U = Unit {0}} a b (Err f) text → (f ≡ report.Memory → b ≡ a) → IsOfReport f e → Writes {U = Unit {0}} a b (Err e) P
report-fails a b text report.WriteFault e P is sent kept of =
    let Q : TextFault → Type 0 = λ e. Writes {U = Unit {0}} a b (Err e) P in
    subst Q (sym of) (text, is, sent)
report-fails a b text report.Memory e P is sent kept of =
    let Q : TextFault → Type 0 = λ e. Writes {U = Unit {0}} a b (Err e) P in
    let K : Option (List ℕ) → Type 0 = λ c. Keeps a c in
    subst Q (sym of) (inl (subst K (sym (kept refl)) (keeps-all a)))

sends-longer : (a b : Option (List ℕ)) (first rest : List ℕ) (f : ReportFault) → SendsReport {U = Unit {0}} a b (Err f) first
    → SendsReport {U = Unit {0}} a b (Err f) (first ++ rest)
sends-longer a b first rest report.WriteFault sent = front-longer a b first rest sent
sends-longer a b first rest report.Memory sent = tt

-- the first part of a text was not sent whole
pub first-fails : (a b : Option (List ℕ)) (first rest : List ℕ) (f : ReportFault) (e : TextFault) (P : List ℕ → Type 0)
    → P (first ++ rest) → SendsReport {U = Unit {0}} a b (Err f) first → (f ≡ report.Memory → b ≡ a) → IsOfReport f e → Writes {U = Unit {0}} a b (Err e) P
first-fails a b first rest f e P is sent kept of = report-fails a b (first ++ rest) f e P is (sends-longer a b first rest f sent) kept of

-- the first part of a text was sent, and the rest not whole
pub rest-fails : (a b c : Option (List ℕ)) (first rest : List ℕ) (f : ReportFault) (e : TextFault) (P : List ℕ → Type 0)
    → P (first ++ rest) → Appends a b first → SendsReport {U = Unit {0}} b c (Err f) rest → (f ≡ report.Memory → c ≡ b) → IsOfReport f e
    → Writes {U = Unit {0}} a c (Err e) P
rest-fails a b c first rest report.WriteFault e P is whole sent kept of =
    let Q : TextFault → Type 0 = λ e. Writes {U = Unit {0}} a c (Err e) P in
    subst Q (sym of) (first ++ rest, is, front-after a b c first rest whole sent)
rest-fails a b c first rest report.Memory e P is whole sent kept of =
    let Q : TextFault → Type 0 = λ e. Writes {U = Unit {0}} a c (Err e) P in
    let A : Option (List ℕ) → Type 0 = λ d. Appends a d first in
    subst Q (sym of) (inr (first ++ rest, is, some-longer a c first rest (subst A (sym (kept refl)) whole)))
