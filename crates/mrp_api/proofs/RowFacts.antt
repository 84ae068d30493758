-- The library: what a text function has written of a plan where memory was refused.
use Rattle.std.proofs.Common.{◌≡◌, ◌≢◌, List, ℕ, Option, Result, Ok, Err, IfErr, inl, inr, ⊎_elim, subst, sym, refl}
use Rattle.std.specs.Io.KnownBytes.{Appends}
use Rattle.mrp_csv_out.specs.declared.fault.ReportFault.{ReportFault}
use Rattle.mrp_csv_out.specs.declared.fault.ReportFault.TheVariants as report
use Rattle.mrp_api.specs.declared.fault.TextFault.{TextFault}
use Rattle.mrp_api.specs.declared.fault.TextFault.TheVariants as fault
use Rattle.mrp_api.specs.Fault.{IsOfReport}
use Rattle.mrp_api.specs.Reports.{WritesRows}

-- where the rows could not be sent
pub rows-fail : {W : Type 0} (contents : W → Option (List ℕ)) (old new : W) (f : ReportFault) (e : TextFault) (P : List ℕ → Type 0)
    → (f ≡ report.Memory → new ≡ old) → IsOfReport f e → WritesRows {U = Unit {0}} contents old new (Err e) P
rows-fail contents old new report.WriteFault e P kept of =
    let Q : TextFault → Type 0 = λ e. WritesRows {U = Unit {0}} contents old new (Err e) P in
    subst Q (sym of) tt
rows-fail contents old new report.Memory e P kept of =
    let Q : TextFault → Type 0 = λ e. WritesRows {U = Unit {0}} contents old new (Err e) P in
    subst Q (sym of) (inl (kept refl))

-- where they were sent, and what comes after them not
pub late-fails : {W : Type 0} (contents : W → Option (List ℕ)) (old mid new : W) (rows : List ℕ) (f : ReportFault) (e : TextFault) (P : List ℕ → Type 0)
    → P rows → Appends (contents old) (contents mid) rows → (f ≡ report.Memory → new ≡ mid) → IsOfReport f e
    → WritesRows {U = Unit {0}} contents old new (Err e) P
late-fails contents old mid new rows report.WriteFault e P is whole kept of =
    let Q : TextFault → Type 0 = λ e. WritesRows {U = Unit {0}} contents old new (Err e) P in
    subst Q (sym of) tt
late-fails {W} contents old mid new rows report.Memory e P is whole kept of =
    let Q : TextFault → Type 0 = λ e. WritesRows {U = Unit {0}} contents old new (Err e) P in
    subst Q (sym of) (inr (rows, is, subst (λ (w : W). Appends (contents old) (contents w) rows) (sym (kept refl)) whole))

-- rows of one kind are rows of each kind that they are of
pub rows-of : {W U : Type 0} (contents : W → Option (List ℕ)) (old new : W) (r : Result U TextFault) (P Q : List ℕ → Type 0)
    → ((rows : List ℕ) → P rows → Q rows) → WritesRows contents old new r P → WritesRows contents old new r Q
rows-of contents old new (Ok u) P Q along written = tt
rows-of contents old new (Err fault.Memory) P Q along written = ⊎_elim (λ kept. inl kept) (λ sent. inr (sent.0, along sent.0 sent.1, sent.2)) written
rows-of contents old new (Err _) P Q along written = tt

-- of a report that is built before it is sent
pub rows-kept : {W U : Type 0} (contents : W → Option (List ℕ)) (old new : W) (r : Result U TextFault) (P : List ℕ → Type 0)
    → IfErr r (λ met. met ≢ fault.WriteFault → new ≡ old) → WritesRows contents old new r P
rows-kept contents old new (Ok u) P untouched = tt
rows-kept contents old new (Err fault.Memory) P untouched = inl (untouched (λ is. cc))
rows-kept contents old new (Err _) P untouched = tt
