-- The library for C: what a call answers, by what a text function wrote and what was told.
use Rattle.std.proofs.Common.{◌≡◌, ℕ, List, [], ◌++◌, Some, Result, Ok, Err, IfErr, inl, inr, ⊎_elim, subst}
use Rattle.std.specs.Io.KnownBytes.{Appends}
use Rattle.mrp_commands.specs.declared.reading.Reading.{Reading}
use Rattle.mrp_master_data.specs.Table.{Table}
use Rattle.mrp_api.specs.declared.fault.TextFault.{TextFault}
use Rattle.mrp_api.specs.declared.fault.TextFault.TheVariants.{Memory, WriteFault}
use Rattle.mrp_api.specs.Refusals.{Question, RefusesAs}
use Rattle.mrp_api.specs.Text.{OfTableWithin, Suits, Writes}
use Rattle.mrp_c_api.specs.Answers.{Answers, Tells}
use Rattle.mrp_c_api.specs.Buffer.{HandsOver}

-- what was handed over is the text that was appended to nothing
pub hands-text : (start held text old new : List ℕ) (size : ℕ) → start ≡ [] → Appends (Some start) (Some held) text
    → HandsOver held old new size → HandsOver text old new size
hands-text start held text old new size empty appended handed =
    let P : List ℕ → Type 0 = λ front. held ≡ front ++ text in
    let Q : List ℕ → Type 0 = λ it. HandsOver it old new size in
    subst Q (subst P empty appended) handed

-- what a text function wrote into an empty report, and what was told of it
pub answers-of : {U : Type 0} (bytes : List ℕ) (reading : Reading) (start report : List ℕ) (asked : Question) (IsReport : Table → List ℕ → Type 0)
    (done : Result U TextFault) (status : ℕ) (old new : List ℕ) (size : ℕ)
    → start ≡ [] → Writes (Some start) (Some report) done (λ text. OfTableWithin reading.limits (Some bytes) (λ N. Suits reading N × IsReport N text))
    → IfErr done (RefusesAs reading (Some bytes) asked) → Tells done report status old new size
    → Answers bytes reading asked IsReport status old new size
answers-of bytes reading start report asked IsReport (Ok u) status old new size empty written refused told =
    inl (written.0, written.1, told.0, hands-text start report written.0 old new size empty written.2 told.1)
answers-of bytes reading start report asked IsReport (Err WriteFault) status old new size empty written refused told =
    inr (Memory, (λ is. absurd (cc)), tt, told)
answers-of bytes reading start report asked IsReport (Err e) status old new size empty written refused told =
    ⊎_elim (λ own. inr (e, (λ is. absurd (cc)), refused, own)) (λ memory. inr (Memory, (λ is. absurd (cc)), tt, memory)) told
