-- The run by threads: the faults that its plants meet, and the rule by which it stops.
use Rattle.std.proofs.Common.{◌≡◌, ℕ, ◌+◌, ◌≤◌, ◌<◌, Result, Ok, Err, inl, inr, ⊎_elim, sym, subst, arith}
use Rattle.std.specs.Result.{IfErr, IsErrAnd}
use Rattle.std.proofs.lemmas.Bool.{cases_lt}
use Rattle.mrp_master_data.specs.declared.numbers.PlantNo.{PlantNo}
use Rattle.mrp_run.specs.declared.fault.RunFault.{RunFault}
use Rattle.mrp_run.specs.declared.fault.RunFault.TheVariants.{Memory, ThreadRefused, GateShut, Stopped}
use Rattle.mrp_run.specs.Faults.{AllowsOf, IsOf, IsToldOrOf, WasSpent, never_spent}
use Rattle.mrp_run.specs.Worst.{AllowsOfFirst, IsOfFirst}

-- what holds of an error holds of the one that is handed on
pub handed_on : {T E : Type 0} (P : E → Type 0) (r : Result T E) (e : E) → IsErrAnd r (λ x. x ≡ e) → P e → IfErr r P
handed_on P (Ok x) e same holds = absurd same
handed_on P (Err f) e same holds = subst P (sym same) holds

-- a fault of a turn isn't that the plant has used its turns
pub not_stopped : {T : Type 0} (Shut : ℕ → Type 0) (plant : PlantNo) (r : Result T RunFault) → IfErr r (IsOf Shut never_spent plant) → r ≡ Err Stopped → ⊥
not_stopped Shut plant r met stopped = subst (λ z. IfErr z (IsOf Shut never_spent plant)) stopped met

-- what a plant meets that hasn't used its turns, it may meet
may_meet : (Shut Wider Spent : ℕ → Type 0) (plant : PlantNo) (fault : RunFault) → (Shut plant.0 → Wider plant.0) → IsOf Shut never_spent plant fault
    → IsOf Wider Spent plant fault
may_meet Shut Wider Spent plant Memory wider is = tt
may_meet Shut Wider Spent plant ThreadRefused wider is = tt
may_meet Shut Wider Spent plant (GateShut shut) wider is =
    (is.0, subst (λ (p : PlantNo). Wider p.0) (sym is.0) (wider (subst (λ (p : PlantNo). Shut p.0) is.0 is.1)))
may_meet Shut Wider Spent plant Stopped wider is = absurd is

pub of_turn : (Rule : RunFault → Type 0) (Shut Wider Spent : ℕ → Type 0) (plant : PlantNo) (fault : RunFault) → (Shut plant.0 → Wider plant.0)
    → IsOf Shut never_spent plant fault → IsToldOrOf Rule Wider Spent plant fault
of_turn Rule Shut Wider Spent plant fault wider is = inr (may_meet Shut Wider Spent plant fault wider is)

pub before_turn : (Rule : RunFault → Type 0) (Shut Wider Spent : ℕ → Type 0) (plant : PlantNo) (fault : RunFault) → (Shut plant.0 → Wider plant.0)
    → IsToldOrOf Rule Shut never_spent plant fault → IsToldOrOf Rule Wider Spent plant fault
before_turn Rule Shut Wider Spent plant fault wider is = elim is [ inl told ↦ inl told | inr met ↦ of_turn Rule Shut Wider Spent plant fault wider met ]

-- a plant that began no turn has used none
pub none_spent : (Open : ℕ → ℕ → Type 0) (plant : ℕ) → WasSpent Open 0 plant
none_spent Open plant turn some within = absurd (omega (arith, some, within))

-- and one to whose next turn the gate was open has used that as well
pub next_spent : (Open : ℕ → ℕ → Type 0) (turns plant : ℕ) → WasSpent Open turns plant → Open plant (turns + 1) → WasSpent Open (turns + 1) plant
next_spent Open turns plant before next turn some within =
    ⊎_elim
    (λ (late : turns < turn). subst (Open plant) (let last : turns + 1 ≡ turn = omega (arith, late, within) in last) next)
    (λ (early : turn ≤ turns). before turn some early) (cases_lt turns turn)

pub by_rule : (Rule : RunFault → Type 0) (Shut Spent : ℕ → Type 0) (plant : PlantNo) (fault : RunFault) → AllowsOf Rule Shut Spent plant
    → IsToldOrOf Rule Shut Spent plant fault → Rule fault
by_rule Rule Shut Spent plant fault rule is = elim is [ inl told ↦ told | inr met ↦ rule fault met ]

-- ---- one of the first so many plants

of_first : (Shut Spent : ℕ → Type 0) (plants : ℕ) (number : PlantNo) (fault : RunFault) → number.0 < plants → IsOf Shut Spent number fault
    → IsOfFirst Shut Spent plants fault
of_first Shut Spent plants number Memory within is = tt
of_first Shut Spent plants number ThreadRefused within is = tt
of_first Shut Spent plants number (GateShut shut) within is = (rw (is.0) within, is.1)
of_first Shut Spent plants number Stopped within is = (number.0, within, is)

pub allows_each : (Rule : RunFault → Type 0) (Shut Spent : ℕ → Type 0) (plants : ℕ) (number : PlantNo) → number.0 < plants
    → AllowsOfFirst Rule Shut Spent plants → AllowsOf Rule Shut Spent number
allows_each Rule Shut Spent plants number within rule = λ fault is. rule fault (of_first Shut Spent plants number fault within is)
