-- The library: what the fault of a text function that runs threads says of its gate, and that a gate that is always
-- open is never answered as shut.
use Rattle.std.proofs.Common.{◌≡◌, ℕ, Bool, true, false, length, List, Option, Result, Ok, Err, IfErr, IsErrAnd, ⊎_elim, subst, sym, refl}
use Rattle.std.proofs.lemmas.Bool.{false≢true}
use Rattle.mrp_master_data.specs.Table.{Table}
use Rattle.mrp_run.specs.Faults.{AllTurned, WasShut, WasSpent}
use Rattle.mrp_api.specs.declared.fault.TextFault.{TextFault}
use Rattle.mrp_api.specs.declared.fault.TextFault.TheVariants as fault
use Rattle.mrp_commands.specs.declared.choice.Choice.TheVariants.{Plan}
use Rattle.mrp_api.specs.Answer.{IsNoShutGate, question_of}
use Rattle.mrp_api.specs.Fault.{IsLate}
use Rattle.mrp_api.specs.Gates.{GateExplains, IsGateFault}
use Rattle.mrp_api.specs.Refusals.{AskByThreads}
use Rattle.mrp_api.specs.Text.{IsTableOf, OfTableWithin}
use Rattle.mrp_qty.specs.declared.limits.LimitSet.{LimitSet}

-- ---- what the gate explains

-- of a table
abbrev InTable : Table → (Table → Type 0) → Type 0
InTable N says = says N

late_fault : (Shut Spent : ℕ → Type 0) (N : Table) (f : TextFault) → IsLate f → IsGateFault Shut Spent (InTable N) f
late_fault Shut Spent N (fault.GateShut name) late = absurd late
late_fault Shut Spent N fault.Stopped late = absurd late
late_fault Shut Spent N _ late = tt

text_fault : (Shut Spent : ℕ → Type 0) (limits : LimitSet) (known : Option (List ℕ)) (N : Table) (f : TextFault) → IsTableOf limits known N
    → IsGateFault Shut Spent (InTable N) f
    → IsGateFault Shut Spent (OfTableWithin limits known) f
text_fault Shut Spent limits known N (fault.GateShut name) is said = (N, is, said)
text_fault Shut Spent limits known N fault.Stopped is said = (N, is, said)
text_fault Shut Spent limits known N _ is said = tt

module _ (Open Shut Worker : ℕ → ℕ → Type 0) (workers turns : ℕ) where
  abbrev Was : ℕ → Type 0
  Was = WasShut Open Shut Worker workers turns

  abbrev Spent : ℕ → Type 0
  Spent = WasSpent Open turns

  -- a run whose plan was written, or not whole
  pub gate_late : {U : Type 0} (N : Table) (r : Result U TextFault) → AllTurned Open turns (length N.plants) → IfErr r IsLate
      → GateExplains Open Shut Worker workers turns (InTable N) r
  gate_late N (Ok u) turned late = record { turned = turned; shut = tt }
  gate_late N (Err f) turned late = record { turned = tt; shut = late_fault Was Spent N f late }

  -- a fault that is handed on
  pub gate_fails : {U : Type 0} (N M : Table) (r : Result U TextFault) (f : TextFault) → N ≡ M → IsErrAnd r (λ x. x ≡ f) → IsGateFault Was Spent (InTable N) f
      → GateExplains Open Shut Worker workers turns (InTable M) r
  gate_fails N M (Ok u) f same is shut = absurd is
  gate_fails N M (Err e) f same is shut = record {
    turned = tt;
    shut = subst (IsGateFault Was Spent (InTable M)) (sym is) (subst (λ (L : Table). IsGateFault Was Spent (InTable L) f) same shut);
  }

  -- so of the text
  pub gate_of : {U : Type 0} (limits : LimitSet) (known : Option (List ℕ)) (N : Table) (r : Result U TextFault) → IsTableOf limits known N
      → GateExplains Open Shut Worker workers turns (InTable N) r
      → GateExplains Open Shut Worker workers turns (OfTableWithin limits known) r
  gate_of limits known N (Ok u) is gate = record { turned = (N, is, gate.turned); shut = tt }
  gate_of limits known N (Err f) is gate = record { turned = tt; shut = text_fault Was Spent limits known N f is gate.shut }

-- ---- a gate that is always open

-- of turns it may say anything
never_shut : (Open : ℕ → ℕ → Type 0) (crew turns p : ℕ) → WasShut Open (λ _ _. ⊥) (λ _ _. ⊥) crew turns p → ⊥
never_shut Open crew turns p shut = ⊎_elim (λ turn. turn.3) (λ worker. worker.3) shut

open_fault : (Open : ℕ → ℕ → Type 0) (crew turns : ℕ) (Spent : ℕ → Type 0) (limits : LimitSet) (known : Option (List ℕ)) (f : TextFault)
    → IsGateFault (WasShut Open (λ _ _. ⊥) (λ _ _. ⊥) crew turns) Spent (OfTableWithin limits known) f → IsNoShutGate f
open_fault Open crew turns Spent limits known (fault.GateShut name) said = never_shut Open crew turns said.2.0 said.2.2
open_fault Open crew turns Spent limits known _ said = tt

pub open_gate : {U : Type 0} (Open : ℕ → ℕ → Type 0) (crew turns : ℕ) (limits : LimitSet) (known : Option (List ℕ)) (r : Result U TextFault)
    → GateExplains Open (λ _ _. ⊥) (λ _ _. ⊥) crew turns (OfTableWithin limits known) r → IfErr r IsNoShutGate
open_gate Open crew turns limits known (Ok u) gate = tt
open_gate Open crew turns limits known (Err f) gate = open_fault Open crew turns (WasSpent Open turns) limits known f gate.shut

-- a plan that isn't asked for on one thread
pub asks_threads : (workers capacity : ℕ) (single : Bool) → single ≡ false → question_of (Plan workers capacity single) ≡ AskByThreads
asks_threads workers capacity true e = absurd (false≢true (sym e))
asks_threads workers capacity false e = refl
