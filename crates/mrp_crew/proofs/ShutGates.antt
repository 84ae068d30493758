-- A crew's wave: where its fault is a shut gate, one of its workers wasn't let in.
use Rattle.std.proofs.Common.{◌≡◌, ◌≤◌, ◌⊎◌, inl, inr, ⊎_elim, Bool, true, false, ℕ, List, [], ◌∷◌, All, arith, sym, ◌∙◌, subst, refl}
use Rattle.std.specs.declared.thread.PromisedHandle.{PromisedHandle}
use Rattle.std.proofs.lemmas.Bool.{false≢true}
use Rattle.std.proofs.lemmas.List.Elements.{All-nil, All-cons, All-head, All-tail}
use Rattle.mrp_crew.specs.declared.fault.CrewFault.{CrewFault}
use Rattle.mrp_crew.specs.declared.fault.CrewFault.TheVariants.{Memory, ThreadRefused, GateShut}
use Rattle.mrp_crew.specs.declared.work.Order.{Order}
use Rattle.mrp_crew.specs.declared.work.Work.{Work}
use Rattle.mrp_crew.specs.Shut.{AreLetIn, IsLetIn, WasShutToWorker}
use Rattle.mrp_crew.specs.Started.{IsWorkerOf}

abbrev IsOpen : Work → Type 0
IsOpen work = work.open ≡ true

-- ---- a shut gate is no other fault

abbrev is_shut : CrewFault → Type 0
is_shut Memory = ⊥
is_shut ThreadRefused = ⊥
is_shut GateShut = Unit {0}

pub memory_is_no_gate : (fault : CrewFault) → fault ≡ Memory → fault ≡ GateShut → ⊥
memory_is_no_gate fault is shut = subst is_shut (sym shut ∙ is) tt

-- ---- and refused memory is no refused thread

abbrev is_refused : CrewFault → Type 0
is_refused Memory = ⊥
is_refused ThreadRefused = Unit {0}
is_refused GateShut = ⊥

pub memory_is_no_thread : (fault : CrewFault) → fault ≡ Memory → fault ≡ ThreadRefused → ⊥
memory_is_no_thread fault is refused = subst is_refused (sym refused ∙ is) tt

-- ---- the worker to whom it was shut

-- is that of the order
pub let_in_at : {G : Type 0} (Shut : ℕ → ℕ → Type 0) (plant workers : ℕ) (worker : PromisedHandle Work (Order G)) (work : Work)
    → IsWorkerOf plant workers worker
    → IsLetIn (Shut worker.promise.plant worker.promise.number) work → IsLetIn (WasShutToWorker Shut workers plant) work
let_in_at Shut plant workers worker work at shut = λ closed. (
  worker.promise.number,
  at.first,
  at.last,
  subst (λ (p : ℕ). Shut p worker.promise.number)
      at.plant_is (shut closed),
)

-- and one of so many is one of more
one_of_more : (Shut : ℕ → ℕ → Type 0) (few many plant : ℕ) → few ≤ many → WasShutToWorker Shut few plant → WasShutToWorker Shut many plant
one_of_more Shut few many plant more shut = (shut.0, shut.1, omega (arith, shut.2, more), shut.3)

pub let_in_of_more : (Shut : ℕ → ℕ → Type 0) (few many plant : ℕ) (works : List Work) → few ≤ many → AreLetIn (WasShutToWorker Shut few plant) works
    → AreLetIn (WasShutToWorker Shut many plant) works
let_in_of_more Shut few many plant works more shut = λ k d within closed. one_of_more Shut few many plant more (shut k d within closed)

-- ---- all were let in, or it was shut to one

one_open : (Shut : Type 0) (work : Work) (b : Bool) → work.open ≡ b → IsLetIn Shut work → IsOpen work ⊎ Shut
one_open Shut work true is shut = inl is
one_open Shut work false is shut = inr (shut is)

and_others : (Shut : Type 0) (work : Work) (works : List Work) → IsOpen work ⊎ Shut → All IsOpen works ⊎ Shut → All IsOpen (work ∷ works) ⊎ Shut
and_others Shut work works (inr shut) others = inr shut
and_others Shut work works (inl one) (inr shut) = inr shut
and_others Shut work works (inl one) (inl others) = inl (All-cons IsOpen work works one others)

all_open : (Shut : Type 0) (works : List Work) → AreLetIn Shut works → All IsOpen works ⊎ Shut
all_open Shut [] shut = inl (All-nil IsOpen)
all_open Shut (work ∷ works) shut =
    and_others Shut work works (one_open Shut work work.open refl (All-head (IsLetIn Shut) work works shut))
    (all_open Shut works (All-tail (IsLetIn Shut) work works shut))

-- so where a wave ended though all threads were started, it was shut to one
pub shut_to_one : (Shut : Type 0) (works : List Work) (open_ : Bool) → AreLetIn Shut works → (All (λ (work : Work). work.open ≡ true) works → open_ ≡ true)
    → open_ ≡ false → Shut
shut_to_one Shut works open_ shut says not_all = ⊎_elim (λ each. absurd (false≢true (sym not_all ∙ says each))) (λ s. s) (all_open Shut works shut)
