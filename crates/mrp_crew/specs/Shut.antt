-- A crew's workers: for which of them a gate was shut.
use Rattle.std.specs.Prelude.{◌≡◌, ◌≤◌, ℕ, false, List, All}
use Rattle.mrp_crew.specs.declared.work.Work.{Work}

-- the gate was shut to one of so many workers of the plant, by its number
abbrev pub WasShutToWorker : (ℕ → ℕ → Type 0) → ℕ → ℕ → Type 0
WasShutToWorker shut workers plant = (worker : ℕ) × (1 ≤ worker) × (worker ≤ workers) × shut plant worker

-- the worker was let in, or this holds
abbrev pub IsLetIn : Type 0 → Work → Type 0
IsLetIn Shut work = work.open ≡ false → Shut

-- each of them was, or this holds
abbrev pub AreLetIn : Type 0 → List Work → Type 0
AreLetIn Shut works = All (IsLetIn Shut) works
