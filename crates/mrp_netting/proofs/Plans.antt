-- Netting one pair: the rows that were written are its plan.
use Rattle.std.proofs.Common.{◌≡◌, ℕ, ◌++◌, Bool, true, cond, List, [], ◌∙◌, ap}
use Rattle.std.proofs.lemmas.Bool.{cond-true}
use Rattle.mrp_netting.specs.PlanRows.{PlanRows}
use Rattle.mrp_netting.specs.Plan.{late_orders_in}

-- what the fields of a plan show
abbrev pub rows_of : ℕ → List ℕ → List ℕ → List ℕ → List ℕ → List ℕ → List ℕ → PlanRows
rows_of lead gross incoming order release available late = record {
  gross = gross;
  incoming = incoming;
  order = order;
  release = release;
  available = available;
  late = late_orders_in lead order late;
}

-- equal rows are one plan
pub copied : (lead : ℕ) (gross incoming order release available late : List ℕ) (gross2 incoming2 order2 release2 available2 late2 : List ℕ)
    → gross2 ≡ gross → incoming2 ≡ incoming → order2 ≡ order → release2 ≡ release → available2 ≡ available → late2 ≡ late
    → rows_of lead gross2 incoming2 order2 release2 available2 late2 ≡ rows_of lead gross incoming order release available late
copied lead gross incoming order release available late gross2 incoming2 order2 release2 available2 late2 g i o r a l = cc

-- a list that was cleared takes over another, where it has room
pub refilled : (took : Bool) (other slice cleared filled : List ℕ) → took ≡ true → slice ≡ other → cleared ≡ [] → filled ≡ cond took (cleared ++ slice) cleared
    → filled ≡ other
refilled took other slice cleared filled ok same empty is =
    is ∙ cond-true took (cleared ++ slice) cleared ok ∙ ap (λ (xs : List ℕ). xs ++ slice) empty ∙ same
