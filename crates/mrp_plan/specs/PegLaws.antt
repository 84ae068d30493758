-- The plan of the whole network: laws of pegging in it. The terms of a period are its gross requirement, and each of
-- them is what a row of the table asks.
use Rattle.std.specs.Prelude.{◌≡◌, ℕ, ◌*◌, ◌<◌, List, sum_by, slice_index, All, Contains}
use Rattle.mrp_netting.specs.PlanRows.{PlanRows}
use Rattle.mrp_master_data.specs.declared.rows.BillRow.{BillRow}
use Rattle.mrp_master_data.specs.declared.rows.SourceRow.{SourceRow}
use Rattle.mrp_master_data.specs.Table.{Table, IsTable, IsPair, horizon, source_pair}
use Rattle.mrp_net.specs.Sums.{demand}
use Rattle.mrp_net.specs.Plan.{rows_at, release_at}
use Rattle.mrp_net.specs.PlanLaws.{Fits}
use Rattle.mrp_net.specs.Shares.{share_of}
use Rattle.mrp_net.specs.UsageLaws.{IsRoundedUp}
use Rattle.mrp_net.specs.Usages.{usage_in, usages_to}
use Rattle.mrp_plan.specs.Peg.{peg_terms}
use Rattle.mrp_plan.specs.declared.terms.PegTerm.{PegTerm}
use Rattle.mrp_plan.specs.declared.terms.PegSource.{PegSource}
use Rattle.mrp_plan.specs.declared.terms.PegSource.TheVariants.{Demand, Bill, Plant}

-- the terms of a pair in a period add up to its gross requirement there
abbrev pub TermsAddUp : Type 0
TermsAddUp = (N : Table) (table : List PlanRows) → Fits N table → (x t : ℕ) → IsPair N x → t < horizon N
    → sum_by (λ p. p.quantity) (peg_terms N table x t) ≡ slice_index (rows_at table x).gross t

-- each term is so many pieces for so many that are released, rounded up, and none is 0
abbrev pub TermsAreProducts : Type 0
TermsAreProducts = (N : Table) (table : List PlanRows) (x t : ℕ)
    → All (λ p. IsRoundedUp p.per p.base p.release p.quantity × (0 < p.quantity)) (peg_terms N table x t)

-- where they are so many pieces for each, it is their product
abbrev pub WholeTermsAreProducts : Type 0
WholeTermsAreProducts = (N : Table) (table : List PlanRows) (x t : ℕ)
    → All (λ p. p.base ≡ 1 → p.quantity ≡ p.release * p.per) (peg_terms N table x t)

-- the demand rows of the pair itself, one for one
pub record IsDemandTerm (N : Table) (x t : ℕ) (p : PegTerm) : Type 0 where
  pub pair : p.pair.0 ≡ x
  pub per : p.per ≡ 1
  pub base : p.base ≡ 1
  pub release : p.release ≡ demand N x t

-- a row of a bill, by which the parent takes the pair for its whole release: so many pieces for so many, as the usage in
-- force in the period says
pub record IsBillTerm (N : Table) (table : List PlanRows) (x t : ℕ) (p : PegTerm) : Type 0 where
  pub row : BillRow
  pub listed : Contains N.bills row
  pub parent : row.parent ≡ p.pair
  pub component : row.component.0 ≡ x
  pub usage : usage_in (usages_to N x) row.parent.0 row.per t ≡ record { per = p.per; base = p.base }
  pub release : p.release ≡ release_at table p.pair.0 t

-- a source, by which a pair takes its share of its release from this one, one for one
pub record IsPlantTerm (N : Table) (table : List PlanRows) (x t : ℕ) (p : PegTerm) : Type 0 where
  pub row : SourceRow
  pub listed : Contains N.sources row
  pub taker : row.pair ≡ p.pair
  pub supplier : source_pair N row ≡ x
  pub per : p.per ≡ 1
  pub base : p.base ≡ 1
  pub release : p.release ≡ share_of row.low row.high (release_at table p.pair.0 t)

-- what a term of each source is
abbrev pub IsTermOf : Table → List PlanRows → ℕ → ℕ → PegTerm → PegSource → Type 0
IsTermOf N table x t p Demand = IsDemandTerm N x t p
IsTermOf N table x t p Bill = IsBillTerm N table x t p
IsTermOf N table x t p Plant = IsPlantTerm N table x t p

-- each term is what the rows of its source ask
abbrev pub TermsHaveRows : Type 0
TermsHaveRows = (N : Table) (table : List PlanRows) → IsTable N → (x t : ℕ)
    → All (λ p. IsTermOf N table x t p p.source) (peg_terms N table x t)
