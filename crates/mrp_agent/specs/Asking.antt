-- The agent: what it drafts the plan of a pair from, which is what the releases of its parents ask of it, by places.
use Rattle.std.specs.Prelude.{◌≡◌, ℕ, ◌<◌, ◌≤◌, ◌+◌, List, length, map, sum_by, slice_index, slice_index_or, All}
use Rattle.std.specs.List.{range_with_len}
use Rattle.std.specs.List.Sorted.{IsNonDecreasingBy}
use Rattle.mrp_qty.specs.declared.limits.TheConstants.{MOST_PER}
use Rattle.mrp_netting.specs.PlanRows.{PlanRows}
use Rattle.mrp_netting.specs.PlanningBound.{IsWithinData}
use Rattle.mrp_netting.specs.PlanningData.{PairData, PairTerms, planned}
use Rattle.mrp_master_data.specs.declared.rows.FirmRow.{FirmRow}
use Rattle.mrp_master_data.specs.declared.rows.UsageRow.{UsageRow}
use Rattle.mrp_net.specs.declared.terms.PlanningTerms.{PlanningTerms}
use Rattle.mrp_net.specs.Plan.{no_rows}
use Rattle.mrp_net.specs.Terms.{terms_given}
use Rattle.mrp_net.specs.Usages.{pieces_for, usage_in}
use Rattle.mrp_plant_view.specs.declared.view.PlantPair.{PlantPair}
use Rattle.mrp_agent.specs.declared.drafting.PairRows.{PairRows}
use Rattle.mrp_agent.specs.declared.edges.ParentEdge.{ParentEdge}
use Rattle.mrp_agent.specs.State.{no_plant_pair}

-- the plan at a place
abbrev pub plan_at_place : List PlanRows → ℕ → PlanRows
plan_at_place plans place = slice_index_or plans place no_rows

-- what says how many pieces go into parents: the usage rows of the component, and the plant's pairs by their places
pub record Uses : Type 0 where
  pub rows : List UsageRow
  pub pairs : List PlantPair

-- the number of a parent
abbrev pub parent_number : List PlantPair → ParentEdge → ℕ
parent_number pairs e = (slice_index_or pairs e.parent no_plant_pair).number.0

-- what one parent asks in a period, and what all do
abbrev pub asked_on : Uses → List PlanRows → ℕ → ParentEdge → ℕ
asked_on uses plans t e =
    pieces_for (usage_in uses.rows (parent_number uses.pairs e) e.per t)
    (slice_index (plan_at_place plans e.parent).release t)

abbrev pub asked_by : Uses → List PlanRows → List ParentEdge → ℕ → ℕ
asked_by uses plans edges t = sum_by (asked_on uses plans t) edges

-- the parent has a plan of so many periods, and so many pieces go into it by its bill row
pub record ParentCanAsk (plans : List PlanRows) (periods : ℕ) (e : ParentEdge) : Type 0 where
  pub known : e.parent < length plans
  pub periods_are : length (plan_at_place plans e.parent).gross ≡ periods
  pub few : e.per ≤ MOST_PER

-- the usage rows are in range and stand in order of their parents, and each pair has a plan
pub record AreUses (uses : Uses) (plans : List PlanRows) : Type 0 where
  pub rows : All (λ u. (1 ≤ u.usage.base) × (u.usage.per ≤ MOST_PER)) uses.rows
  pub rise : IsNonDecreasingBy (λ u. u.parent.0) uses.rows
  pub plans_are : length plans ≡ length uses.pairs

-- the gross requirements: what is called for, and what the parents ask
abbrev pub grossed : List ℕ → List ParentEdge → Uses → List PlanRows → List ℕ
grossed demand edges uses plans =
    map (λ t. slice_index demand t + asked_by uses plans edges t) (range_with_len 0 (length demand))

-- a firm planned order is released and due within so many periods
pub record IsFirmWithin (periods : ℕ) (f : FirmRow) : Type 0 where
  pub start : f.start < periods
  pub due : f.due < periods

-- what the rows of a pair say of its parents
abbrev pub uses_by : PairRows → Uses
uses_by rows = record { rows = rows.usages.now; pairs = rows.pairs.now }

-- what planners say of a pair, its rows and the plans of its parents say together
abbrev pub data_over : PlanningTerms → PairRows → List PlanRows → PairData
data_over terms rows plans =
    planned (terms_given (length rows.demand.now) terms) rows.incoming.now
    (grossed rows.demand.now rows.edges.now (uses_by rows) plans)

-- what a pair's plan is drafted from
pub record HasDraft (terms : PairTerms) (receipts demand : List ℕ) (edges : List ParentEdge) (uses : Uses)
    (plans : List PlanRows) : Type 0 where
  pub within : IsWithinData (planned terms receipts (grossed demand edges uses plans))
  pub edges_are : All (ParentCanAsk plans (length demand)) edges
  pub uses_are : AreUses uses plans
