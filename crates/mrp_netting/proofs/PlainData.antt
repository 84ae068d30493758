-- Netting one pair: planning data of a pair that is netted from two rows.
use Rattle.std.proofs.Common.{◌≡◌, ℕ, ◌≤◌, List, length, take, refl, ◌∙◌, ap, arith}
use Rattle.mrp_qty.specs.declared.horizon.TheConstants.{LONGEST}
use Rattle.mrp_netting.specs.declared.params.PairParams.{PairParams}
use Rattle.mrp_netting.specs.declared.planning_data.PlanningData.{PlanningData}
use Rattle.mrp_netting.specs.Bound.{IsWithin}
use Rattle.mrp_netting.specs.PlanningData.{plain}
use Rattle.mrp_netting.specs.PlanningBound.{IsWithinData, data_of}

-- it is within the bound where the two rows are
pub plain_is_within : (pair : PairParams) (incoming gross : List ℕ) → IsWithin pair incoming gross → 1 ≤ length gross
    → length gross ≤ LONGEST → IsWithinData (plain pair incoming gross)
plain_is_within pair incoming gross is some short = record {
  rule = is.rule;
  lead = is.lead;
  fence = omega (arith, some);
  sooner = omega arith;
  cover = omega arith;
  least = omega arith;
  multiple = omega arith;
  periods = short;
  receipts = omega arith;
  arrivals = omega (arith, is.periods);
  firm_start = omega arith;
  firm_due = omega arith;
  firm = refl;
  total = omega (arith, is.total);
}

-- data that were made of the first places of an array are those of the row that was put there
pub plain_from : (given : PlanningData) (pair : PairParams) (incoming pieces gross : List ℕ) (count : ℕ)
    → ((row : List ℕ) → data_of given row ≡ plain pair (take count pieces) row)
    → take (length incoming) pieces ≡ incoming → count ≡ length incoming
    → data_of given gross ≡ plain pair incoming gross
plain_from given pair incoming pieces gross count is put all =
    let same : take count pieces ≡ incoming = ap (λ (n : ℕ). take n pieces) all ∙ put in
    is gross ∙ ap (λ (row : List ℕ). plain pair row gross) same
