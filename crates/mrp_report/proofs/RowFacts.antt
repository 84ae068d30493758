-- The report of the plan: the rows of a pair have all periods.
use Rattle.std.proofs.Common.{◌≡◌, ℕ, List, length, subst, sym, ap, arith}
use Rattle.std.proofs.lemmas.List.FromFn.{length-map-range_with_len}
use Rattle.mrp_netting.specs.PlanRows.{PlanRows}
use Rattle.mrp_netting.specs.PlanningData.{PairData, one}
use Rattle.mrp_netting.proofs.OneRows.{one-gross, length-one-incoming, length-one-order, length-one-release, length-one-available}
use Rattle.mrp_master_data.specs.Table.{Table, IsPair, horizon}
use Rattle.mrp_net.specs.Plan.{gross, pair_data, rows_at}
use Rattle.mrp_net.specs.PlanLaws.{Fits}
use Rattle.mrp_report.specs.Parts.{HasPeriods}

-- the rows of a pair's plan have the periods of its gross requirements
one_has : (d : PairData) (n : ℕ) → length d.gross ≡ n → HasPeriods (one d) n
one_has d n same t lt = record {
  gross = omega (arith, ap (λ (row : List ℕ). length row) (one-gross d));
  incoming = omega (arith, length-one-incoming d);
  order = omega (arith, length-one-order d);
  release = omega (arith, length-one-release d);
  available = omega (arith, length-one-available d);
}

-- the plans of a table that fits have the periods of its calendar
pub fits_has : (N : Table) (table : List PlanRows) (x : ℕ) → Fits N table → IsPair N x → HasPeriods (rows_at table x) (horizon N)
fits_has N table x fits pair =
    let P : PlanRows → Type 0 = λ rows. HasPeriods rows (horizon N) in
    subst P (sym (fits.rows x pair))
    (one_has (pair_data N table x) (horizon N) (length-map-range_with_len (gross N table x) 0 (horizon N)))
