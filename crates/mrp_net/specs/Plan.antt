-- The network has one plan: the rows of each pair, whose gross requirements come from the releases of its demanders.
use Rattle.std.specs.Prelude.{ℕ, ◌+◌, zero, suc, List, [], length, map, sum_by, slice_index, slice_index_or}
use Rattle.std.specs.List.{range_with_len}
use Rattle.mrp_netting.specs.PlanRows.{PlanRows}
use Rattle.mrp_netting.specs.PlanningData.{PairData, planned, one}
use Rattle.mrp_master_data.specs.Table.{Table}
use Rattle.mrp_net.specs.declared.edge.Edge.{Edge}
use Rattle.mrp_net.specs.Edges.{demanders, edge_need}
use Rattle.mrp_net.specs.Sums.{demand, incoming, terms_at, row_of}

-- what a look-up past the rows of a plan reads
abbrev pub no_rows : PlanRows
no_rows = record { gross = []; incoming = []; order = []; release = []; available = []; late = [] }

-- the rows of a pair in a table of plans
abbrev pub rows_at : List PlanRows → ℕ → PlanRows
rows_at table x = slice_index_or table x no_rows

-- what the releases of demanders ask over edges in a period
abbrev pub asked : Table → List PlanRows → List Edge → ℕ → ℕ
asked N table edges t = sum_by (λ e. edge_need N e t (slice_index (rows_at table e.demander.0).release t)) edges

-- gross requirement: the demand rows, and what the releases of the demanders ask
abbrev pub gross : Table → List PlanRows → ℕ → ℕ → ℕ
gross N table x t = demand N x t + asked N table (demanders N x) t

-- what a pair is planned from beside the plans of its demanders, and its plan
abbrev pub pair_data : Table → List PlanRows → ℕ → PairData
pair_data N table x = planned (terms_at N x) (row_of N (incoming N x)) (row_of N (gross N table x))

abbrev pub pair_plan : Table → List PlanRows → ℕ → PlanRows
pair_plan N table x = one (pair_data N table x)

-- rounds of planning: in each, every pair is planned beside the releases of the round before; in the
-- first nothing was released
abbrev pub rounds : Table → ℕ → List PlanRows
rounds N zero = []
rounds N (suc k) = map (pair_plan N (rounds N k)) (range_with_len 0 (length N.pairs))

-- the plan of the network: after as many rounds as there are pairs
abbrev pub plan_of : Table → List PlanRows
plan_of N = rounds N (length N.pairs)

-- the release of a pair in a period
abbrev pub release_at : List PlanRows → ℕ → ℕ → ℕ
release_at table x t = slice_index (rows_at table x).release t
