-- Shortages, which of this period's requirements lack parts: what is there of a pair in period 0, and what each term of
-- its gross requirement lacks of it.
use Rattle.std.specs.Prelude.{ℕ, ◌+◌, ◌-◌, ◌==◌, ◌&&◌, nat_lt, Bool, true, false, if◌then◌else◌, List, [], ◌∷◌, filter}
use Rattle.std.specs.Prelude.{slice_index}
use Rattle.mrp_netting.specs.PlanRows.{PlanRows}
use Rattle.mrp_master_data.specs.declared.rows.Supply.{Supply}
use Rattle.mrp_master_data.specs.declared.rows.Supply.TheVariants.{Buy, From, Make}
use Rattle.mrp_master_data.specs.Table.{Table}
use Rattle.mrp_net.specs.FirmOrders.{firm_due}
use Rattle.mrp_net.specs.Plan.{rows_at}
use Rattle.mrp_net.specs.Sums.{earliest_at, pair_at, received, shipped}
use Rattle.mrp_plan.specs.Peg.{peg_terms}
use Rattle.mrp_plan.specs.declared.terms.PegTerm.{PegTerm}
use Rattle.mrp_shortages.specs.declared.shortage.Shortage.{Shortage}

-- a pair is made at its plant
abbrev pub is_made : Supply → Bool
is_made Make = true
is_made Buy = false
is_made From = false

-- the pair is made, and its planned orders can come in in period 0: what is short of it is short of its components, whose
-- own terms say so
abbrev pub is_made_at_once : Table → ℕ → Bool
is_made_at_once N x = is_made (pair_at N x).supply && (earliest_at N x == 0)

-- the orders of such a pair that are due in period 0, firm and planned. Orders of every other pair aren't there
abbrev pub made_at_once : Table → List PlanRows → ℕ → ℕ
made_at_once N table x = if is_made_at_once N x then firm_due N x 0 + slice_index (rows_at table x).order 0 else 0

-- what is there of a pair in period 0: on hand, safety stock with it, its receipts and the shipments to it that come in
-- the period by their rows, and what is made at once
abbrev pub there : Table → List PlanRows → ℕ → ℕ
there N table x = (pair_at N x).on_hand + (received N x 0 + shipped N x 0) + made_at_once N table x

-- what a term lacks of the pieces that are left (subtraction of ℕ stops at 0)
abbrev pub lack_of : ℕ → PegTerm → Shortage
lack_of left term = record { term = term; short = term.quantity - left }

-- so for each of the terms, which take one after the other as much as is left
abbrev pub lacks_of : ℕ → List PegTerm → List Shortage
lacks_of left [] = []
lacks_of left (term ∷ terms) = lack_of left term ∷ lacks_of (left - term.quantity) terms

-- something is missing
abbrev pub is_short : Shortage → Bool
is_short shortage = nat_lt 0 shortage.short

-- the shortages of a pair: each term of its gross requirement in period 0 that gets less than it asks for
abbrev pub shortages_of : Table → List PlanRows → ℕ → List Shortage
shortages_of N table x = filter is_short (lacks_of (there N table x) (peg_terms N table x 0))
