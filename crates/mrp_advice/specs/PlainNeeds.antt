-- Advice: when an open order of a pair without a policy is needed.
use Rattle.std.specs.Prelude.{ℕ, ◌+◌, Bool, nat_lt, List, length, take, sum, sum_by, Option}
use Rattle.std.specs.List.{find, range_with_len}
use Rattle.mrp_master_data.specs.declared.rows.PairRow.{PairRow}
use Rattle.mrp_advice.specs.declared.orders.OpenOrder.{OpenOrder}

-- the gross requirements of the periods up to one, that one included
abbrev pub gross_to : List ℕ → ℕ → ℕ
gross_to gross t = sum (take (t + 1) gross)

-- so many pieces, and nothing else, leave the balance of the period below safety stock
abbrev pub is_short : ℕ → List ℕ → ℕ → ℕ → Bool
is_short safety gross had t = nat_lt had (safety + gross_to gross t)

-- the first such period of the horizon, if there is one
abbrev pub first_short : ℕ → List ℕ → ℕ → Option ℕ
first_short safety gross had = find (is_short safety gross had) (range_with_len 0 (length gross))

-- what a pair has on hand and of its open orders before the i-th
abbrev pub had_before : PairRow → List OpenOrder → ℕ → ℕ
had_before pair orders i = pair.on_hand + sum_by (λ o. o.quantity) (take i orders)

-- the period in which the i-th open order of a pair is needed: the first in which what it has before isn't enough
abbrev pub plain_needed : PairRow → List ℕ → List OpenOrder → ℕ → Option ℕ
plain_needed pair gross orders i = first_short pair.safety gross (had_before pair orders i)
