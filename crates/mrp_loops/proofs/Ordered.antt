-- Low-level codes: a network with them has an order by codes, and needs.
use Rattle.std.proofs.Common.{ℕ, List, map, length, replicate, arith}
use Rattle.std.proofs.lemmas.List.{length-replicate}
use Rattle.mrp_master_data.specs.Table.{Table, IsTable}
use Rattle.mrp_loops.specs.Codes.{AreCodes}
use Rattle.mrp_loops.specs.Order.{code_order}
use Rattle.mrp_loops.specs.Planning.{IsPlanningOrder}
use Rattle.mrp_loops.specs.Laws.{NeedsExist}
use Rattle.mrp_loops.proofs.Needed.{needs_extended, solved_none}
use Rattle.mrp_loops.proofs.Planning.{code_order_plans}

pub planning_order : (N : Table) (codes : List ℕ) → IsTable N → AreCodes N codes → (order : List ℕ) × IsPlanningOrder N order
planning_order N codes table are = (map (λ z. z.0) (code_order codes), code_order_plans N codes table are)

pub needs_exist : NeedsExist
needs_exist N codes table are =
    let order = code_order codes in
    let planning = code_order_plans N codes table are in
    let zeros = replicate (length N.pairs) 0 in
    let start = solved_none N order planning zeros (length-replicate (length N.pairs) 0) in
    let all = needs_extended N order planning (length order) 0 zeros (omega arith) start.are_found in
    (all.0, all.1)
