-- The library: for the fault of a text function that names a loop, its pairs are pairs of the table.
use Rattle.std.proofs.Common.{ℕ, zero, suc, List, [], ◌∷◌, map, All, arith}
use Rattle.mrp_master_data.specs.Table.{Table, IsTable, IsPair}
use Rattle.mrp_master_data.specs.declared.numbers.PairNo.{PairNo}
use Rattle.mrp_loops.specs.Loop.{IsLoop}
use Rattle.mrp_loops.specs.Codes.{LeadsTo}
use Rattle.mrp_loops.specs.LoopFaults.{IsLoopFault}
use Rattle.mrp_loops.specs.declared.loops.LoopFault.{LoopFault}
use Rattle.mrp_loops.specs.declared.loops.LoopFault.TheVariants as check
use Rattle.mrp_loops.proofs.Edges.{HasEdge-pairs}
use Rattle.mrp_api.specs.Checks.{AreLoopPairs}

leads_pairs : (N : Table) → IsTable N → (pairs : List PairNo) (after : ℕ) → LeadsTo N (map (λ x. x.0) pairs) after → All (λ x. IsPair N x.0) pairs
leads_pairs N table [] after leads k d lt = absurd (omega arith)
leads_pairs N table (x ∷ xs) after leads zero d lt = (HasEdge-pairs N table x.0 _ leads.0).0
leads_pairs N table (x ∷ xs) after leads (suc k) d lt = leads_pairs N table xs after leads.1 k d (omega arith)

pub loop_pairs : (N : Table) → IsTable N → (pairs : List PairNo) → IsLoop N (map (λ x. x.0) pairs) → All (λ x. IsPair N x.0) pairs
loop_pairs N table [] loop = absurd loop
loop_pairs N table (x ∷ xs) loop = leads_pairs N table (x ∷ xs) x.0 loop

pub found_pairs : (N : Table) → IsTable N → (f : LoopFault) → IsLoopFault N f → AreLoopPairs N f
found_pairs N table (check.Loop pairs) found = loop_pairs N table pairs.items found.found.loop
found_pairs N table check.Memory found = tt
