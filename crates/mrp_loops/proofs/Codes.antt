-- Low-level codes are the longest chains, and a network with codes has no loop.
use Rattle.std.proofs.Common.{◌≡◌, ◌≢◌, ℕ, suc, ◌<◌, ◌≤◌, ◌==◌, false, List, [], ◌∷◌, length, sym, ◌∙◌, arith, All, slice_index}
use Rattle.std.proofs.lemmas.Bool.{eq-eqb, both_ways}
use Rattle.std.proofs.lemmas.List.{get_or_default}
use Rattle.mrp_master_data.specs.Table.{Table, IsTable, IsPair}
use Rattle.mrp_master_data.specs.declared.numbers.PairNo.{PairNo}
use Rattle.mrp_net.specs.Edges.{demanders}
use Rattle.mrp_loops.specs.Loop.{HasEdge, IsLoopFree}
use Rattle.mrp_loops.specs.Codes.{LeadsTo, AreCodes}
use Rattle.mrp_loops.specs.Need.{AreNeeds, AreWithin}
use Rattle.mrp_loops.specs.Sized.{IsSized}
use Rattle.mrp_loops.specs.Taking.{waiting_edges, IsTaken}
use Rattle.mrp_loops.specs.Walk.{IsStuck}
use Rattle.mrp_net.proofs.Members.{Contains-from_in}
use Rattle.mrp_loops.proofs.Edges.{HasEdge-pairs, demanders_only, edge_pairs}
use Rattle.mrp_loops.proofs.Taken.{waiting-some, edges_to-none, length-apart}
use Rattle.mrp_loops.proofs.Leaving.{left_is_counted}
use Rattle.mrp_loops.proofs.Steps.{longest_taken}

-- where each pair is taken away the codes are the longest chains
pub codes_exact : (N : Table) (queue : List PairNo) (left codes : List ℕ) → IsTaken N queue queue left codes → All (λ w. w ≡ 0) left → AreCodes N codes
codes_exact N queue left codes taken none = record {
  size = taken.counted.codes_size;
  code = λ x pair. record {
    chain = taken.counted.chains x pair;
    longest = longest_taken N queue queue left codes taken x pair (none x 0 (omega (arith, taken.counted.left_size)));
  };
}

pub codes_short : (N : Table) (queue : List PairNo) (left codes : List ℕ) → IsTaken N queue queue left codes → All (λ code. code ≤ length codes) codes
codes_short N queue left codes taken k d l =
    let pair : IsPair N k = omega (arith, taken.counted.codes_size) in
    let low = taken.counted.short k pair in
    let few = length-apart queue (length N.pairs) taken.counted.once taken.counted.pairs in
    rw (get_or_default codes k d 0 l) (omega (arith, taken.counted.codes_size))

-- codes rise along edges
pub edge_raises : (N : Table) (codes : List ℕ) → IsTable N → AreCodes N codes → (y x : ℕ) → HasEdge N y x → slice_index codes y < slice_index codes x
edge_raises N codes table are y x edge =
    let pairs = HasEdge-pairs N table y x edge in
    let longest = (are.code x pairs.1).longest (suc (slice_index codes y)) (y, edge, (are.code y pairs.0).chain) in
    omega arith

leads_rise : (N : Table) (codes : List ℕ) → IsTable N → AreCodes N codes → (x : ℕ) (xs : List ℕ) (after : ℕ) → LeadsTo N (x ∷ xs) after
    → slice_index codes x < slice_index codes after
leads_rise N codes table are x [] after h = edge_raises N codes table are x after h.0
leads_rise N codes table are x (y ∷ ys) after h =
    let here = edge_raises N codes table are x y h.0 in
    let rest = leads_rise N codes table are y ys after h.1 in
    omega arith

pub loop_free : (N : Table) (codes : List ℕ) → IsTable N → AreCodes N codes → IsLoopFree N
loop_free N codes table are [] h = h
loop_free N codes table are (x ∷ xs) h =
    let l = leads_rise N codes table are x xs x h in absurd (omega arith)

-- a pair that is left has a demander that is left
pub stuck_from_taken : (N : Table) (queue : List PairNo) (left codes : List ℕ) → IsTaken N queue queue left codes → IsStuck N left
stuck_from_taken N queue left codes taken = record {
  table = taken.counted.table;
  size = taken.counted.left_size;
  demander = λ x pair some.
      let waits : 0 < waiting_edges N queue x = omega (arith, taken.counted.counts x pair, edges_to-none x) in
      let e = waiting-some N queue x waits in
      let from = (edge_pairs N taken.counted.table e.0 (demanders_only N x e.0 e.1).0).0 in
      let test : (slice_index left e.0.demander.0 == 0) ≡ false = sym (taken.counted.queued e.0.demander.0 from) ∙ e.2 in
      let ne : slice_index left e.0.demander.0 ≢ 0 = λ z. both_ways (slice_index left e.0.demander.0 == 0) test (eq-eqb (slice_index left e.0.demander.0) 0 z)
      in
      (e.0, Contains-from_in (demanders N x) e.0 e.1, omega arith);
  all = left_is_counted N queue left codes taken;
}

-- a network with codes whose needs are within the bound is sized
pub sized_from_codes : (N : Table) (codes needs : List ℕ) → IsTable N → AreCodes N codes → AreNeeds N needs → AreWithin N needs → IsSized N
sized_from_codes N codes needs table are are_needs within =
    record { table = table; loop_free = loop_free N codes table are; needs = needs; are_needs = are_needs; within = within }
