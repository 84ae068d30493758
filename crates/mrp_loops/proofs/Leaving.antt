-- The loop check: what is left where pairs are taken away, and where the walk upstream goes among it.
use Rattle.std.proofs.Common.{◌≡◌, ℕ, zero, suc, ◌<◌, ◌≤◌, ◌==◌, ⊎_elim, List, length, get_or, slice_index, take, refl, sym, ap, subst, ◌∙◌, arith, All}
use Rattle.std.specs.List.{filter}
use Rattle.std.proofs.lemmas.Bool.{cases_eq, cases_lt}
use Rattle.std.proofs.lemmas.List.{get_or_default, get_or-take, length-take}
use Rattle.mrp_master_data.specs.Table.{Table, IsTable, IsPair}
use Rattle.mrp_master_data.specs.declared.numbers.PairNo.{PairNo}
use Rattle.mrp_grouping.proofs.Kept.{sorted_rows_rise}
use Rattle.mrp_net.specs.declared.edge.Edge.{Edge}
use Rattle.mrp_net.specs.Edges.{edges, demanders}
use Rattle.mrp_net.proofs.Members.{In-from_contains, Contains-from_in}
use Rattle.mrp_loops.specs.Loop.{HasEdge}
use Rattle.mrp_loops.specs.Codes.{HasChain}
use Rattle.mrp_loops.specs.Taking.{IsTaken}
use Rattle.mrp_loops.specs.Upstream.{IsFirst, IsLeft, GoesTo}
use Rattle.mrp_loops.specs.Walk.{IsStuck}
use Rattle.mrp_loops.proofs.Edges.{demanders_only, demanders_edge, HasEdge-from_in, HasEdge-pairs, edge_pairs}
use Rattle.mrp_loops.proofs.Rings.{demander_edge, demander_within}
use Rattle.mrp_loops.proofs.Steps.{longest_taken}

-- chains of every length end in a pair that is counted as left
pub left_has_chains : (N : Table) (left : List ℕ) → IsStuck N left → (n x : ℕ) → IsPair N x → 0 < slice_index left x → HasChain N x n
left_has_chains N left stuck zero x pair some = tt
left_has_chains N left stuck (suc n) x pair some =
    let e = stuck.demander x pair some in
    let only = demanders_only N x e.0 (In-from_contains (demanders N x) e.0 e.1) in
    let from = (edge_pairs N stuck.table e.0 only.0).0 in
    (e.0.demander.0, HasEdge-from_in N e.0 e.0.demander.0 x only.0 refl only.1, left_has_chains N left stuck n e.0.demander.0 from e.2)

-- and a pair that such chains end in is counted so
pub left_is_counted : (N : Table) (queue : List PairNo) (left codes : List ℕ) → IsTaken N queue queue left codes → (x : ℕ) → IsLeft N x → 0 < slice_index left x
left_is_counted N queue left codes taken x chains =
    let chain = chains (suc zero) in
    let pair = (HasEdge-pairs N taken.counted.table chain.0 x chain.1).1 in
    ⊎_elim
    (λ none.
    let short = longest_taken N queue queue left codes taken x pair none (suc (slice_index codes x)) (chains (suc (slice_index codes x))) in
    absurd (omega arith))
    (λ some. omega arith)
    (cases_eq (slice_index left x) 0)

-- the first that is counted as left is the first that is left
pub first_is_first : (N : Table) (left : List ℕ) (x : ℕ) → IsStuck N left → x < length left → 0 < slice_index left x → All (λ w. w ≡ 0) (take x left)
    → IsFirst (IsLeft N) x
first_is_first N left x stuck within some before = (
  λ n. left_has_chains N left stuck n x (omega (arith, stuck.size)) some,
  λ y chains. ⊎_elim
      (λ low.
      let none : slice_index left y ≡ 0 = sym (get_or-take x left y 0 low) ∙ before y 0 (omega (arith, length-take x left)) in
      let counted = stuck.all y chains in
      absurd (omega arith))
      (λ high. high)
      (cases_lt y x),
)

-- of the demanders of a pair those before i aren't left, so each that is left comes no earlier in the table than that at i
pub first_demander : (N : Table) (left : List ℕ) (x i : ℕ) (d : Edge) → IsTable N → i < length (demanders N x)
    → ((k : ℕ) (d : Edge) → k < i → slice_index left (get_or (demanders N x) k d).demander.0 ≡ 0)
    → (y : ℕ) → HasEdge N y x → 0 < slice_index left y → (get_or (demanders N x) i d).demander.0 ≤ y
first_demander N left x i d table l none y edge some =
    let e = demanders_edge N table y x edge in
    let at = Contains-from_in (demanders N x) e.0 e.1 in
    let is : (get_or (demanders N x) at.0 d).demander.0 ≡ y = ap (λ (w : Edge). w.demander.0) (get_or_default (demanders N x) at.0 d e.0 at.1 ∙ at.2) ∙ e.2 in
    ⊎_elim
    (λ low.
    let zero_left : slice_index left y ≡ 0 = subst (λ (w : ℕ). slice_index left w ≡ 0) is (none at.0 d low) in
    absurd (omega arith))
    (λ high. ⊎_elim
    (λ later.
    let rise = sorted_rows_rise Edge (λ (w : Edge). w.demander.0) (length N.pairs) (filter (λ (w : Edge). w.pair.0 == x) (edges N)) i at.0 d later at.1 in
    let rises : (get_or (demanders N x) i d).demander.0 ≤ (get_or (demanders N x) at.0 d).demander.0 = rise in
    omega arith)
    (λ here.
    let same : at.0 ≡ i = omega arith in
    let found : (get_or (demanders N x) i d).demander.0 ≡ y = subst (λ (k : ℕ). (get_or (demanders N x) k d).demander.0 ≡ y) same is in
    omega arith)
    (cases_lt i at.0))
    (cases_lt at.0 i)

-- so the walk goes to it
pub goes_to_first : (N : Table) (left : List ℕ) (x i : ℕ) (d : Edge) → IsStuck N left → i < length (demanders N x)
    → 0 < slice_index left (get_or (demanders N x) i d).demander.0
    → ((k : ℕ) (d : Edge) → k < i → slice_index left (get_or (demanders N x) k d).demander.0 ≡ 0)
    → GoesTo N x (get_or (demanders N x) i d).demander.0
goes_to_first N left x i d stuck l some none =
    let pair = demander_within N x i d stuck.table l in (
      (demander_edge N x i d l, λ n. left_has_chains N left stuck n (get_or (demanders N x) i d).demander.0 pair some),
      λ y has. first_demander N left x i d stuck.table l none y has.0 (stuck.all y has.1),
    )
