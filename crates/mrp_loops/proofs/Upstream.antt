-- Loops: in a network without them there is a last one of each set upstream of a pair.
use Rattle.std.proofs.Common.{◌≡◌, ℕ, zero, suc, ◌+◌, ◌==◌, Bool, true, false, not, ⊎_elim, List, [], ◌∷◌, ◌++◌, reverse, length, refl, sym, ap, ◌∙◌, arith}
use Rattle.std.proofs.Common.{All, slice_index}
use Rattle.std.specs.List.{list_any}
use Rattle.std.proofs.lemmas.Bool.{eq-eqb, eqb-true, cases_Bool, or_parts, true≢false, both_ways}
use Rattle.std.proofs.lemmas.List.{length_push}
use Rattle.std.proofs.lemmas.List.Elements.{All-push, All-nil}
use Rattle.std.proofs.lemmas.Grind.{same_number_lists}
use Rattle.mrp_master_data.specs.Table.{Table, IsTable, IsPair}
use Rattle.mrp_master_data.specs.declared.numbers.PairNo.{PairNo}
use Rattle.mrp_net.specs.declared.edge.Edge.{Edge}
use Rattle.mrp_net.specs.Edges.{demanders}
use Rattle.mrp_loops.specs.Loop.{HasEdge, IsLoopFree}
use Rattle.mrp_loops.specs.Taking.{is_in}
use Rattle.mrp_loops.proofs.Climbing.{Climbs}
use Rattle.mrp_loops.specs.Walk.{IsApart}
use Rattle.mrp_loops.specs.Laws.{CodesAreOne, SetsHaveAFirst, DemandersDecide, NeedsAreOne}
use Rattle.mrp_net.proofs.Members.{In, any_some}
use Rattle.mrp_loops.proofs.Edges.{demanders_edge, demanders_only, HasEdge-from_in, HasEdge-pairs}
use Rattle.mrp_loops.proofs.Taken.{Apart-push}
use Rattle.mrp_loops.proofs.Rings.{climbs_more, path_short, ring_from_walk}
use Rattle.mrp_loops.proofs.Needed.{place_in, need_agrees}

any_none : {X : Type 0} (p : X → Bool) (xs : List X) (x : X) → list_any p xs ≡ false → In xs x → p x ≡ false
any_none p [] x f h = absurd h
any_none p (y ∷ ys) x f h =
    let parts = or_parts (p y) (list_any p ys) f in
    ⊎_elim (λ e. ap p (sym e) ∙ parts.0) (λ r. any_none p ys x parts.1 r) h

not_not : (b : Bool) → not b ≡ false → b ≡ true
not_not true e = refl
not_not false e = absurd (true≢false e)

module _ (N : Table) (table : IsTable N) (free : IsLoopFree N) (set : ℕ → Bool) where
  abbrev First : Type 0
  First = (first : ℕ) × IsPair N first × (set first ≡ true) × ((y : ℕ) → HasEdge N y first → set y ≡ false)

  upstream : (m : ℕ) (x : PairNo) (path : List PairNo) → length N.pairs ≡ m + length path → All (λ z. IsPair N z.0) path → IsPair N x.0 → IsApart path
      → is_in path x.0 ≡ false → Climbs (HasEdge N) x.0 (reverse path) → set x.0 ≡ true → First
  upstream zero x path size pairs pair apart new climbs here =
      let short = path_short N path x pairs pair apart new in absurd (omega arith)
  upstream (suc m) x path size pairs pair apart new climbs here = ⊎_elim
      (λ some.
      let e = any_some (λ (e : Edge). set e.demander.0) (demanders N x.0) some in
      let only = demanders_only N x.0 e.0 e.1 in
      let edge = HasEdge-from_in N e.0 e.0.demander.0 x.0 only.0 refl only.1 in
      let path' = path ++ x ∷ [] in
      let apart' = Apart-push path x apart new in
      let climbs' = climbs_more (HasEdge N) path x e.0.demander climbs edge in
      ⊎_elim
      (λ again.
      let c = place_in path' e.0.demander.0 again in
      absurd (free _ (ring_from_walk (HasEdge N) path' e.0.demander c.0 c.1 (c.2 e.0.demander) climbs' apart').round))
      (λ new'.
      upstream m e.0.demander path' (omega (arith, length_push path x))
      (All-push (λ (z : PairNo). IsPair N z.0) path x pairs pair) (HasEdge-pairs N table e.0.demander.0 x.0 edge).0 apart' new' climbs' e.2)
      (cases_Bool (is_in path' e.0.demander.0)))
      (λ none. (
        x.0,
        pair,
        here,
        λ y edge.
            let e = demanders_edge N table y x.0 edge in
            ap set (sym e.2) ∙ any_none (λ (e : Edge). set e.demander.0) (demanders N x.0) e.0 none e.1,
      ))
      (cases_Bool (list_any (λ (e : Edge). set e.demander.0) (demanders N x.0)))

pub sets_have_a_first : SetsHaveAFirst
sets_have_a_first N table free set x pair here =
    let this : PairNo = record { 0 = x } in
    upstream N table free set (length N.pairs) this [] (omega arith) (All-nil (λ (z : PairNo). IsPair N z.0)) pair
    (λ j k d jk kl e. omega arith) refl tt here

pub demanders_decide : DemandersDecide
demanders_decide N table free test step x pair = ⊎_elim
    (λ t. t)
    (λ f.
    let first = sets_have_a_first N table free (λ y. not (test y)) x pair (ap not f) in
    let passes = step first.0 first.1 (λ y edge. not_not (test y) (first.3 y edge)) in
    absurd (both_ways (not (test first.0)) (ap not passes) first.2))
    (cases_Bool (test x))

pub needs_are_one : NeedsAreOne
needs_are_one N table free a b are_a are_b =
    let each = demanders_decide N table free (λ x. slice_index a x == slice_index b x)
    (λ x pair demanders_agree. eq-eqb (slice_index a x) (slice_index b x)
    (are_a.need x pair ∙ (need_agrees N a b x (λ e h.
    let only = demanders_only N x e h in
    eqb-true (slice_index a e.demander.0) (slice_index b e.demander.0) (demanders_agree e.demander.0 (HasEdge-from_in N e e.demander.0 x only.0 refl only.1)))
    ∙ sym (are_b.need x pair)))) in
    same_number_lists a b (are_a.size ∙ sym are_b.size) (λ k l. eqb-true (slice_index a k) (slice_index b k) (each k (omega (arith, are_a.size))))

pub codes_are_one : CodesAreOne
codes_are_one N a b are_a are_b = same_number_lists a b (are_a.size ∙ sym are_b.size) (λ k l.
    let pair : IsPair N k = omega (arith, are_a.size) in
    let at_a = are_a.code k pair in
    let at_b = are_b.code k pair in
    let low = at_b.longest (slice_index a k) at_a.chain in
    let high = at_a.longest (slice_index b k) at_b.chain in
    omega arith)
