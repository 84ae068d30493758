use Rattle.std.proofs.Common.{◌≡◌, ◌≢◌, ◌<◌, ⊎_elim, ℕ, List, length, ap, subst, ◌∙◌, arith, get_or, slice_index}
use Rattle.std.proofs.lemmas.List.{get_or_default}
use Rattle.std.proofs.lemmas.Bool.{cases_eq}
use Rattle.mrp_net.specs.declared.edge.Edge.{Edge}
use Rattle.mrp_loops.proofs.Steps.{no_edge}
use Rattle.mrp_loops.proofs.Leaving.{goes_to_first}
use Rattle.mrp_loops.proofs.walk.demander_left.Goals as goal

pub returns-then-left-edge-gt0-clause-goes : goal.returns-then-left-edge-gt0-clause-goes
returns-then-left-edge-gt0-clause-goes c =
    let value = c.demanders-edge-items.ensures.value in
    let index = c.loop-edge.edge-index in
    let none = subst (λ (es : List Edge). (k : ℕ) (d : Edge) → k < index
    → slice_index c.args.left.now (get_or es k d).demander.0 ≡ 0) value c.loop-edge.invariant in
    let some = subst (λ (es : List Edge). 0 < slice_index c.args.left.now (get_or es index no_edge).demander.0) value c.if-left-edge-gt0.true in
    rw value
    (goes_to_first c.args.network.now c.args.left.now c.args.x.0 index no_edge c.requires.stuck (omega (arith, ap length value)) some none)

pub loop-edge-preserved : goal.loop-edge-preserved
loop-edge-preserved c = λ k d l. ⊎_elim
    (λ same.
    let es = c.demanders-edge-items.result.now in
    let at : get_or es k d ≡ get_or es c.loop-edge.edge-index no_edge =
    ap (λ (j : ℕ). get_or es j d) same ∙ get_or_default es c.loop-edge.edge-index d no_edge c.loop-edge-test.true in
    let none : slice_index c.args.left.now (get_or es c.loop-edge.edge-index no_edge).demander.0 ≡ 0 = omega (arith, c.if-left-edge-gt0.false) in
    ap (λ (e : Edge). slice_index c.args.left.now e.demander.0) at ∙ none)
    (λ ne. let ne' : k ≢ c.loop-edge.edge-index = ne in c.loop-edge.invariant k d (omega arith))
    (cases_eq k c.loop-edge.edge-index)
