use Rattle.std.proofs.Common.{◌≡◌, ℕ, ◌+◌, ◌<◌, List, [], ◌∷◌, ◌++◌, length, map, take, sym, ap, ◌∙◌, arith}
use Rattle.std.specs.List.{filter}
use Rattle.std.specs.Prelude.{slice_index_or}
use Rattle.std.proofs.lemmas.List.Elements.{filter-append}
use Rattle.std.proofs.lemmas.List.{append-nil, append_assoc, map-append, take_all, take_more}
use Rattle.mrp_net.specs.declared.edge.Edge.{Edge}
use Rattle.mrp_plan.specs.declared.terms.PegTerm.{PegTerm}
use Rattle.mrp_plan.specs.Peg.{edge_term, is_asked}
use Rattle.mrp_plan.proofs.pegging.push_edges.Goals as goal

-- one edge more is asked for its term
more : (before terms terms' : List PegTerm) (f : Edge → PegTerm) (edges : List Edge) (i : ℕ) (d : Edge) (term : PegTerm) → i < length edges
    → term ≡ f (slice_index_or edges i d)
    → terms' ≡ terms ++ filter is_asked (term ∷ []) → terms ≡ before ++ filter is_asked (map f (take i edges))
    → terms' ≡ before ++ filter is_asked (map f (take (i + 1) edges))
more before terms terms' f edges i d term within is new so_far =
    let here = slice_index_or edges i d in
    let all : map f (take i edges) ++ term ∷ [] ≡ map f (take (i + 1) edges) =
    ap (λ (z : PegTerm). map f (take i edges) ++ z ∷ []) is ∙ sym (map-append f (take i edges) (here ∷ [])) ∙ ap (map f) (sym (take_more edges i d within)) in
    new ∙ ap (λ (z : List PegTerm). z ++ filter is_asked (term ∷ [])) so_far
    ∙ append_assoc before (filter is_asked (map f (take i edges))) (filter is_asked (term ∷ []))
    ∙ ap (λ (z : List PegTerm). before ++ z) (sym (filter-append is_asked (map f (take i edges)) (term ∷ [])) ∙ ap (filter is_asked) all)

pub loop-edge-init : goal.loop-edge-init
loop-edge-init c = sym (append-nil c.args.terms.now.items)

pub edge_term-requires-clause-size : goal.edge_term-requires-clause-size
edge_term-requires-clause-size c = c.requires.size

pub edge_term-requires-clause-edge : goal.edge_term-requires-clause-edge
edge_term-requires-clause-edge c = c.requires.edges c.loop-edge.edge-index _ c.loop-edge-test.true

pub loop-edge-preserved : goal.loop-edge-preserved
loop-edge-preserved c =
    more c.args.terms.now.items _ _ (edge_term c.args.network.now c.args.plan.now c.args.t) c.args.edges.now c.loop-edge.edge-index _ _ c.loop-edge-test.true
    c.edge_term.ensures
    c.in_ok-push_term.ensures c.loop-edge.invariant

pub returns : goal.returns
returns c =
    let f = edge_term c.args.network.now c.args.plan.now c.args.t in
    c.loop-edge.invariant ∙ ap (λ (es : List Edge). c.args.terms.now.items ++ filter is_asked (map f es))
    (take_all c.loop-edge.edge-index c.args.edges.now (omega (arith, c.loop-edge-test.false)))
