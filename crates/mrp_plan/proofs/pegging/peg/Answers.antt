use Rattle.std.proofs.Common.{◌≡◌, List, ap, ◌∙◌, sym, subst}
use Rattle.mrp_master_data.specs.Table.{Table, IsPair}
use Rattle.std.specs.List.{All}
use Rattle.mrp_net.specs.Edges.{demanders}
use Rattle.mrp_plan.specs.Peg.{IsPeggable, peg_terms}
use Rattle.mrp_plan.specs.declared.terms.PegTerm.{PegTerm}
use Rattle.mrp_plan.proofs.Pegs.{peg_pairs, pegged}
use Rattle.mrp_plan.proofs.pegging.peg.Goals as goal

pub returns-clause-pairs : goal.returns-clause-pairs
returns-clause-pairs c =
    let N = c.args.net.now.network in
    let are : c.asking_edges-edges.result.now ≡ demanders N c.args.x.0 =
    c.asking_edges-edges.ensures.value ∙ ap (λ (m : Table). demanders m c.args.x.0) c.network-network.ensures.value in
    let P : Table → Type 0 = λ m. All (IsPeggable m c.args.plan.now c.args.t) c.asking_edges-edges.result.now in
    let T : List PegTerm → Type 0 = λ terms. All (λ term. IsPair N term.pair.0) terms in
    let is : c.push_edges.new.terms.items ≡ peg_terms N c.args.plan.now c.args.x.0 c.args.t =
    pegged c.args.net.now.network c.network-network.result.now c.args.plan.now c.args.x.0 c.args.t c.asking_edges-edges.result.now c.demand_term.result _
    c.push_term.new.terms.items c.push_edges.new.terms.items
    c.network-network.ensures.value c.asking_edges-edges.ensures.value c.demand_term.ensures c.new-terms.ensures.items c.in_ok-push_term.ensures
    c.in_ok-push_edges.ensures in
    subst T (sym is) (peg_pairs N c.args.plan.now c.args.x.0 c.args.t c.asking_edges-edges.result.now c.requires.pair are
    (λ i d h. ((subst P c.network-network.ensures.value c.asking_edges-edges.ensures.edges) i d h).edge))

pub asking_edges-edges-requires-clause-fits : goal.asking_edges-edges-requires-clause-fits
asking_edges-edges-requires-clause-fits c = rw c.network-network.ensures.value c.requires.fits

pub asking_edges-edges-requires-clause-pair : goal.asking_edges-edges-requires-clause-pair
asking_edges-edges-requires-clause-pair c = rw c.network-network.ensures.value c.requires.pair

pub asking_edges-edges-requires-clause-period : goal.asking_edges-edges-requires-clause-period
asking_edges-edges-requires-clause-period c = rw c.network-network.ensures.value c.requires.period

pub demand_term-requires-clause-pair : goal.demand_term-requires-clause-pair
demand_term-requires-clause-pair c = rw c.network-network.ensures.value c.requires.pair

pub demand_term-requires-clause-period : goal.demand_term-requires-clause-period
demand_term-requires-clause-period c = rw c.network-network.ensures.value c.requires.period

pub push_edges-requires-clause-size : goal.push_edges-requires-clause-size
push_edges-requires-clause-size c = rw c.network-network.ensures.value c.requires.fits.size

pub returns-clause-terms : goal.returns-clause-terms
returns-clause-terms c =
    pegged c.args.net.now.network c.network-network.result.now c.args.plan.now c.args.x.0 c.args.t c.asking_edges-edges.result.now c.demand_term.result _
    c.push_term.new.terms.items c.push_edges.new.terms.items
    c.network-network.ensures.value c.asking_edges-edges.ensures.value c.demand_term.ensures c.new-terms.ensures.items c.in_ok-push_term.ensures
    c.in_ok-push_edges.ensures
