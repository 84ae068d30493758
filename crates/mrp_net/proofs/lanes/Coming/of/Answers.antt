use Rattle.std.proofs.Common.{ℕ, List, sym, subst}
use Rattle.mrp_net.specs.SourceRows.{AreSourceStarts}
use Rattle.mrp_net.proofs.lanes.Coming.of.Goals as goal

pub figures-requires : goal.figures-requires
figures-requires c = subst (λ (z : List ℕ). AreSourceStarts c.args.tables.now z) (sym c.as_slice.ensures.value) c.in_ok-sources.ensures

pub resets-requires : goal.resets-requires
resets-requires c = subst (λ (z : List ℕ). AreSourceStarts c.args.tables.now z) (sym c.as_slice-2.ensures.value) c.in_ok-sources.ensures

pub ships-requires : goal.ships-requires
ships-requires c = subst (λ (z : List ℕ). AreSourceStarts c.args.tables.now z) (sym c.as_slice-3.ensures.value) c.in_ok-sources.ensures

pub returns-clause-sources : goal.returns-clause-sources
returns-clause-sources c = c.in_ok-sources.ensures

pub returns-clause-shipments : goal.returns-clause-shipments
returns-clause-shipments c = c.in_ok-shipments.ensures.shipments

pub returns-clause-openings : goal.returns-clause-openings
returns-clause-openings c = c.in_ok-figures.ensures

pub returns-clause-sent : goal.returns-clause-sent
returns-clause-sent c = c.in_ok-shipments.ensures.shipped

pub returns-clause-resets : goal.returns-clause-resets
returns-clause-resets c = c.in_ok-resets.ensures
