use Rattle.mrp_loops.proofs.Within as within
use Rattle.mrp_loops.proofs.laws.releases_within_need.Goals as goal

pub returns-clause-releases : goal.returns-clause-releases
returns-clause-releases c = within.releases_within_need

pub returns-clause-gross : goal.returns-clause-gross
returns-clause-gross c = within.gross_within_need

pub returns-clause-supply : goal.returns-clause-supply
returns-clause-supply c = within.supply_and_releases_within

pub returns-clause-figures : goal.returns-clause-figures
returns-clause-figures c = within.figures_within
