use Rattle.mrp_agent.proofs.Reading as proved
use Rattle.mrp_agent.proofs.laws.received_figures_are_cumulative.Goals as goal

pub returns : goal.returns
returns c = proved.received_figures_are_cumulative
