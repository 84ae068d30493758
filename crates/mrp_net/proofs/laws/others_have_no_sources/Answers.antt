use Rattle.mrp_net.proofs.Sharing.{others_have_no_sources, others_have_components, bought_have_no_edges}
use Rattle.mrp_net.proofs.laws.others_have_no_sources.Goals as goal

pub returns-clause-sources : goal.returns-clause-sources
returns-clause-sources c = others_have_no_sources

pub returns-clause-components : goal.returns-clause-components
returns-clause-components c = others_have_components

pub returns-clause-bought : goal.returns-clause-bought
returns-clause-bought c = bought_have_no_edges
