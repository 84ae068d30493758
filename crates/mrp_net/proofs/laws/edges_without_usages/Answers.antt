use Rattle.mrp_net.proofs.Needs.{needs_without_usages, sources_ask_their_shares}
use Rattle.mrp_net.proofs.UsageRows.{sources_have_no_usages}
use Rattle.mrp_net.proofs.laws.edges_without_usages.Goals as goal

pub returns-clause-bills : goal.returns-clause-bills
returns-clause-bills c = needs_without_usages

pub returns-clause-none : goal.returns-clause-none
returns-clause-none c = sources_have_no_usages

pub returns-clause-sources : goal.returns-clause-sources
returns-clause-sources c = sources_ask_their_shares
