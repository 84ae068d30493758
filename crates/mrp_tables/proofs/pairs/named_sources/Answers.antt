use Rattle.mrp_master_data.proofs.Apart.{no_sources}
use Rattle.mrp_tables.proofs.pairs.named_sources.Goals as goal

pub returns-in-Make-clause-sources : goal.returns-in-Make-clause-sources
returns-in-Make-clause-sources c = λ h. no_sources

pub returns-in-Buy-clause-sources : goal.returns-in-Buy-clause-sources
returns-in-Buy-clause-sources c = λ h. no_sources
