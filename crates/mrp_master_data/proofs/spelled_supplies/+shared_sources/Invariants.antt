use Rattle.mrp_master_data.proofs.spelled_supplies.+shared_sources.Given as goal

abbrev pub decreases-shared_sources : goal.decreases-shared_sources
decreases-shared_sources l = l.left
