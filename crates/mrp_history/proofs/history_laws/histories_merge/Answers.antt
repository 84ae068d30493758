use Rattle.mrp_history.proofs.Merging as proved
use Rattle.mrp_history.proofs.history_laws.histories_merge.Goals as goal

pub returns-clause-moments : goal.returns-clause-moments
returns-clause-moments c = proved.histories_merge

pub returns-clause-finished : goal.returns-clause-finished
returns-clause-finished c = proved.finished_histories_merge
