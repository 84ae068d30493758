use Rattle.mrp_history.proofs.Explained as proved
use Rattle.mrp_history.proofs.history_laws.explained_states_merge.Goals as goal

pub returns-clause-moments : goal.returns-clause-moments
returns-clause-moments c = proved.explained_states_merge

pub returns-clause-finished : goal.returns-clause-finished
returns-clause-finished c = proved.finished_states_merge
