use Rattle.mrp_history.proofs.Causal as proved
use Rattle.mrp_history.proofs.history_laws.lanes_are_causal.Goals as goal

pub returns : goal.returns
returns c = proved.lanes_are_causal
