use Rattle.mrp_agent.proofs.Network as proved
use Rattle.mrp_agent.proofs.laws.what_is_sent_is_legal.Goals as goal

pub returns-clause-within : goal.returns-clause-within
returns-clause-within c = proved.sent_is_within_64

pub returns-clause-legal : goal.returns-clause-legal
returns-clause-legal c = proved.sent_is_legal
