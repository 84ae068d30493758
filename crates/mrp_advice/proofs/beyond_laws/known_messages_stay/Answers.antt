use Rattle.mrp_advice.proofs.Staying.{messages_stay, needs_stay, others_are_not_needed}
use Rattle.mrp_advice.proofs.beyond_laws.known_messages_stay.Goals as goal

pub returns-clause-needs : goal.returns-clause-needs
returns-clause-needs c = needs_stay

pub returns-clause-messages : goal.returns-clause-messages
returns-clause-messages c = messages_stay

pub returns-clause-others : goal.returns-clause-others
returns-clause-others c = others_are_not_needed
