use Rattle.mrp_protocol.proofs.Sending as proved
use Rattle.mrp_protocol.proofs.view_laws.incoming_lanes_are_seen.Goals as goal

pub returns-clause-forms : goal.returns-clause-forms
returns-clause-forms c = proved.forms_are_seen

pub returns-clause-brought : goal.returns-clause-brought
returns-clause-brought c = proved.brought_is_seen
