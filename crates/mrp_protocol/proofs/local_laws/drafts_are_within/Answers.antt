use Rattle.mrp_protocol.proofs.LocalPlanned as proved
use Rattle.mrp_protocol.proofs.local_laws.drafts_are_within.Goals as goal

pub returns : goal.returns
returns c = proved.drafts_are_within
