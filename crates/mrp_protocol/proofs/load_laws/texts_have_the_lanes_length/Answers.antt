use Rattle.mrp_protocol.proofs.Small as proved
use Rattle.mrp_protocol.proofs.load_laws.texts_have_the_lanes_length.Goals as goal

pub returns-clause-texts : goal.returns-clause-texts
returns-clause-texts c = proved.texts_are_no_longer

pub returns-clause-beginnings : goal.returns-clause-beginnings
returns-clause-beginnings c = proved.beginnings_are_no_longer

pub returns-clause-steps : goal.returns-clause-steps
returns-clause-steps c = proved.steps_are_few
