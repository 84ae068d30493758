use Rattle.mrp_protocol.proofs.Small as proved
use Rattle.mrp_protocol.proofs.load_laws.beginnings_are_in_form.Goals as goal

pub returns-clause-form : goal.returns-clause-form
returns-clause-form c = proved.legal_is_in_form

pub returns-clause-figures : goal.returns-clause-figures
returns-clause-figures c = proved.legal_figures_are_small

pub returns-clause-cums : goal.returns-clause-cums
returns-clause-cums c = proved.legal_cums_are_small
