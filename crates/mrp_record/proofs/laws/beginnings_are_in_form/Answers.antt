use Rattle.mrp_record.proofs.Forming as proved
use Rattle.mrp_record.proofs.laws.beginnings_are_in_form.Goals as goal

pub returns-clause-form : goal.returns-clause-form
returns-clause-form c = proved.beginnings_are_in_form

pub returns-clause-figures : goal.returns-clause-figures
returns-clause-figures c = proved.figures_are_small

pub returns-clause-cums : goal.returns-clause-cums
returns-clause-cums c = proved.cums_are_small
