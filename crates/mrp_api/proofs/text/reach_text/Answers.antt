use Rattle.mrp_api.proofs.text.reach_text.Goals as goal

pub returns-clause-text : goal.returns-clause-text
returns-clause-text g c = c.usual_text.ensures.text
