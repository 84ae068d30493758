use Rattle.mrp_c_api.proofs.calls.plan.Goals as goal

pub returns : goal.returns
returns c =
    c.answer.ensures
