use Rattle.std.proofs.Common.{◌∙◌}
use Rattle.mrp_world.proofs.AgentReads.{figure_is, received_is}
use Rattle.mrp_world.proofs.agents.AgentPlant.received.Goals as goal

pub returns : goal.returns
returns c = λ m p at comes there.
    c.unwrap_or.ensures
    ∙ figure_is c.cumulative.result _ _
    (c.cumulative.ensures m.state.sent m.state.taken m.state.planned at.shown.history ∙ received_is c.args.self.now c.args.lane c.args.item m p at comes there)
