use Rattle.std.proofs.Common.{◌∙◌, refl}
use Rattle.mrp_agent.proofs.Opening.{joins_made}
use Rattle.mrp_agent.proofs.parts.first_waiting.Goals as goal

pub waiting_by-requires-clause-joins : goal.waiting_by-requires-clause-joins
waiting_by-requires-clause-joins c = c.deref.ensures.value ∙ joins_made c.args.view.now refl c.requires.parents refl c.in_ok-joins.ensures
