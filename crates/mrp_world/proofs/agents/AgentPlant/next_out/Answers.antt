use Rattle.std.proofs.lemmas.Option.{IfSome_then}
use Rattle.mrp_world.proofs.AgentSends.{given_is_next, none_is_next, out_within}
use Rattle.mrp_world.proofs.Looks.{none_more}
use Rattle.mrp_world.proofs.agents.AgentPlant.next_out.Goals as goal

pub next_out-requires : goal.next_out-requires
next_out-requires c = record { outgoing = out_within c.args.self.now c.args.lane.0 c.requires.lane }

pub returns-clause-next : goal.returns-clause-next
returns-clause-next c = IfSome_then c.next_out.result c.next_out.ensures.given (given_is_next c.args.self.now c.args.lane.0)

pub returns-clause-none : goal.returns-clause-none
returns-clause-none c = none_more _ _ _ (none_is_next c.args.self.now c.args.lane.0) c.next_out.ensures.none
