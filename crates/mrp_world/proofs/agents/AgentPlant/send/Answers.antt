use Rattle.std.proofs.lemmas.Option.{IfSome_then}
use Rattle.mrp_world.proofs.AgentSends.{given_is_next, none_is_next, out_within, sent_shows}
use Rattle.mrp_world.proofs.Looks.{none_more}
use Rattle.mrp_world.proofs.agents.AgentPlant.send.Goals as goal

pub send-requires : goal.send-requires
send-requires c = record { outgoing = out_within c.args.self.now c.args.lane.0 c.requires.lane }

pub returns-clause-next : goal.returns-clause-next
returns-clause-next c = IfSome_then c.send.result c.send.ensures.given (given_is_next c.args.self.now c.args.lane.0)

pub returns-clause-none : goal.returns-clause-none
returns-clause-none c = none_more _ _ _ (none_is_next c.args.self.now c.args.lane.0) c.send.ensures.none

pub returns-clause-sent : goal.returns-clause-sent
returns-clause-sent c =
    IfSome_then c.send.result c.send.ensures.appended (λ r. sent_shows c.args.self.now c.send.new.self c.args.lane.0 r c.send.ensures.view)

pub returns-clause-unchanged : goal.returns-clause-unchanged
returns-clause-unchanged c = c.send.ensures.unchanged
