use Rattle.std.proofs.lemmas.Result.{on_ok_weaker, IfErr-weaker}
use Rattle.mrp_world.proofs.AgentBooks.{booked_fits, booked_shows, in_within, refused_first, refused_is_not_first}
use Rattle.mrp_world.proofs.agents.AgentPlant.book.Goals as goal

pub book-requires : goal.book-requires
book-requires c = record { incoming = in_within c.args.self.now c.args.lane.0 c.requires.lane }

pub returns-clause-fits : goal.returns-clause-fits
returns-clause-fits c =
    on_ok_weaker c.book.result (booked_fits c.args.self.now c.book.new.self c.args.lane.0 c.args.entry.now c.book.ensures.view) c.book.ensures.booked

pub returns-clause-booked : goal.returns-clause-booked
returns-clause-booked c =
    on_ok_weaker c.book.result (booked_shows c.args.self.now c.book.new.self c.args.lane.0 c.args.entry.now c.book.ensures.view) c.book.ensures.booked

pub returns-clause-first : goal.returns-clause-first
returns-clause-first c = IfErr-weaker c.book.result _ _ (refused_first c.args.self.now c.args.lane.0 c.args.entry.now) c.book.ensures.refused

pub returns-clause-refused : goal.returns-clause-refused
returns-clause-refused c = IfErr-weaker c.book.result _ _ (refused_is_not_first c.args.self.now c.args.lane.0 c.args.entry.now) c.book.ensures.refused
