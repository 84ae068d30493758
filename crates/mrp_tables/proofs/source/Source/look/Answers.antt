use Rattle.mrp_tables.specs.Sources.{left_of}
use Rattle.mrp_tables.proofs.SourceFacts.{given_none, on_ok}
use Rattle.mrp_tables.proofs.source.Source.look.Goals as goal

pub returns : goal.returns
returns g c =
    on_ok c.give_back.result _ _
    (given_none (left_of g.R.Read.remaining c.args.self.now) (left_of g.R.Read.remaining c.fill-used.new.self)
    (left_of g.R.Read.remaining c.give_back.new.self) _ c.fill-used.ensures.taken) c.give_back.ensures.given
