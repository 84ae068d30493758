use Rattle.mrp_tables.specs.Sources.{left_of}
use Rattle.mrp_tables.proofs.SourceFacts.{filled_kept}
use Rattle.mrp_tables.proofs.threads.fill_first.Goals as goal

pub returns : goal.returns
returns g c = record {
  taken =
      filled_kept c.fill.result (left_of g.R.Read.remaining c.args.source.now) (left_of g.R.Read.remaining c.look.new.self)
      (left_of g.R.Read.remaining c.fill.new.source) c.fill.new.self.text.items c.in_ok-look.ensures c.fill.ensures.taken;
}
