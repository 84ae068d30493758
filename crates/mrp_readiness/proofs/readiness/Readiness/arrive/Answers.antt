use Rattle.mrp_readiness.proofs.Counting.{AreCounts-arrived}
use Rattle.mrp_readiness.proofs.readiness.Readiness.arrive.Goals as goal

pub returns-clause-counts : goal.returns-clause-counts
returns-clause-counts c = λ joins before after one was.
    AreCounts-arrived c.args.self.now.waits c.lower.new.self.waits joins c.args.self.now.planned c.lower.new.self.planned before after c.args.y c.requires.known
    c.lower.ensures.planned c.lower.ensures.fewer one was
