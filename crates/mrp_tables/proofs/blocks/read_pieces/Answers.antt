use Rattle.std.proofs.Common.{arith}
use Rattle.mrp_tables.proofs.BlockFacts.{texts_same}
use Rattle.mrp_tables.proofs.blocks.read_pieces.Goals as goal

pub returns-clause-texts : goal.returns-clause-texts
returns-clause-texts g c =
    texts_same c.for_each_mut.new.s c.args.pieces.now (omega arith)
    (λ k d within. let at = (c.for_each_mut.ensures k d (omega arith)).1 in grind arith)
