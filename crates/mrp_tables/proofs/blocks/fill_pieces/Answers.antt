use Rattle.std.proofs.Common.{subst, sym, arith}
use Rattle.std.specs.Io.KnownBytes.{Consumes}
use Rattle.mrp_tables.specs.Sources.{left_of}
use Rattle.mrp_tables.proofs.BlockFacts.{texts_filled}
use Rattle.mrp_tables.proofs.SourceFacts.{consumes_on}
use Rattle.mrp_tables.proofs.blocks.fill_pieces.Goals as goal

pub loop-k-preserved : goal.loop-k-preserved
loop-k-preserved g c =
    subst (Consumes (left_of g.R.Read.remaining c.args.source.now) (left_of g.R.Read.remaining c.fill.new.source))
    (sym (texts_filled c.loop-k.pieces c.loop-k.k c.fill.new.self (omega arith)))
    (consumes_on _ _ _ _ _ c.loop-k.invariant c.in_ok-fill.ensures.taken)

pub returns-then-not-branch-clause-taken : goal.returns-then-not-branch-clause-taken
returns-then-not-branch-clause-taken g c =
    subst (Consumes (left_of g.R.Read.remaining c.args.source.now) (left_of g.R.Read.remaining c.fill.new.source))
    (sym (texts_filled c.loop-k.pieces c.loop-k.k c.fill.new.self (omega arith)))
    (consumes_on _ _ _ _ _ c.loop-k.invariant c.in_ok-fill.ensures.taken)
