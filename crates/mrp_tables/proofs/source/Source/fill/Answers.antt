use Rattle.std.proofs.Common.{arith}
use Rattle.mrp_tables.proofs.SourceFacts.{consumed_on, filled_within}
use Rattle.mrp_tables.proofs.source.Source.fill.Goals as goal

pub bytes-preserved : goal.bytes-preserved
bytes-preserved g c = record {
  within = filled_within c.bytes.room c.read.new.buf c.bytes.used _ c.in-Ok.count c.bytes.invariant.within (omega arith) c.in-Ok.ensures.bound.0;
  taken =
      consumed_on _ _ _ c.bytes.room c.read.new.buf c.bytes.used _ c.in-Ok.count c.bytes.invariant.within (omega arith)
      c.in-Ok.ensures.bound.0
      c.bytes.invariant.taken c.in-Ok.ensures.bytes.0;
}

pub returns-then-ends_a_row-clause-taken : goal.returns-then-ends_a_row-clause-taken
returns-then-ends_a_row-clause-taken g c =
    consumed_on _ _ _ c.bytes.room c.read.new.buf c.bytes.used _ c.in-Ok.count c.bytes.invariant.within (omega arith)
    c.in-Ok.ensures.bound.0
    c.bytes.invariant.taken c.in-Ok.ensures.bytes.0
