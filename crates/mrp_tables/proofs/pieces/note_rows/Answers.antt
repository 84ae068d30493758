use Rattle.mrp_tables.proofs.NotedFacts.{noted_more, noted_none}
use Rattle.mrp_tables.proofs.pieces.note_rows.Goals as goal

pub rows-init : goal.rows-init
rows-init g c = record { gives = c.requires.gives; said = noted_none _ _ _ c.requires.none }

pub rows-preserved : goal.rows-preserved
rows-preserved g c = record {
  gives = c.in-Ok-Some.ensures.gives;
  said =
      rw c.in-Ok.ensures.items
      (noted_more _ _ _ _ _ c.in-Ok-Some.one c.rows.invariant.said (rw c.in-Ok-Some.field-0-is at c.in-Ok-Some.ensures.exact));
}
