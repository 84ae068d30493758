use Rattle.std.proofs.Common.{refl, arith}
use Rattle.mrp_tables.specs.Sources.{left_of}
use Rattle.mrp_tables.proofs.SourceFacts.{front_within, kept_front}
use Rattle.mrp_tables.proofs.pieces.Piece.fill.Goals as goal

pub returns : goal.returns
returns g c = record {
  taken =
      rw c.truncate.ensures.items
      (kept_front (left_of g.R.Read.remaining c.args.source.now) (left_of g.R.Read.remaining c.fill-used.new.self)
      (left_of g.R.Read.remaining c.give_back.new.self) _ c.fill-used.new.room c.resize.new.self.items c.resize.new.self.len c.behind_last_feed-end.result
      c.fill-used.result refl (omega (arith, c.as_mut_slice.ensures.len)) (omega (arith, c.fill-used.ensures.within))
      (front_within c.behind_last_feed-end.result c.fill-used.result c.deref.result.now c.behind_last_feed-end.ensures)
      c.fill-used.ensures.taken (rw c.deref-2.ensures.value at c.in_ok-give_back.ensures.given));
}
