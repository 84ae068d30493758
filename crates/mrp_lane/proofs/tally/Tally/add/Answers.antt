use Rattle.std.proofs.Common.{◌≡◌, ◌+◌, length, drop, sym, subst, refl, ap, ◌∙◌, arith}
use Rattle.std.specs.List.{IsDistinct}
use Rattle.std.proofs.lemmas.List.{take_at}
use Rattle.mrp_lane.specs.Tallies.{Counts, counted, is_same_pieces, more_of}
use Rattle.mrp_lane.proofs.Counting.{apart_after, none_more, not_line}
use Rattle.mrp_lane.proofs.tally.Tally.add.Goals as goal

pub invariant_of-self : goal.invariant_of-self
invariant_of-self c =
    let old = c.self.inside.items.items in
    let new = c.add_pieces-self-inside.new.items in
    let back : length new ≡ c.self.inside.items.len = omega (arith, c.add_pieces-self-inside.auto.items, c.as_mut_slice.ensures.len) in
    subst (IsDistinct is_same_pieces) (sym (take_at new (drop (length new) old) c.self.inside.items.len back ∙ c.add_pieces-self-inside.ensures))
    (apart_after (more_of c.in-Line.item.0 c.in-Line.quantity) (λ i. refl) c.as_mut_slice.result.now
    (subst (IsDistinct is_same_pieces) (sym c.as_mut_slice.ensures.value) c.self.invariant))

pub returns-in_default : goal.returns-in_default
returns-in_default c =
    let items = none_more c.args.entry.now (not_line c.args.entry.now c.in_default.not-Line) c.self.inside.items.items in
    (λ j. record { records = c.self.inside.records + 1; items = sym items j }) ∙ ap (λ (t : Counts). counted t c.args.entry.now) c.self.view_is
