use Rattle.std.proofs.Common.{sym, ◌∙◌}
use Rattle.std.proofs.lemmas.Bool.{or_left, or_right, or_from}
use Rattle.mrp_book.specs.Faults.{is_other_begun}
use Rattle.mrp_book.proofs.Places.{not_on_lane, out_of_turn, in_turn, shown_at}
use Rattle.mrp_book.proofs.book.Book.place_in_turn.Goals as goal
use Rattle.mrp_book.proofs.book.Book.place_in_turn.Goals.{then-figure-via-then-figure, then-figure-via-else-figure+then-is_other_begun}

pub returns-in_default : goal.returns-in_default
returns-in_default c = not_on_lane c.args.self.now.items c.args.self.now.begun c.args.item.0 (sym c.in_default.ensures.place)

pub returns-then-figure : goal.returns-then-figure
returns-then-figure c =
    let g = c.index-figure.result.now in
    let at = shown_at _ c.args.self.now c.in-Some.place g c.self.view_is c.in-Some.ensures.within c.index-figure.ensures in
    out_of_turn c.args.self.now.items c.args.self.now.begun c.args.item.0 c.in-Some.place g (sym c.in-Some.ensures.place) at
    (elim c.then-figure.branch [
      | then-figure-via-then-figure w ↦ or_left g.ended (is_other_begun c.args.self.now.begun c.args.item.0) w.if-figure.true
      | then-figure-via-else-figure+then-is_other_begun w ↦
          or_right g.ended (is_other_begun c.args.self.now.begun c.args.item.0) (sym w.is_other_begun.ensures ∙ w.if-is_other_begun.true)
    ])

pub returns : goal.returns
returns c =
    let g = c.index-figure.result.now in
    let at = shown_at _ c.args.self.now c.in-Some.place g c.self.view_is c.in-Some.ensures.within c.index-figure.ensures in (
      sym c.in-Some.ensures.place,
      c.in-Some.ensures.within,
      in_turn c.args.self.now.items c.args.self.now.begun c.args.item.0 c.in-Some.place g (sym c.in-Some.ensures.place) at
          (or_from g.ended (is_other_begun c.args.self.now.begun c.args.item.0) c.if-figure.false (sym c.is_other_begun.ensures ∙ c.if-is_other_begun.false)),
    )
