use borrow.Author.Rules.{rules}
use Rattle.std.proofs.Common.{Some, None, refl, arith}
use Rattle.std.proofs.lemmas.Grind.{common_steps}
use Rattle.std.proofs.lemmas.Result.{err_from_is_err_and}
use Rattle.mrp_book.specs.After.{figure_after_line}
use Rattle.mrp_book.specs.Faults.{line_tests}
use Rattle.mrp_book.proofs.Turns.{item_in_turn, own_fault, shown_line_tests, booked, line_kept}
use Rattle.mrp_book.proofs.book.Book.book_line.Goals as goal

pub returns-in_err-check_line : goal.returns-in_err-check_line
returns-in_err-check_line c =
    let p = err_from_is_err_and c.from_residual-in_err-check_line.result c.from_residual-in_err-check_line.ensures.1 in
    let t = item_in_turn _ c.args.self.now c.args.number c.args.item.0 c.in_ok-place.place c.index.result.now c.self.view_is c.in_ok-check_number.ensures
    c.in_ok-place.ensures c.index.ensures in
    let checked = shown_line_tests t c.get.result c.args.period c.args.quantity c.args.cumulative
    (Some c.in_err-check_line.field-0.0) c.get.ensures.value c.in_err-check_line.ensures in
    rw (p.1, p.2) (
      own_fault t (line_tests c.args.self.now.rising c.args.self.now.horizon c.args.number c.args.period c.args.quantity c.args.cumulative)
          (Some c.in_err-check_line.field-0.0) checked,
      refl,
    )

pub invariant_of-self : goal.invariant_of-self
invariant_of-self c =
    let t = item_in_turn _ c.args.self.now c.args.number c.args.item.0 c.in_ok-place.place c.index.result.now c.self.view_is c.in_ok-check_number.ensures
    c.in_ok-place.ensures c.index.ensures in
    let checked = shown_line_tests t c.get.result c.args.period c.args.quantity c.args.cumulative None c.get.ensures.value c.in_ok-check_line.ensures in
    line_kept t c.self.inside.places c.index_mut.result.now c.add_line.new.self c.args.period c.args.quantity c.args.cumulative c.self.invariant
    c.index_mut.ensures.value c.add_line.ensures checked

pub returns : goal.returns
returns c =
    let t = item_in_turn _ c.args.self.now c.args.number c.args.item.0 c.in_ok-place.place c.index.result.now c.self.view_is c.in_ok-check_number.ensures
    c.in_ok-place.ensures c.index.ensures in
    let checked = shown_line_tests t c.get.result c.args.period c.args.quantity c.args.cumulative None c.get.ensures.value c.in_ok-check_line.ensures in (
      own_fault t (line_tests c.args.self.now.rising c.args.self.now.horizon c.args.number c.args.period c.args.quantity c.args.cumulative) None checked,
      booked t c.index_mut.result.now c.add_line.new.self (figure_after_line c.args.period c.args.quantity)
          (Some c.args.item.0) c.index_mut.ensures.value c.add_line.ensures,
    )

pub returns-in_err-check_number : goal.returns-in_err-check_number
returns-in_err-check_number c = search rules

pub returns-in_err-place : goal.returns-in_err-place
returns-in_err-place c = grind (arith, common_steps)

pub add_line-requires-clause-figure : goal.add_line-requires-clause-figure
add_line-requires-clause-figure c = grind (arith, common_steps)
