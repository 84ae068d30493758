use borrow.Author.Rules.{rules}
use Rattle.std.proofs.Common.{Some, None, refl, arith}
use Rattle.std.proofs.lemmas.Grind.{common_steps}
use Rattle.std.proofs.lemmas.Result.{err_from_is_err_and}
use Rattle.mrp_book.specs.After.{with_end}
use Rattle.mrp_book.specs.Faults.{end_tests}
use Rattle.mrp_book.proofs.Turns.{item_in_turn, own_fault, booked, end_kept}
use Rattle.mrp_book.proofs.book.Book.book_end.Goals as goal

pub returns-in_err-check_end : goal.returns-in_err-check_end
returns-in_err-check_end c =
    let p = err_from_is_err_and c.from_residual-in_err-check_end.result c.from_residual-in_err-check_end.ensures.1 in
    let t = item_in_turn _ c.args.self.now c.args.number c.args.item.0 c.in_ok-place.place c.index.result.now c.self.view_is c.in_ok-check_number.ensures
    c.in_ok-place.ensures c.index.ensures in
    rw (p.1, p.2) (own_fault t (end_tests c.args.number c.args.lines c.args.cumulative) (Some c.in_err-check_end.field-0.0) c.in_err-check_end.ensures, refl)

pub invariant_of-self : goal.invariant_of-self
invariant_of-self c =
    let t = item_in_turn _ c.args.self.now c.args.number c.args.item.0 c.in_ok-place.place c.index.result.now c.self.view_is c.in_ok-check_number.ensures
    c.in_ok-place.ensures c.index.ensures in
    end_kept t c.self.inside.places c.index_mut.result.now c.add_end.new.self c.args.lines c.args.cumulative c.self.invariant c.index_mut.ensures.value
    c.add_end.ensures c.in_ok-check_end.ensures

pub returns : goal.returns
returns c =
    let t = item_in_turn _ c.args.self.now c.args.number c.args.item.0 c.in_ok-place.place c.index.result.now c.self.view_is c.in_ok-check_number.ensures
    c.in_ok-place.ensures c.index.ensures in (
      own_fault t (end_tests c.args.number c.args.lines c.args.cumulative) None c.in_ok-check_end.ensures,
      booked t c.index_mut.result.now c.add_end.new.self with_end None c.index_mut.ensures.value c.add_end.ensures,
    )

pub returns-in_err-check_number : goal.returns-in_err-check_number
returns-in_err-check_number c = search rules

pub returns-in_err-place : goal.returns-in_err-place
returns-in_err-place c = grind (arith, common_steps)
