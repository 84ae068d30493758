use Rattle.std.proofs.Common.{Some, None, refl}
use Rattle.std.proofs.lemmas.Result.{err_from_is_err_and}
use Rattle.mrp_book.specs.After.{figure_after_reset}
use Rattle.mrp_book.specs.Faults.{reset_tests}
use Rattle.mrp_book.proofs.Turns.{item_in_turn, own_fault, booked, reset_kept}
use Rattle.mrp_book.proofs.book.Book.book_reset.Goals as goal

pub returns-in_err-check_reset : goal.returns-in_err-check_reset
returns-in_err-check_reset c =
    let p = err_from_is_err_and c.from_residual-in_err-check_reset.result c.from_residual-in_err-check_reset.ensures.1 in
    let t = item_in_turn _ c.args.self.now c.args.number c.args.item.0 c.in_ok-place.place c.index.result.now c.self.view_is c.in_ok-check_number.ensures
    c.in_ok-place.ensures c.index.ensures in
    rw (p.1, p.2) (own_fault t (reset_tests c.args.number c.args.closed) (Some c.in_err-check_reset.field-0.0) c.in_err-check_reset.ensures, refl)

pub invariant_of-self : goal.invariant_of-self
invariant_of-self c =
    let t = item_in_turn _ c.args.self.now c.args.number c.args.item.0 c.in_ok-place.place c.index.result.now c.self.view_is c.in_ok-check_number.ensures
    c.in_ok-place.ensures c.index.ensures in
    reset_kept t c.self.inside.places c.index_mut.result.now c.add_reset.new.self c.args.closed c.self.invariant c.index_mut.ensures.value c.add_reset.ensures
    c.in_ok-check_reset.ensures

pub returns : goal.returns
returns c =
    let t = item_in_turn _ c.args.self.now c.args.number c.args.item.0 c.in_ok-place.place c.index.result.now c.self.view_is c.in_ok-check_number.ensures
    c.in_ok-place.ensures c.index.ensures in (
      own_fault t (reset_tests c.args.number c.args.closed) None c.in_ok-check_reset.ensures,
      booked t c.index_mut.result.now c.add_reset.new.self figure_after_reset (Some c.args.item.0) c.index_mut.ensures.value c.add_reset.ensures,
    )
