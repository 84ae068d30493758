use Rattle.std.proofs.Common.{◌≡◌, ◌∙◌, ◌++◌, ◌-◌, ℕ, List, ap, sym}
use Rattle.std.proofs.lemmas.List.{append-nil}
use Rattle.std.proofs.lemmas.Result.{on_ok_weaker}
use Rattle.mrp_csv_out.specs.Writing.{written}
use Rattle.mrp_shortages.specs.declared.shortage.Shortage.{Shortage}
use Rattle.mrp_shortages.specs.ShortageLines.{line_row}
use Rattle.mrp_shortages.proofs.LineFacts.{its_row, no_row}
use Rattle.mrp_shortages.proofs.shortage_report.put_next.Goals as goal

pub put_shortage-requires-clause-pair : goal.put_shortage-requires-clause-pair
put_shortage-requires-clause-pair c = rw (c.take-shortage.ensures.lack) c.requires.pair

pub returns-then-shortage-eq0-clause-row : goal.returns-then-shortage-eq0-clause-row
returns-then-shortage-eq0-clause-row c =
    let line = c.args.line.now in
    let left = c.args.left.now in
    let term = c.args.term in
    let none : term.quantity - left ≡ 0 = sym (ap (λ (s : Shortage). s.short) c.take-shortage.ensures.lack) ∙ c.if-shortage-eq0.true in
    sym (ap (λ (t : List ℕ). written c.args.rows.now ++ t) (sym (no_row line left term none)) ∙ append-nil (written c.args.rows.now))

pub returns-clause-row : goal.returns-clause-row
returns-clause-row c =
    let line = c.args.line.now in
    let left = c.args.left.now in
    let term = c.args.term in
    let some = λ (e : term.quantity - left ≡ 0). c.if-shortage-eq0.false (ap (λ (s : Shortage). s.short) c.take-shortage.ensures.lack ∙ e) in
    on_ok_weaker c.put_shortage.result
    (λ e. e
    ∙ ap (λ (s : Shortage). written c.args.rows.now ++ line_row line s) c.take-shortage.ensures.lack
    ∙ ap (λ (t : List ℕ). written c.args.rows.now ++ t) (its_row line left term some))
    c.put_shortage.ensures.row
