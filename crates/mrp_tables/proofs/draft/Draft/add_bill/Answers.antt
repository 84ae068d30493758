use Rattle.std.proofs.Common.{true, false, sym}
use Rattle.csv.specs.Records.{fields_of}
use Rattle.mrp_tables.specs.Spelled.{terms_of_bill}
use Rattle.mrp_tables.proofs.BillFacts.{has_found, row_refused, row_repeated, row_says}
use Rattle.mrp_tables.proofs.Starting.{told}
use Rattle.mrp_tables.proofs.draft.Draft.add_bill.Goals as goal

pub returns-in-Ok-clause-exact : goal.returns-in-Ok-clause-exact
returns-in-Ok-clause-exact c =
    let row = fields_of c.args.row.now in
    let terms = terms_of_bill row c.in_ok-named.named.per in
    rw (row_says c.args.self.now.lists row terms (sym c.in_ok-named.ensures.exact) c.in-Ok.bill (sym c.in-Ok.ensures.exact))
    c.take_bill.ensures.exact

pub returns-then-has_bill-clause-exact : goal.returns-then-has_bill-clause-exact
returns-then-has_bill-clause-exact c =
    let N = c.args.self.now.lists in
    let row = fields_of c.args.row.now in
    let named = c.in_ok-named.named in
    row_repeated N row (terms_of_bill row named.per) (sym c.in_ok-named.ensures.exact)
    (has_found N row named.parent named.component named.per true c.in_ok-named.ensures.found (sym c.if-has_bill.ensures.exact))

pub returns-else-has_bill-clause-exact : goal.returns-else-has_bill-clause-exact
returns-else-has_bill-clause-exact c =
    let N = c.args.self.now.lists in
    let row = fields_of c.args.row.now in
    let named = c.in_ok-named.named in
    told c.in-Err.fault _ (row_refused N row (terms_of_bill row named.per) (sym c.in_ok-named.ensures.exact) c.in-Err.fault
    (has_found N row named.parent named.component named.per false c.in_ok-named.ensures.found (sym c.if-has_bill.ensures.exact)) (sym c.in-Err.ensures.exact))
