use Rattle.std.proofs.Common.{rules}
use Rattle.csv.specs.Records.{fields_of}
use Rattle.mrp_tables.specs.Spelled.{terms_of_bill}
use Rattle.mrp_tables.proofs.BillFacts.{fits_alone}
use Rattle.mrp_tables.proofs.draft.Draft.bill_fits.Goals as goal

pub returns-then-not-has_plant_of-clause-exact : goal.returns-then-not-has_plant_of-clause-exact
returns-then-not-has_plant_of-clause-exact c =
    rw (fits_alone c.args.self.now.lists (terms_of_bill (fields_of c.args.row.now) c.args.named.per)) (search rules)

pub returns-in_err-parent-clause-exact : goal.returns-in_err-parent-clause-exact
returns-in_err-parent-clause-exact c =
    rw (fits_alone c.args.self.now.lists (terms_of_bill (fields_of c.args.row.now) c.args.named.per)) (search rules)

pub returns-in_err-component-clause-exact : goal.returns-in_err-component-clause-exact
returns-in_err-component-clause-exact c =
    rw (fits_alone c.args.self.now.lists (terms_of_bill (fields_of c.args.row.now) c.args.named.per)) (search rules)

pub returns-then-not-is_made-clause-exact : goal.returns-then-not-is_made-clause-exact
returns-then-not-is_made-clause-exact c =
    rw (fits_alone c.args.self.now.lists (terms_of_bill (fields_of c.args.row.now) c.args.named.per)) (search rules)

pub returns-clause-exact : goal.returns-clause-exact
returns-clause-exact c = rw (fits_alone c.args.self.now.lists (terms_of_bill (fields_of c.args.row.now) c.args.named.per)) (search rules)
