use Rattle.std.proofs.Common.{sym, subst}
use Rattle.csv.specs.Records.{fields_of}
use Rattle.mrp_validation.specs.declared.kind.Kind.{Kind}
use Rattle.mrp_validation.specs.Reading.{IsReadSoFar}
use Rattle.mrp_validation.proofs.Whole.{first_keeps}
use Rattle.mrp_tables.proofs.reading.first_draft.Goals as goal

pub returns-in-Ok-clause-kept : goal.returns-in-Ok-clause-kept
returns-in-Ok-clause-kept c =
    let tells = c.in-Ok.ensures.exact in
    subst (λ (k : Kind). IsReadSoFar c.in-Ok.draft.lists k) (sym tells.1) (first_keeps c.args.limits c.in-Ok.draft.lists (fields_of c.args.row.now) tells.0)
