use Rattle.std.proofs.Common.{sym, ◌∙◌}
use Rattle.csv.specs.Records.{fields_of}
use Rattle.mrp_tables.proofs.BulkFacts.{is_kind}
use Rattle.mrp_tables.proofs.draft.Draft.bulk_of.Goals as goal

pub returns-in_ok-demand_of-in-Demand-clause-says : goal.returns-in_ok-demand_of-in-Demand-clause-says
returns-in_ok-demand_of-in-Demand-clause-says c = (
  is_kind (fields_of c.args.row.now) _ _ c.requires.text (sym c.row_kind.ensures ∙ c.in_ok-row_kind.was) c.in-Demand.is,
  sym c.in_ok-demand_of-in-Demand.ensures.exact,
)

pub returns-in_ok-receipt_of-in-Receipt-clause-says : goal.returns-in_ok-receipt_of-in-Receipt-clause-says
returns-in_ok-receipt_of-in-Receipt-clause-says c = (
  is_kind (fields_of c.args.row.now) _ _ c.requires.text (sym c.row_kind.ensures ∙ c.in_ok-row_kind.was) c.in-Receipt.is,
  sym c.in_ok-receipt_of-in-Receipt.ensures.exact,
)

pub returns-in_ok-ship-in-Ship-clause-says : goal.returns-in_ok-ship-in-Ship-clause-says
returns-in_ok-ship-in-Ship-clause-says c = (
  is_kind (fields_of c.args.row.now) _ _ c.requires.text (sym c.row_kind.ensures ∙ c.in_ok-row_kind.was) c.in-Ship.is,
  sym c.in_ok-ship-in-Ship.ensures.exact,
)

pub returns-in_ok-bill_of-in-Bill-clause-says : goal.returns-in_ok-bill_of-in-Bill-clause-says
returns-in_ok-bill_of-in-Bill-clause-says c = (
  is_kind (fields_of c.args.row.now) _ _ c.requires.text (sym c.row_kind.ensures ∙ c.in_ok-row_kind.was) c.in-Bill.is,
  sym c.in_ok-bill_of-in-Bill.ensures.exact,
)
