use Rattle.std.proofs.Common.{List, ℕ, ap, ◌∙◌}
use Rattle.mrp_netting.specs.PlanningData.{planned}
use Rattle.mrp_net.specs.declared.terms.PlanningTerms.{PlanningTerms}
use Rattle.mrp_net.proofs.firm_rows.FirmRows.planning_data.Goals as goal

pub returns : goal.returns
returns c = λ gross.
    let given : PlanningTerms = c.args.terms.now in
    let pieces = c.args.self.now in
    c.data_with.ensures gross
    ∙ ap (λ (row : List ℕ). planned (record {
      params = given.params;
      policy = given.policy;
      receipts = given.receipts.now;
      firm_start = row;
      firm_due = c.row_if-due.result.now;
    }) c.args.incoming.now gross) (c.row_if-start.ensures ∙ ap (λ z. z.start) c.self.view_is)
    ∙ ap (λ (row : List ℕ). planned (record {
      params = given.params;
      policy = given.policy;
      receipts = given.receipts.now;
      firm_start = pieces.start;
      firm_due = row;
    }) c.args.incoming.now gross) (c.row_if-due.ensures ∙ ap (λ z. z.due) c.self.view_is)
