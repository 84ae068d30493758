use Rattle.std.proofs.Common.{List, subst, ap, ◌∙◌}
use Rattle.std.specs.Prelude.{IfOk}
use Rattle.mrp_master_data.specs.declared.rows.DemandRow.{DemandRow}
use Rattle.mrp_grouping.specs.Added.{sum_in}
use Rattle.mrp_net.specs.Built.{ArePeriods}
use Rattle.mrp_net.proofs.Summing.{demand_within}
use Rattle.mrp_net.proofs.build.demand_by_period.Goals as goal

pub sums_of-requires-clause-within : goal.sums_of-requires-clause-within
sums_of-requires-clause-within c =
    let demands_are = c.demands-demands.ensures.value ∙ ap (λ z. z.demands) c.rows.ensures.value in
    rw demands_are (demand_within c.args.tables.now c.rows.ensures.table)

pub returns : goal.returns
returns c =
    let demands_are = c.demands-demands.ensures.value ∙ ap (λ z. z.demands) c.rows.ensures.value in
    subst (λ (z : List DemandRow). IfOk c.sums_of.result (λ v. ArePeriods c.args.tables.now
    (λ x t. sum_in (λ r. r.pair.0) (λ r. r.period) (λ r. r.quantity) x t z) v.items)) demands_are c.sums_of.ensures
