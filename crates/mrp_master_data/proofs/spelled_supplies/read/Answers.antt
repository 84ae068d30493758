use Rattle.std.proofs.Common.{sym, ap, ◌∙◌, rules}
use Rattle.mrp_master_data.specs.Spelled.{cut_view}
use Rattle.mrp_master_data.specs.SupplyParsing.{supply_of}
use Rattle.mrp_master_data.proofs.Written.{begins_from}
use Rattle.mrp_master_data.proofs.spelled_supplies.read.Goals as goal

pub returns-in_err-sources-in-Some-clause-memory : goal.returns-in_err-sources-in-Some-clause-memory
returns-in_err-sources-in-Some-clause-memory c =
    λ _. begins_from c.args.text.now c.in-Some.word.now c.in-Some.plants.now (sym c.cut.ensures ∙ ap cut_view c.in-Some.is) (sym c.eq-in-Some.ensures
    ∙ c.if-eq-3.true)

pub returns-then-eq-clause-exact : goal.returns-then-eq-clause-exact
unfolding supply_of
returns-then-eq-clause-exact c = search rules

pub returns-else-eq-2-clause-exact : goal.returns-else-eq-2-clause-exact
unfolding supply_of
returns-else-eq-2-clause-exact c = search rules
