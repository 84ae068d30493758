use Rattle.std.proofs.Common.{◌-◌, codes}
use Rattle.mrp_report.proofs.SupplyFacts.{Written}
use Rattle.mrp_report.proofs.supply.put_sources.Given as goal

-- the sources whose shares end at `low` and before it are there
abbrev pub invariant-sources : goal.invariant-sources
invariant-sources l = Written l.network l.fn.x.0 l.low (codes "from") l.text.items

abbrev pub decreases-sources : goal.decreases-sources
decreases-sources l = 1001 - l.low
