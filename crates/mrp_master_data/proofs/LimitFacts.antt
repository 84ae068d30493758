-- Master data: what is within the limits of a table is within those of any table.
use Rattle.std.proofs.Common.{◌≡◌, ◌*◌, ◌≤◌, ◌<◌, ◌^◌, length, arith}
use Rattle.mrp_lot.specs.Lot.{IsRule, IsRuleWithin}
use Rattle.mrp_lot.specs.declared.rule.Rule.{Rule}
use Rattle.mrp_lot.specs.declared.rule.Rule.TheVariants.{LotForLot, Fixed, Periods, MinMultiple}
use Rattle.mrp_lot.specs.declared.rule.TheConstants.{LONGEST_LEAD}
use Rattle.mrp_master_data.specs.Table.{horizon, IsLimited, IsPairRow, IsPolicyRow, Table}
use Rattle.mrp_master_data.specs.declared.rows.PairRow.{PairRow}
use Rattle.mrp_master_data.specs.declared.rows.PolicyRow.{PolicyRow}
use Rattle.mrp_qty.specs.Limits.{limits_of}
use Rattle.mrp_qty.specs.declared.horizon.TheConstants.{LONGEST}
use Rattle.mrp_qty.specs.declared.limits.LimitSet.{LimitSet}
use Rattle.mrp_qty.specs.declared.limits.LimitSet.TheVariants as set
use Rattle.mrp_qty.specs.declared.limits.Limits.{Limits}
use Rattle.mrp_qty.specs.declared.limits.TheConstants.{MOST_BILLS, MOST_DEMANDS, MOST_OF_A_KIND, MOST_PAIRS, MOST_PLANTS, MOST_SOURCES, MOST_SOURCES_OF_PAIR}

-- limits that no table may pass
pub record IsWithinLarge (l : Limits) : Type 0 where
  pub plants : l.plants ≤ MOST_PLANTS
  pub pairs : l.pairs ≤ MOST_PAIRS
  pub sources : l.sources ≤ MOST_SOURCES
  pub bills : l.bills ≤ MOST_BILLS
  pub demands : l.demands ≤ MOST_DEMANDS
  pub of_a_kind : l.of_a_kind ≤ MOST_OF_A_KIND
  pub periods : l.periods ≤ LONGEST
  pub lead : l.lead ≤ LONGEST_LEAD

pub limits_within : (s : LimitSet) → IsWithinLarge (limits_of s)
limits_within set.Usual = record {
  plants = omega arith;
  pairs = omega arith;
  sources = omega arith;
  bills = omega arith;
  demands = omega arith;
  of_a_kind = omega arith;
  periods = omega arith;
  lead = omega arith;
}
limits_within set.Large = record {
  plants = omega arith;
  pairs = omega arith;
  sources = omega arith;
  bills = omega arith;
  demands = omega arith;
  of_a_kind = omega arith;
  periods = omega arith;
  lead = omega arith;
}

-- each pair has room for its sources
pub sources_are : (s : LimitSet) → (limits_of s).sources ≡ MOST_SOURCES_OF_PAIR * (limits_of s).pairs
sources_are set.Usual = omega arith
sources_are set.Large = omega arith

pub periods_short : (s : LimitSet) → (limits_of s).periods < 10 ^ 16
periods_short s = omega (arith, (limits_within s).periods)

-- a rule within the limits of a table is one
pub rule_within : (s : LimitSet) (r : Rule) → IsRuleWithin (limits_of s).periods r → IsRule r
rule_within s LotForLot is = is
rule_within s (Fixed q) is = is
rule_within s (Periods k) is = (is.0, omega (arith, is.1, (limits_within s).periods))
rule_within s (MinMultiple m k) is = is

-- the table has a period, and no more periods, names and rows of each kind than any table may have
pub record IsAnyLimited (N : Table) : Type 0 where
  pub some_periods : 1 ≤ horizon N
  pub periods : horizon N ≤ LONGEST
  pub plants : length N.plants ≤ MOST_PLANTS
  pub items : length N.items ≤ MOST_PAIRS
  pub pairs : length N.pairs ≤ MOST_PAIRS
  pub sources : length N.sources ≤ MOST_SOURCES
  pub bills : length N.bills ≤ MOST_BILLS
  pub demands : length N.demands ≤ MOST_DEMANDS
  pub receipts : length N.receipts ≤ MOST_OF_A_KIND
  pub ships : length N.ships ≤ MOST_OF_A_KIND
  pub cums : length N.cums ≤ MOST_OF_A_KIND
  pub resets : length N.resets ≤ MOST_SOURCES
  pub firms : length N.firms ≤ MOST_OF_A_KIND
  pub policies : length N.policies ≤ MOST_PAIRS
  pub usages : length N.usages ≤ MOST_BILLS
  pub vendors : length N.vendors ≤ MOST_PAIRS

pub any_limited : (N : Table) → IsLimited N → IsAnyLimited N
any_limited N is =
    let within = limits_within N.limits in
    record {
      some_periods = is.some_periods;
      periods = omega (arith, is.periods, within.periods);
      plants = omega (arith, is.plants, within.plants);
      items = omega (arith, is.items, within.pairs);
      pairs = omega (arith, is.pairs, within.pairs);
      sources = omega (arith, is.sources, within.sources);
      bills = omega (arith, is.bills, within.bills);
      demands = omega (arith, is.demands, within.demands);
      receipts = omega (arith, is.receipts, within.of_a_kind);
      ships = omega (arith, is.ships, within.of_a_kind);
      cums = omega (arith, is.cums, within.of_a_kind);
      resets = omega (arith, is.resets, within.sources);
      firms = omega (arith, is.firms, within.of_a_kind);
      policies = omega (arith, is.policies, within.pairs);
      usages = omega (arith, is.usages, within.bills);
      vendors = omega (arith, is.vendors, within.pairs);
    }

pub rule_of_pair : (N : Table) (p : PairRow) → IsPairRow N p → IsRule p.rule
rule_of_pair N p is = rule_within N.limits p.rule is.rule

pub lead_of_pair : (N : Table) (p : PairRow) → IsPairRow N p → p.lead ≤ LONGEST_LEAD
lead_of_pair N p is = omega (arith, is.lead, (limits_within N.limits).lead)

pub sooner_of_policy : (N : Table) (p : PolicyRow) → IsPolicyRow N p → p.policy.sooner ≤ LONGEST_LEAD
sooner_of_policy N p is = omega (arith, is.sooner, (limits_within N.limits).lead)

pub cover_of_policy : (N : Table) (p : PolicyRow) → IsPolicyRow N p → p.policy.cover ≤ LONGEST_LEAD
cover_of_policy N p is = omega (arith, is.cover, (limits_within N.limits).lead)
