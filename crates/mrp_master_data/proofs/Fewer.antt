-- Master data without bill rows, usage rows and demand rows are a table's.
use Rattle.std.proofs.Common.{◌≡◌, arith, true}
use Rattle.std.proofs.lemmas.List.Elements.{All-nil}
use Rattle.mrp_master_data.proofs.SpelledLists.{IsDistinct-nil}
use Rattle.mrp_master_data.specs.declared.rows.BillRow.{BillRow}
use Rattle.mrp_master_data.specs.declared.rows.UsageRow.{UsageRow}
use Rattle.mrp_master_data.specs.declared.rows.Supply.TheVariants as supply
use Rattle.mrp_master_data.specs.Dropping.{without_bills_and_demands}
use Rattle.mrp_master_data.specs.Table.{Table, IsTable, IsRead, IsBillRow, IsDemandRow, IsUsageRow, is_joined, is_same_bill, is_same_usage, plant_at, supply_at}

pub read_without : (N : Table) → IsRead N → IsRead (without_bills_and_demands N)
read_without N is =
    let M : Table = without_bills_and_demands N in
    record {
      calendar = is.calendar;
      limits = record {
        some_periods = is.limits.some_periods;
        periods = is.limits.periods;
        plants = is.limits.plants;
        items = is.limits.items;
        pairs = is.limits.pairs;
        sources = is.limits.sources;
        bills = omega arith;
        demands = omega arith;
        receipts = is.limits.receipts;
        ships = is.limits.ships;
        cums = is.limits.cums;
        resets = is.limits.resets;
        firms = is.limits.firms;
        policies = is.limits.policies;
        usages = omega arith;
        vendors = is.limits.vendors;
      };
      plants = is.plants;
      items = is.items;
      pairs = λ k d h. let r = is.pairs k d h in record {
        plant = r.plant;
        item = r.item;
        rule = r.rule;
        lead = r.lead;
        on_hand = r.on_hand;
        safety =
            r.safety;
      };
      sources = λ k d h. let r = is.sources k d h in record { pair = r.pair; plant = r.plant; rises = r.rises; ends = r.ends };
      bills = All-nil (IsBillRow M);
      demands = All-nil (IsDemandRow M);
      receipts = λ k d h. let r = is.receipts k d h in record { pair = r.pair; period = r.period; some = r.some; quantity = r.quantity };
      ships = λ k d h. let r = is.ships k d h in record { from = r.from; pair = r.pair; period = r.period; some = r.some; quantity = r.quantity };
      cums = λ k d h. let r = is.cums k d h in record { from = r.from; pair = r.pair; figure = r.figure };
      resets = λ k d h. let r = is.resets k d h in record { from = r.from; pair = r.pair; period = r.period };
      firms = λ k d h. let f = is.firms k d h in record { pair = f.pair; start = f.start; due = f.due; some = f.some; quantity = f.quantity };
      policies = λ k d h. let p = is.policies k d h in record {
        pair = p.pair;
        fence = p.fence;
        sooner = p.sooner;
        cover = p.cover;
        least = p.least;
        multiple = p.multiple;
      };
      usages = All-nil (IsUsageRow M);
      vendors = λ k d h. let v = is.vendors k d h in record { name = v.name; pair = v.pair; figure = v.figure; transit = v.transit; reset = v.reset };
    }

pub table_without : (N : Table) → IsTable N → IsTable (without_bills_and_demands N)
table_without N is =
    let M : Table = without_bills_and_demands N in
    let once = is.once in
    let sourced = is.sourced in
    record {
      read = read_without N is.read;
      source_pairs = is.source_pairs;
      once = record {
        plants = once.plants;
        items = once.items;
        pairs = once.pairs;
        sources = once.sources;
        bills = IsDistinct-nil is_same_bill;
        cums = once.cums;
        resets = once.resets;
        policies = once.policies;
        usages = IsDistinct-nil is_same_usage;
        vendors = once.vendors;
      };
      sourced = record {
        items = sourced.items;
        order = sourced.order;
        few = sourced.few;
        supplies = sourced.supplies;
        others = sourced.others;
        parents = All-nil (λ (b : BillRow). supply_at M b.parent.0 ≡ supply.Make);
        plants = All-nil (λ (b : BillRow). plant_at M b.parent.0 ≡ plant_at M b.component.0);
        ships = sourced.ships;
        cums = sourced.cums;
        resets = sourced.resets;
        usages = All-nil (λ (u : UsageRow). is_joined M u.parent.0 u.component.0 ≡ true);
        vendors = sourced.vendors;
        named = sourced.named;
        arrive = sourced.arrive;
      };
    }
