use Rattle.std.proofs.Common.{◌≡◌, ◌+◌, subst, sym, refl, arith, rules}
use Rattle.mrp_master_data.specs.Growing.{with_calendar}
use Rattle.mrp_master_data.specs.Table.{Table}
use Rattle.mrp_master_data.specs.Turns.{row_count}
use Rattle.mrp_tables.specs.Keys.{Knows}
use Rattle.mrp_tables.specs.Lists.{FitsRows}
use Rattle.mrp_tables.proofs.DayFacts.{one_begun}
use Rattle.mrp_tables.proofs.draft.Draft.add_day.Goals as goal

pub returns-in-Ok-clause-adds : goal.returns-in-Ok-clause-adds
returns-in-Ok-clause-adds c =
    let self = c.args.self.now in
    let N = self.lists in
    let old = c.requires.draft.holds in
    let calendar = c.begin.new.self.calendar in
    let made = sym c.in-Ok.ensures.table in
    let fits : FitsRows (with_calendar N calendar) self.lane_keys.keys self.arrivals.items = record {
      lane_keys = old.fits.lane_keys;
      apart = old.fits.apart;
      each = old.fits.each;
      lanes = old.fits.lanes;
      sources = old.fits.sources;
      items = old.fits.items;
    } in
    let one = one_begun N.calendar c.in_ok-period.period _ calendar c.in-Ok.ensures.begun in
    let count : row_count (with_calendar N calendar) ≡ row_count N + 1 = omega (arith, one) in
    record {
      holds = record {
        rows = c.in-Ok.ensures.rows;
        knows = subst (λ (M : Table). Knows M self.known) made old.knows;
        bill_keys = search rules;
        cum_keys = search rules;
        reset_keys = search rules;
        policy_keys = search rules;
        usage_keys = search rules;
        vendor_keys = search rules;
        resets = old.resets;
        fits = subst (λ (M : Table). FitsRows M self.lane_keys.keys self.arrivals.items) made fits;
      };
      counted = refl;
      count = subst (λ (M : Table). row_count M ≡ row_count N + 1) made count;
    }
