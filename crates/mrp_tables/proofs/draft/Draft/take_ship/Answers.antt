use Rattle.std.proofs.Common.{◌≡◌, ◌+◌, set, sym, ◌∙◌, subst, refl, arith, rules}
use Rattle.std.proofs.lemmas.List.{length-set, length_push}
use Rattle.mrp_tables.specs.Keys.{Knows}
use Rattle.mrp_tables.specs.declared.draft.Arrivals.{Arrivals}
use Rattle.mrp_master_data.specs.declared.rows.SourceRow.{SourceRow}
use Rattle.mrp_tables.specs.Lists.{after_ship, FitsRows}
use Rattle.mrp_master_data.specs.Turns.{row_count}
use Rattle.mrp_master_data.specs.Growing.{with_ship}
use Rattle.mrp_master_data.specs.Table.{Table}
use Rattle.mrp_tables.proofs.Arrivals.{states_ship}
use Rattle.mrp_tables.proofs.draft.Draft.take_ship.Goals as goal

pub returns-clause-adds : goal.returns-clause-adds
returns-clause-adds c =
    let self = c.args.self.now in
    let N = self.lists in
    let x = c.args.ship in
    let k = c.args.place in
    let old = c.requires.draft.holds in
    let d : SourceRow = record { pair = x.pair; plant = x.from; low = 0; high = 0 } in
    let l : Arrivals = c.index_mut.result.now in
    let each = states_ship N.ships x self.lane_keys.keys N.sources self.arrivals.items k d l old.fits.lane_keys old.fits.apart old.fits.each
    c.requires.place c.index_mut.ensures.value in
    let v = after_ship l x.period in
    let fits : FitsRows (with_ship N x) self.lane_keys.keys (set self.arrivals.items k v) = record {
      lane_keys = old.fits.lane_keys;
      apart = old.fits.apart;
      each = each;
      lanes = length-set self.arrivals.items k v ∙ old.fits.lanes;
      sources = old.fits.sources;
      items = old.fits.items;
    } in
    let made = sym c.in_ok-add_ship.ensures.table in
    let count : row_count (with_ship N x) ≡ row_count N + 1 = omega (arith, length_push N.ships x) in
    record {
      holds = record {
        rows = search rules;
        knows = subst (λ (M : Table). Knows M self.known) made old.knows;
        bill_keys = search rules;
        cum_keys = search rules;
        reset_keys = search rules;
        policy_keys = search rules;
        usage_keys = search rules;
        vendor_keys = search rules;
        resets = old.resets;
        fits = subst (λ (m : Arrivals). FitsRows c.add_ship.new.self self.lane_keys.keys (set self.arrivals.items k m)) (sym c.ship.ensures)
            (subst (λ (M : Table). FitsRows M self.lane_keys.keys (set self.arrivals.items k v)) made fits);
      };
      counted = refl;
      count = subst (λ (M : Table). row_count M ≡ row_count N + 1) made count;
    }
