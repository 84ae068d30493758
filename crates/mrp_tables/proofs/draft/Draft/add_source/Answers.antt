use Rattle.std.proofs.Common.{◌≡◌, ◌∷◌, ◌++◌, [], List, ℕ, Option, if◌then◌else◌, unwrap_or, length, ◌∙◌, ap, subst, sym, not, false, true≢false, refl}
use Rattle.std.proofs.lemmas.List.{length_push}
use Rattle.mrp_tables.specs.Keys.{Knows}
use Rattle.mrp_tables.specs.declared.draft.LaneKey.{LaneKey}
use Rattle.mrp_master_data.specs.declared.numbers.PlantNo.{PlantNo}
use Rattle.mrp_master_data.specs.declared.rows.SourceRow.{SourceRow}
use Rattle.mrp_tables.specs.Lists.{AreLanes, lane_of}
use Rattle.mrp_master_data.specs.Turns.{row_count}
use Rattle.mrp_master_data.specs.Table.{is_taken_from, Table}
use Rattle.mrp_tables.proofs.Arrivals.{lanes_more, source_fit}
use Rattle.mrp_tables.proofs.Keys.{any_source}
use Rattle.mrp_tables.proofs.NewPair.{place_known}
use Rattle.mrp_tables.proofs.draft.Draft.add_source.Goals as goal

pub unreachable-requires : goal.unreachable-requires
unreachable-requires c = place_known c.args.source.now.plant.now c.args.self.now.lists.plants c.requires.known (sym c.in_default.ensures.place)

pub unreachable-requires-then-not-branch : goal.unreachable-requires-then-not-branch
unreachable-requires-then-not-branch c =
    let N = c.args.self.now.lists in
    let place = ap (λ (o : Option ℕ). unwrap_or o 0) c.in-Some.ensures.place in
    let other = subst (λ k. is_taken_from N c.args.pair.0 k ≡ false) (sym place) c.requires.fresh in
    let from : PlantNo = c.in-Some.from in
    let fresh = any_source from c.args.pair _ _ c.requires.fits.lane_keys ∙ other in
    absurd (true≢false (ap not (sym fresh) ∙ sym c.in_ok-insert.ensures.added ∙ c.if-not-branch.true))

pub returns-clause-adds : goal.returns-clause-adds
returns-clause-adds c =
    let self = c.args.self.now in
    let N = self.lists in
    let place = ap (λ (o : Option ℕ). unwrap_or o 0) c.in-Some.ensures.place in
    let other = subst (λ k. is_taken_from N c.args.pair.0 k ≡ false) (sym place) c.requires.fresh in
    let from : PlantNo = c.in-Some.from in
    let s : SourceRow = record { pair = c.args.pair; plant = from; low = c.args.source.now.low; high = c.args.source.now.high } in
    let fresh = any_source from c.args.pair _ _ c.requires.fits.lane_keys ∙ other in
    let keys = c.in_ok-insert.ensures.keys ∙ ap (λ b. if b then self.lane_keys.keys else self.lane_keys.keys ++ lane_of s ∷ []) fresh in
    let table = c.in_ok-add_source.ensures.table in
    let fits = source_fit N c.add_source.new.self s self.lane_keys.keys c.insert.new.self.keys self.arrivals.items c.push.new.self.items table keys
    c.insert.ensures.unique c.in_ok-push.ensures.items c.requires.fits c.requires.ships c.requires.room in
    record {
      rows = c.in_ok-add_source.ensures.rows;
      knows = subst (λ (M : Table). Knows M self.known) (sym table) c.requires.knows;
      fits = fits;
      same = (ap row_count table, refl);
      bills = (refl, ap (λ (T : Table). T.bills) table);
      cums = (refl, ap (λ (T : Table). T.cums) table);
      resets = (refl, ap (λ (T : Table). T.resets) table);
      policies = (refl, ap (λ (T : Table). T.policies) table);
      usages = (refl, ap (λ (T : Table). T.usages) table);
      vendors = (refl, ap (λ (T : Table). T.vendors) table);
      lanes = λ h. subst (λ (ks : List LaneKey). AreLanes ks self.reset_keys.keys) (sym keys)
          (lanes_more self.lane_keys.keys self.reset_keys.keys (lane_of s) h);
      pairs = ap (λ (T : Table). length T.pairs) table;
      sources = ap (λ (T : Table). length T.sources) table ∙ length_push N.sources s;
    }
