use Rattle.std.proofs.Common.{◌≡◌, ◌+◌, ◌<◌, ◌∷◌, ◌++◌, [], List, if◌then◌else◌, length, map, ◌∙◌, ap, subst, sym, not, true≢false, refl, arith, rules}
use Rattle.std.specs.List.{IsDistinct}
use Rattle.std.proofs.lemmas.List.{length-map, length_push, map-append}
use Rattle.mrp_tables.specs.Keys.{Knows}
use Rattle.mrp_tables.specs.declared.draft.LaneKey.{LaneKey}
use Rattle.mrp_master_data.specs.declared.rows.SourceRow.{SourceRow}
use Rattle.mrp_tables.specs.Lists.{AreLanes, FitsRows, is_same_lane, reset_key_of}
use Rattle.mrp_master_data.specs.Turns.{row_count}
use Rattle.mrp_master_data.specs.Growing.{with_reset}
use Rattle.mrp_master_data.specs.Table.{Table}
use Rattle.mrp_tables.proofs.Arrivals.{found_lane, lanes_push, resets_room}
use Rattle.mrp_tables.proofs.Keys.{any_reset}
use Rattle.mrp_tables.proofs.draft.Draft.add_reset.Goals as goal

pub unreachable-requires : goal.unreachable-requires
unreachable-requires c =
    let k = c.in_ok-reset.reset in
    let fresh = any_reset k.from k.pair _ _ c.requires.draft.holds.reset_keys ∙ c.in_ok-reset.ensures.fresh in
    absurd (true≢false (ap not (sym fresh) ∙ sym c.in_ok-insert.ensures.added ∙ c.if-not-branch.true))

pub add_reset-requires-clause-room : goal.add_reset-requires-clause-room
add_reset-requires-clause-room c =
    let self = c.args.self.now in
    let r = c.in_ok-reset.reset in
    let k = reset_key_of r in
    let d : SourceRow = record { pair = r.pair; plant = r.from; low = 0; high = 0 } in
    let old = c.requires.draft.holds in
    let fresh = any_reset r.from r.pair _ _ old.reset_keys ∙ c.in_ok-reset.ensures.fresh in
    let keys = c.in_ok-insert.ensures.keys ∙ ap (λ b. if b then self.reset_keys.keys else self.reset_keys.keys ++ k ∷ []) fresh in
    let here = found_lane r.from r.pair self.lane_keys.keys self.lists.sources _ d old.fits.lane_keys refl c.in_ok-reset.ensures.source in
    let few : length self.reset_keys.keys < length self.lane_keys.keys =
    resets_room self.lane_keys.keys self.reset_keys.keys k (subst (IsDistinct is_same_lane) keys c.insert.ensures.unique) old.resets here in
    let n1 = ap length old.reset_keys ∙ length-map self.lists.resets reset_key_of in
    let n2 = ap length old.fits.lane_keys ∙ length-map self.lists.sources _ in
    omega (arith, few, n1, n2, old.rows.limits.sources)

pub returns-clause-adds : goal.returns-clause-adds
returns-clause-adds c =
    let self = c.args.self.now in
    let r = c.in_ok-reset.reset in
    let k = reset_key_of r in
    let d : SourceRow = record { pair = r.pair; plant = r.from; low = 0; high = 0 } in
    let old = c.requires.draft.holds in
    let N = self.lists in
    let fresh = any_reset r.from r.pair _ _ old.reset_keys ∙ c.in_ok-reset.ensures.fresh in
    let keys = c.in_ok-insert.ensures.keys ∙ ap (λ b. if b then self.reset_keys.keys else self.reset_keys.keys ++ k ∷ []) fresh in
    let here = found_lane r.from r.pair self.lane_keys.keys self.lists.sources _ d old.fits.lane_keys refl c.in_ok-reset.ensures.source in
    let made = sym c.in_ok-add_reset.ensures.table in
    let fits : FitsRows (with_reset N r) self.lane_keys.keys self.arrivals.items =
    record {
      lane_keys = old.fits.lane_keys;
      apart = old.fits.apart;
      each = old.fits.each;
      lanes = old.fits.lanes;
      sources = old.fits.sources;
      items =
          old.fits.items;
    } in
    let count : row_count (with_reset N r) ≡ row_count N + 1 = omega (arith, length_push N.resets r) in
    let named : self.reset_keys.keys ++ k ∷ [] ≡ map reset_key_of (N.resets ++ r ∷ []) =
    ap (λ (ks : List LaneKey). ks ++ k ∷ []) old.reset_keys ∙ sym (map-append reset_key_of N.resets (r ∷ [])) in
    record {
      holds = record {
        rows = search rules;
        knows = subst (λ (M : Table). Knows M self.known) made old.knows;
        bill_keys = search rules;
        cum_keys = search rules;
        reset_keys = keys ∙ named ∙ ap (λ (M : Table). map reset_key_of M.resets) made;
        policy_keys = search rules;
        usage_keys = search rules;
        vendor_keys = search rules;
        resets = subst (AreLanes self.lane_keys.keys) (sym keys) (lanes_push self.lane_keys.keys self.reset_keys.keys k old.resets here);
        fits = subst (λ (M : Table). FitsRows M self.lane_keys.keys self.arrivals.items) made fits;
      };
      counted = refl;
      count = subst (λ (M : Table). row_count M ≡ row_count N + 1) made count;
    }
