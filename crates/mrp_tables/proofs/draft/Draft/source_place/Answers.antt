use Rattle.std.proofs.Common.{◌∙◌, sym}
use Rattle.mrp_tables.proofs.Keys.{key_is, place_of_source}
use Rattle.mrp_tables.proofs.draft.Draft.source_place.Goals as goal

pub returns-clause-exact : goal.returns-clause-exact
returns-clause-exact c =
    let key = c.in_ok-key.key in
    let named = key_is c.args.from c.args.pair key (sym c.lane_key.ensures ∙ c.in_ok-key.was) in
    rw (named.0, named.1) (c.get_index_of.ensures.index ∙ place_of_source key.from key.pair _ _ c.requires.draft.holds.fits.lane_keys)
