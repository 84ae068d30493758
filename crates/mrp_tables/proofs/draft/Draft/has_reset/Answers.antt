use Rattle.std.proofs.Common.{◌∙◌, sym}
use Rattle.mrp_tables.proofs.Keys.{any_reset, key_is, no_reset}
use Rattle.mrp_tables.proofs.draft.Draft.has_reset.Goals as goal

pub returns-in-Some : goal.returns-in-Some
returns-in-Some c =
    let key = c.in-Some.key in
    let named = key_is c.args.named.from c.args.named.pair key (sym c.lane_key.ensures ∙ c.in-Some.is) in record {
      exact = rw (named.0, named.1) (c.contains.ensures ∙ any_reset key.from key.pair _ _ c.requires.draft.holds.reset_keys);
    }

pub returns-in-None : goal.returns-in-None
returns-in-None c = record {
  exact = sym (no_reset c.args.self.now.lists c.args.named.from c.args.named.pair (sym c.lane_key.ensures ∙ c.in-None.is));
}
