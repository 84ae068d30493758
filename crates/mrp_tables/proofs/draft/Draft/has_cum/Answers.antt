use Rattle.std.proofs.Common.{◌∙◌, sym}
use Rattle.mrp_tables.proofs.Keys.{any_cum, key_is, no_cum}
use Rattle.mrp_tables.proofs.draft.Draft.has_cum.Goals as goal

pub returns-in-Some : goal.returns-in-Some
returns-in-Some c =
    let key = c.in-Some.key in
    let named = key_is c.args.named.from c.args.named.pair key (sym c.lane_key.ensures ∙ c.in-Some.is) in record {
      exact = rw (named.0, named.1) (c.contains.ensures ∙ any_cum key.from key.pair _ _ c.requires.draft.holds.cum_keys);
    }

pub returns-in-None : goal.returns-in-None
returns-in-None c = record {
  exact = sym (no_cum c.args.self.now.lists c.args.named.from c.args.named.pair (sym c.lane_key.ensures ∙ c.in-None.is));
}
