use Rattle.std.proofs.Common.{◌∙◌, refl, sym, rules}
use Rattle.std.proofs.lemmas.Iterator.{YieldsList-from_slice}
use Rattle.std.proofs.lemmas.Iterator.Search.{position_from_yields_List}
use Rattle.std.specs.Str.{bytes_eq}
use Rattle.std.specs.String.{string_bytes}
use Rattle.mrp_master_data.proofs.Keys.{position_keys}
use Rattle.mrp_master_data.proofs.Naming.{place_within}
use Rattle.mrp_master_data.proofs.names.place_of_name.Goals as goal

pub returns-clause-place : goal.returns-clause-place
returns-clause-place c =
    let name = c.args.name.now in
    position_from_yields_List (λ text. bytes_eq name (string_bytes text)) _ _ _ c.position.ensures.ran (YieldsList-from_slice _ c.iter.ensures.rest)
    (λ x b q k. search rules)
    ∙ sym (position_keys string_bytes (bytes_eq name) (λ text. bytes_eq name (string_bytes text)) (λ text. refl) c.args.names.now)

pub returns-clause-within : goal.returns-clause-within
returns-clause-within c = place_within c.args.name.now _ c.position.result (returns-clause-place c)
