use Rattle.std.proofs.Common.{◌≡◌, ◌∙◌, ap, is_some, option_map, refl, Option, None, Some, ℕ}
use Rattle.std.specs.Str.{bytes_eq}
use Rattle.mrp_master_data.specs.declared.numbers.PlantNo.{PlantNo}
use Rattle.mrp_master_data.proofs.Keys.{is_some-position}
use Rattle.mrp_tables.proofs.draft.Draft.has_plant.Goals as goal

is_some_of : (o : Option PlantNo) → is_some o ≡ is_some (option_map (λ (p : PlantNo). p.0) o)
is_some_of None = refl
is_some_of (Some p) = refl

pub returns : goal.returns
returns c = record {
  exact = c.is_some.ensures ∙ is_some_of c.find_plant.result ∙ ap (λ (o : Option ℕ). is_some o) c.find_plant.ensures.place
      ∙ is_some-position (bytes_eq c.args.name.now) c.args.self.now.lists.plants;
}
