use Rattle.std.proofs.Common.{◌∙◌, sym}
use Rattle.std.specs.Str.{bytes_eq}
use Rattle.mrp_master_data.proofs.Keys.{is_some-position}
use Rattle.mrp_tables.proofs.draft.Draft.has_plant_of.Goals as goal

pub returns-else-is_some : goal.returns-else-is_some
returns-else-is_some c = c.has_plant.ensures.exact ∙ sym (is_some-position (bytes_eq c.args.plant.now) c.args.self.now.lists.plants)
