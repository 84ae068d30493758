use Rattle.std.proofs.Common.{◌∙◌, sym, refl, rules}
use Rattle.std.proofs.lemmas.Iterator.{YieldsList-from_slice}
use Rattle.std.proofs.lemmas.Iterator.Search.{any_from_yields_List}
use Rattle.std.specs.Str.{bytes_eq}
use Rattle.mrp_master_data.specs.Spelled.{source_view}
use Rattle.mrp_master_data.specs.declared.spelled_supplies.SpelledSource.{SpelledSource}
use Rattle.mrp_master_data.proofs.Mapped.{list_any_keys}
use Rattle.mrp_master_data.proofs.spelled_supplies.names_plant.Goals as goal

pub returns : goal.returns
returns c =
    let name = c.args.plant.now in record {
      exact = any_from_yields_List (λ (s : SpelledSource). bytes_eq s.plant.now name) _ _ _ c.any.ensures.ran (YieldsList-from_slice _ c.iter.ensures.rest)
          (λ x b q k. search rules)
          ∙ sym (list_any_keys source_view (λ s. bytes_eq s.plant name) (λ s. bytes_eq s.plant.now name) (λ x. refl) c.args.sources.now);
    }
