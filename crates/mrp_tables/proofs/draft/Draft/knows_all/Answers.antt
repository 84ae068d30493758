use Rattle.std.proofs.Common.{◌∙◌, sym, refl, rules}
use Rattle.std.proofs.lemmas.Iterator.{YieldsList-from_slice}
use Rattle.std.proofs.lemmas.Iterator.Search.{all_from_yields_List}
use Rattle.mrp_master_data.specs.Names.{has_plant}
use Rattle.mrp_master_data.specs.Spelled.{source_view}
use Rattle.mrp_master_data.specs.declared.spelled_supplies.SpelledSource.{SpelledSource}
use Rattle.mrp_master_data.proofs.Mapped.{list_all_keys}
use Rattle.mrp_tables.proofs.draft.Draft.knows_all.Goals as goal

pub returns : goal.returns
returns c =
    let N = c.args.self.now.lists in record {
      exact = all_from_yields_List (λ (s : SpelledSource). has_plant N s.plant.now) _ _ _ c.all.ensures.ran (YieldsList-from_slice _ c.iter.ensures.rest)
          (λ x b q k. search rules)
          ∙ sym (list_all_keys source_view (λ s. has_plant N s.plant) (λ s. has_plant N s.plant.now) (λ x. refl) c.args.sources.now);
    }
