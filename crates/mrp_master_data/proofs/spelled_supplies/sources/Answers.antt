use Rattle.std.proofs.Common.{◌++◌, ◌∷◌, [], List, Option, map, refl, sym, ap, ◌∙◌, subst, arith, Vec, Global}
use Rattle.mrp_master_data.specs.declared.spelled_supplies.SpelledSource.{SpelledSource}
use Rattle.mrp_qty.specs.declared.limits.TheConstants.{MOST_SOURCES_OF_PAIR}
use Rattle.mrp_master_data.specs.Spelled.{AreSources, IsSource, source_view, TellsSpelled}
use Rattle.mrp_master_data.specs.Steps.{sources_with}
use Rattle.mrp_master_data.specs.Supplies.{SourceTerms}
use Rattle.mrp_master_data.proofs.Apart.{no_sources, sources_push}
use Rattle.mrp_master_data.proofs.Shares.{sources_of-split}
use Rattle.mrp_master_data.proofs.spelled_supplies.sources.Goals as goal

pub returns-then-is_name-clause-sources : goal.returns-then-is_name-clause-sources
returns-then-is_name-clause-sources c =
    let s : SpelledSource = record { plant = c.args.text; low = 0; high = 1000 } in
    let one : IsSource s = record { rises = omega arith; ends = omega arith } in
    let alone = sources_push [] s no_sources (omega arith) one refl in
    subst AreSources (sym (c.in_ok-push.ensures.items ∙ ap (λ (xs : List SpelledSource). xs ++ s ∷ []) c.in_ok-sources.ensures.items)) alone

pub shared_sources-requires-clause-sources : goal.shared_sources-requires-clause-sources
shared_sources-requires-clause-sources c = subst AreSources (sym c.in_ok-sources.ensures.items) no_sources

pub returns-clause-exact : goal.returns-clause-exact
returns-clause-exact c =
    let none = ap (λ (xs : List SpelledSource). sources_with MOST_SOURCES_OF_PAIR (map source_view xs) 0 c.args.text.now) c.in_ok-sources.ensures.items in
    let split = sources_of-split c.args.text.now (sym c.is_name.ensures ∙ c.if-is_name.false) in
    subst (λ (r : Option (List SourceTerms)). TellsSpelled (λ (found : Vec SpelledSource Global). map source_view found.items) c.shared_sources.result r) (none
    ∙ sym split) c.shared_sources.ensures.exact
