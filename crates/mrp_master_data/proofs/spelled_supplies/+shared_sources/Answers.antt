use Rattle.std.proofs.Common.{◌≡◌, ◌++◌, Bool, false, ◌+◌, ◌≤◌, length, ◌<◌, ◌-◌, ◌∙◌, ◌∷◌, [], List, ℕ, ◌==◌, if◌then◌else◌, Option, Some, None, map}
use Rattle.std.proofs.Common.{option_map, sym, ap, subst, arith, Bor, Vec, Global}
use Rattle.std.proofs.lemmas.List.{length_push, map-append}
use Rattle.std.proofs.lemmas.Result.{IfOk-weaker}
use Rattle.mrp_master_data.specs.declared.spelled_supplies.SpelledSource.{SpelledSource}
use Rattle.mrp_master_data.specs.Spelled.{source_view, AreSources, IsSource, TellsSpelled}
use Rattle.mrp_qty.specs.declared.limits.TheConstants.{MOST_SHARE}
use Rattle.mrp_master_data.specs.Steps.{sources_with}
use Rattle.mrp_master_data.specs.Supplies.{SourceTerms}
use Rattle.mrp_master_data.specs.SupplyParsing.{names_plant}
use Rattle.mrp_master_data.proofs.Apart.{sources_push}
use Rattle.mrp_master_data.proofs.Shares.{sources_with-last, sources_with-more, sources_with-none, sources_with-stop, sources_with-twice}
use Rattle.mrp_master_data.proofs.spelled_supplies.+shared_sources.Goals as goal

abbrev now_of : Option (Bor (List ℕ)) → Option (List ℕ)
now_of later = option_map (λ t. t.now) later

-- the answer of the test of a plant's name is of the sources so far
told : (xs ys : List SpelledSource) (name : List ℕ) (named is : Bool) → ys ≡ xs → named ≡ names_plant (map source_view ys) name → named ≡ is
    → names_plant (map source_view xs) name ≡ is
told xs ys name named is same exact test = ap (λ (zs : List SpelledSource). names_plant (map source_view zs) name) (sym same) ∙ sym exact ∙ test

-- the sources with one more, as they are seen
seen_more : (xs ys : List SpelledSource) (y : SpelledSource) → ys ≡ xs ++ y ∷ [] → map source_view ys ≡ map source_view xs ++ source_view y ∷ []
seen_more xs ys y e = ap (λ (zs : List SpelledSource). map source_view zs) e ∙ map-append source_view xs (y ∷ [])

-- the sources with one more, of another plant, are different plants
are_more : (xs ys : List SpelledSource) (y : SpelledSource) → AreSources xs → length xs + 1 ≤ 4 → IsSource y
    → names_plant (map source_view xs) y.plant.now ≡ false → ys ≡ xs ++ y ∷ [] → AreSources ys
are_more xs ys y are room is new e = subst AreSources (sym e) (sources_push xs y are room is new)

pub returns-then-left-eq0-clause-exact : goal.returns-then-left-eq0-clause-exact
returns-then-left-eq0-clause-exact t c = sources_with-none _ _ _ _ c.if-left-eq0.true

pub returns-in_default-clause-exact : goal.returns-in_default-clause-exact
returns-in_default-clause-exact t c =
    sources_with-stop c.args.left _ c.args.low c.args.text.now (sym c.in_default.ensures.exact)

pub returns-then-names_plant-clause-exact : goal.returns-then-names_plant-clause-exact
returns-then-names_plant-clause-exact t c =
    let s = source_view c.in-Some.source in
    let named = told c.args.sources.items _ s.plant _ _ c.as_slice.ensures.value c.names_plant.ensures.exact c.if-names_plant.true in
    sources_with-twice c.args.left _ c.args.low c.args.text.now s (now_of c.in-Some.later) (sym c.in-Some.ensures.exact) named

pub returns-in-Some-later-clause-exact : goal.returns-in-Some-later-clause-exact
returns-in-Some-later-clause-exact t c =
    let some : 0 < c.args.left = omega (arith, c.if-left-eq0.false) in
    let s = source_view c.in-Some.source in
    let before = map source_view c.args.sources.items in
    let named = told c.args.sources.items _ s.plant _ _ c.as_slice.ensures.value c.names_plant.ensures.exact c.if-names_plant.false in
    let is = sym c.in-Some.ensures.exact ∙ ap (λ (l : Option (Bor (List ℕ))). Some (s, now_of l)) c.in-Some-later.is in
    let go = sources_with-more c.args.left before c.args.low c.args.text.now s c.in-Some-later.later.now some is named in
    let pushed = seen_more c.args.sources.items _ c.in-Some.source c.in_ok-push.ensures.items in
    let total = go ∙ ap (λ (xs : List SourceTerms). sources_with (c.args.left - 1) xs s.high c.in-Some-later.later.now) (sym pushed) in
    subst (λ (r : Option (List SourceTerms)). TellsSpelled (λ (found : Vec SpelledSource Global). map source_view found.items) c.shared_sources.result r)
    (sym total) c.shared_sources.ensures.exact

pub returns-in-None-clause-exact : goal.returns-in-None-clause-exact
returns-in-None-clause-exact t c =
    let some : 0 < c.args.left = omega (arith, c.if-left-eq0.false) in
    let s = source_view c.in-Some.source in
    let before = map source_view c.args.sources.items in
    let named = told c.args.sources.items _ s.plant _ _ c.as_slice.ensures.value c.names_plant.ensures.exact c.if-names_plant.false in
    let is = sym c.in-Some.ensures.exact ∙ ap (λ (l : Option (Bor (List ℕ))). Some (s, now_of l)) c.in-None.is in
    let go = sources_with-last c.args.left before c.args.low c.args.text.now s some is named in
    let pushed = seen_more c.args.sources.items _ c.in-Some.source c.in_ok-push.ensures.items in
    let total = go ∙ ap (λ (xs : List SourceTerms). let r : Option (List SourceTerms) = if s.high == MOST_SHARE then Some xs else None in r) (sym pushed) in
    subst (λ (r : Option (List SourceTerms)). TellsSpelled (λ (found : Vec SpelledSource Global). map source_view found.items) c.all_shared.result r)
    (sym total) c.all_shared.ensures.exact

pub shared_sources-requires : goal.shared_sources-requires
shared_sources-requires t c =
    let new = told c.args.sources.items _ c.in-Some.source.plant.now _ _ c.as_slice.ensures.value c.names_plant.ensures.exact c.if-names_plant.false in
    let are : AreSources c.push.new.self.items = are_more c.args.sources.items _ c.in-Some.source (assumption)
    (omega arith) c.in-Some.ensures.source new c.in_ok-push.ensures.items in
    let longer = length_push c.args.sources.items c.in-Some.source in
    let same = ap length c.in_ok-push.ensures.items in
    (omega arith, (omega (arith, c.in-Some.ensures.source.ends), (omega (arith, longer, same), are)))

pub returns-in-None-clause-sources : goal.returns-in-None-clause-sources
returns-in-None-clause-sources t c =
    let new = told c.args.sources.items _ c.in-Some.source.plant.now _ _ c.as_slice.ensures.value c.names_plant.ensures.exact c.if-names_plant.false in
    let are : AreSources c.push.new.self.items = are_more c.args.sources.items _ c.in-Some.source (assumption)
    (omega arith) c.in-Some.ensures.source new c.in_ok-push.ensures.items in
    IfOk-weaker c.all_shared.result _ _ (λ kept e. subst AreSources (sym e) are) c.all_shared.ensures.same
