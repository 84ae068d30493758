-- The view of one plant: the lists of its pairs stand in one, and that of one pair more goes to its end.
use Rattle.std.proofs.Common.{◌≡◌, ◌+◌, List, [], ◌∷◌, ◌++◌, length, slice_range, refl, ap, ◌∙◌}
use Rattle.std.proofs.lemmas.List.{map-append}
use Rattle.std.proofs.lemmas.List.Elements.{All-head, All-tail}
use Rattle.mrp_plant_view.specs.declared.lists.Span.{Span}
use Rattle.mrp_plant_view.specs.Lists.{lists_of, IsSpan, AreSpans}
use Rattle.mrp_plant_view.proofs.Loading.{part_stays, last_part}

lists_stay : {X : Type 0} (spans : List Span) (elements more : List X) → AreSpans spans elements
    → lists_of spans (elements ++ more) ≡ lists_of spans elements
lists_stay [] elements more h = refl
lists_stay {X} (s ∷ spans) elements more h =
    ap (λ (z : List X). z ∷ lists_of spans (elements ++ more)) (part_stays elements more s.begin s.end (All-head (IsSpan elements) s spans h).within)
    ∙ ap (λ (z : List (List X)). slice_range elements s.begin s.end ∷ z) (lists_stay spans elements more (All-tail (IsSpan elements) s spans h))

-- that of one pair more goes to the end
pub lists_push : {X : Type 0} (spans : List Span) (elements more : List X) (span : Span) → AreSpans spans elements → span.begin ≡ length elements
    → span.end ≡ length elements + length more → lists_of (spans ++ span ∷ []) (elements ++ more) ≡ lists_of spans elements ++ more ∷ []
lists_push {X} spans elements more span h begin end =
    map-append (λ (s : Span). slice_range (elements ++ more) s.begin s.end) spans (span ∷ [])
    ∙ ap (λ (z : List (List X)). z ++ slice_range (elements ++ more) span.begin span.end ∷ []) (lists_stay spans elements more h)
    ∙ ap (λ (z : List X). lists_of spans elements ++ z ∷ []) (last_part elements more span.begin span.end begin end)
